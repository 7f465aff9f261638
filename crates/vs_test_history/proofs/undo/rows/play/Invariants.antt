use Rattle.vs_undo.specs.Moves.{IsReady}
use Rattle.vs_test_history.proofs.undo.rows.play.Given as goal

abbrev pub invariant-loop-row : goal.invariant-loop-row
invariant-loop-row g l = IsReady g.S.LineStore l.editor.tree l.editor.text
