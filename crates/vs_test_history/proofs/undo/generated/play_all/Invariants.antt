use Rattle.vs_undo.specs.Moves.{IsReady}
use Rattle.vs_test_history.proofs.undo.generated.play_all.Given as goal

abbrev pub invariant-loop : goal.invariant-loop
invariant-loop g l = IsReady g.S.LineStore l.editor.tree l.editor.text
