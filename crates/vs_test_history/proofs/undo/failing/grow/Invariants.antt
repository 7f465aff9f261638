use Rattle.vs_undo.specs.Moves.{IsReady}
use Rattle.vs_test_history.proofs.undo.failing.grow.Given as goal

abbrev pub invariant-loop-line : goal.invariant-loop-line
invariant-loop-line g l = IsReady g.S.LineStore l.editor.tree l.editor.text
