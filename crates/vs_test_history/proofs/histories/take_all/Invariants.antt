use Rattle.vs_undo.specs.Moves.{IsReady}
use Rattle.vs_test_history.proofs.histories.take_all.Given as goal

abbrev pub invariant-loop-step : goal.invariant-loop-step
invariant-loop-step g l = IsReady g.S.LineStore l.editor.tree l.editor.text
