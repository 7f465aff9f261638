use Rattle.vs_undo.specs.Moves.{IsReady}
use Rattle.vs_test_commands.proofs.failing.check_steps.Given as goal

abbrev pub invariant-loop-step : goal.invariant-loop-step
invariant-loop-step g l = IsReady g.S.LineStore l.editor.tree l.editor.text
