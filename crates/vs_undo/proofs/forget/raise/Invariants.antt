use Rattle.std.proofs.Common.{◌≡◌, ◌++◌, map, take, drop}
use Rattle.vs_undo.specs.Forgetting.{raised}
use Rattle.vs_undo.proofs.forget.raise.Given as goal

abbrev pub invariant-loop-place : goal.invariant-loop-place
invariant-loop-place l = l.nodes ≡ map (raised l.child) (take l.place l.initial.nodes) ++ drop l.place l.initial.nodes
