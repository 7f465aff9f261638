use Rattle.std.proofs.Common.{◌≡◌, ◌≤◌, ◌++◌}
use Rattle.std.specs.Vec.{vec_capacity}
use Rattle.vs_edit.proofs.vec_store.move_lines.Given as goal

abbrev pub invariant-loop-line : goal.invariant-loop-line
invariant-loop-line l = record {
  moved : l.into.items ≡ l.initial.into.items ++ l.yielded;
  room : vec_capacity l.initial.into ≤ vec_capacity l.into;
}
