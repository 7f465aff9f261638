use Rattle.std.proofs.Common.{◌≡◌, ◌≤◌, ◌+◌, ◌-◌, ◌++◌, length, min}
use Rattle.std.specs.VecDeque.{deque_capacity}
use Rattle.vs_gap.proofs.gap.lower.Given as goal

abbrev pub invariant-lines : goal.invariant-lines
invariant-lines l = record {
  lines : l.before.items ++ l.after.items ≡ l.initial.before.items ++ l.initial.after.items;
  room : length l.after.items + (length l.before.items - l.left) ≤ deque_capacity l.after;
  left : min l.left (length l.before.items) ≡ min l.left (length l.initial.before.items);
}

abbrev pub decreases-lines : goal.decreases-lines
decreases-lines l = length l.before.items
