use Rattle.std.proofs.Common.{◌≡◌, ◌≤◌, ◌+◌, ◌-◌, ◌++◌, length, max}
use Rattle.std.specs.VecDeque.{deque_capacity}
use Rattle.vs_gap.proofs.gap.raise.Given as goal

abbrev pub invariant-lines : goal.invariant-lines
invariant-lines l = record {
  lines : l.before.items ++ l.after.items ≡ l.initial.before.items ++ l.initial.after.items;
  room : length l.before.items + (l.count - length l.before.items) ≤ deque_capacity l.before;
  count : max l.count (length l.before.items) ≡ max l.count (length l.initial.before.items);
}

abbrev pub decreases-lines : goal.decreases-lines
decreases-lines l = length l.after.items
