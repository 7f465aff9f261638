use Rattle.std.proofs.Common.{◌≡◌, ◌≤◌, ◌+◌, ◌++◌, length, reverse, drop}
use Rattle.vs_ptr.specs.Blocks.{entries_of}
use Rattle.vs_damaged.proofs.finds.push_entries.Given as goal

abbrev pub invariant-loop-at : goal.invariant-loop-at
invariant-loop-at l = record {
  within : l.at ≤ l.view.count;
  entries : reverse l.left.items ≡ drop l.at (entries_of l.block) ++ reverse l.fn.left.items;
  len : length l.left.items + l.at ≡ length l.fn.left.items + l.view.count;
}

abbrev pub decreases-loop-at : goal.decreases-loop-at
decreases-loop-at l = l.at
