use Rattle.std.proofs.Common.{◌≡◌, ◌≤◌, take, length}
use Rattle.std.specs.Prelude.{reverse}
use Rattle.vs_memory.specs.Folders.{undone}
use Rattle.vs_memory.proofs.image.undo_all.Given as goal

abbrev pub invariant-loop-i : goal.invariant-loop-i
invariant-loop-i l = record {
  within : l.i ≤ length l.ranges;
  left : undone (reverse (take l.i l.ranges)) l.bytes.items ≡ undone (reverse l.ranges) l.fn.bytes.items;
}

abbrev pub decreases-loop-i : goal.decreases-loop-i
decreases-loop-i l = l.i
