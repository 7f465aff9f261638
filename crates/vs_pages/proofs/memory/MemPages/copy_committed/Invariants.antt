use Rattle.std.proofs.Common.{◌≡◌, ◌-◌, ◌≤◌, ℕ, length, drop}
use Rattle.vs_pages.specs.Cells.{Cells}
use Rattle.vs_pages.specs.Table.{IsPlace}
use Rattle.vs_pages.specs.History.{first_of, CanUndoAll}
use Rattle.vs_pages.specs.Memory.{changes_of, kept_of}
use Rattle.vs_pages.proofs.memory.MemPages.copy_committed.Given as goal

abbrev pub invariant-changes : goal.invariant-changes
invariant-changes l = record {
  most : l.left ≤ length l.self.log.items;
  size : length l.into ≡ 4096;
  map : Cells;
  places : ℕ;
  can : CanUndoAll map places (drop (length l.self.log.items - l.left) (changes_of l.self));
  first : first_of map (drop (length l.self.log.items - l.left) (changes_of l.self)) ≡ first_of (kept_of l.self) (changes_of l.self);
  place : IsPlace l.there l.into (map l.at);
}

abbrev pub decreases-changes : goal.decreases-changes
decreases-changes l = l.left
