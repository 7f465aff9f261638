use Rattle.std.proofs.Common.{◌≡◌, ◌≤◌, ℕ, is_some, false}
use Rattle.vs_pages.specs.Table.{cells_of}
use Rattle.vs_pages.proofs.table.Table.end_below.Given as goal

abbrev pub invariant-places : goal.invariant-places
invariant-places l = (k : ℕ) → l.end ≤ k → is_some (cells_of l.self.places.items k) ≡ false

abbrev pub decreases-places : goal.decreases-places
decreases-places l = l.end
