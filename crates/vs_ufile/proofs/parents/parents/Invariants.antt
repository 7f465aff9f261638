use Rattle.std.proofs.Common.{◌≡◌, ℕ, ◌<◌, length}
use Rattle.vs_ufile.specs.Walks.{at}
use Rattle.vs_ufile.proofs.parents.parents.Given as goal

abbrev pub invariant-places : goal.invariant-places
invariant-places l = (length l.parents.items ≡ l.head-index) × ((i : ℕ) → i < l.head-index → at l.parents.items i ≡ at l.next (at l.heads i))
