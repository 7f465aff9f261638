use Rattle.std.proofs.Common.{◌≡◌, ◌∷◌, ℕ, ◌<◌, length}
use Rattle.vs_ufile.specs.Descent.{unplaced}
use Rattle.vs_ufile.specs.Reading.{numbers_of}
use Rattle.vs_ufile.specs.Walks.{at}
use Rattle.vs_ufile.proofs.descent.numbers_at.Given as goal

abbrev pub invariant-places : goal.invariant-places
invariant-places l = (length l.numbers.items ≡ l.place-index) × ((i : ℕ) → i < l.place-index → at l.numbers.items i ≡ at (0 ∷ numbers_of (unplaced l.changes)) (at l.places i))
