use Rattle.std.proofs.Common.{◌≡◌, ℕ, ◌<◌, length}
use Rattle.std.specs.Prelude.{if◌then◌else◌, ◌==◌}
use Rattle.vs_ufile.specs.Walks.{at}
use Rattle.vs_ufile.proofs.chains.stopping.Given as goal

abbrev pub invariant-places : goal.invariant-places
invariant-places l = (length l.new.items ≡ l.place) × ((i : ℕ) → i < l.place → at l.new.items i ≡ (if at l.before i == 0 then i else at l.before i))
