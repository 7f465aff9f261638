use Rattle.std.proofs.Common.{◌≡◌, ◌<◌, ℕ, get_or, length}
use Rattle.vs_outward.proofs.order.places.Given as goal

abbrev pub invariant-places : goal.invariant-places
invariant-places l = record {
  count : length l.places.items ≡ l.place;
  each : (k : ℕ) → k < l.place → get_or l.places.items k k ≡ k;
}
