use Rattle.std.proofs.Common.{ℕ, ◌+◌, ◌*◌}
use Rattle.vs_load.specs.Loads.{samples}
use Rattle.vs_load.proofs.load.append.Given as goal

abbrev pub invariant-loop : goal.invariant-loop
invariant-loop g l = record {
  valid : g.S.LineStore.valid l.store;
  text : (n : ℕ) → (g.S.LineStore.shows l.fn.store).present.Is (samples n) → (g.S.LineStore.shows l.store).present.Is (samples (n + l.counter * l.size));
}
