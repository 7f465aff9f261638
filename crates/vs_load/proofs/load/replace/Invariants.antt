use Rattle.std.proofs.Common.{ℕ}
use Rattle.vs_load.specs.Loads.{samples}
use Rattle.vs_load.proofs.load.replace.Given as goal

abbrev pub invariant-loop-number : goal.invariant-loop-number
invariant-loop-number g l = record {
  valid : g.S.LineStore.valid l.store;
  text : (n : ℕ) → (g.S.LineStore.shows l.fn.store).present.Is (samples n) → (g.S.LineStore.shows l.store).present.Is (samples n);
}
