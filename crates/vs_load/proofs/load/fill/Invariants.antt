use Rattle.std.proofs.Common.{ℕ, ◌+◌, ◌-◌, ◌≤◌}
use Rattle.vs_load.specs.Loads.{samples}
use Rattle.vs_load.proofs.load.fill.Given as goal

abbrev pub invariant-loop-done : goal.invariant-loop-done
invariant-loop-done g l = record {
  valid : g.S.LineStore.valid l.store;
  text : (n : ℕ) → (g.S.LineStore.shows l.fn.store).present.Is (samples n) → (g.S.LineStore.shows l.store).present.Is (samples (n + l.done));
  within : l.done ≤ l.count;
}

abbrev pub decreases-loop-done : goal.decreases-loop-done
decreases-loop-done g l = l.count - l.done
