use Rattle.std.proofs.Common.{◌≡◌, ◌-◌, length, map, drop, reverse}
use Rattle.vs_ubind.specs.Passing.{alt_prev_of, AreFirst}
use Rattle.vs_ubind.proofs.chaining.alt_prevs.Given as goal

abbrev pub invariant-places : goal.invariant-places
invariant-places l = record {
  passed : AreFirst l.parts (drop (length l.parts.nodes - l.done) l.parts.nodes) l.passed;
  prevs : reverse l.prevs.items ≡ map (alt_prev_of l.parts) (drop (length l.parts.nodes - l.done) l.parts.nodes);
}
