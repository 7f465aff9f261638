use Rattle.std.proofs.Common.{◌≡◌, map, take}
use Rattle.vs_ubind.specs.Passing.{alt_next_of, AreLast}
use Rattle.vs_ubind.proofs.chaining.alt_nexts.Given as goal

abbrev pub invariant-nodes : goal.invariant-nodes
invariant-nodes l = record {
  passed : AreLast l.parts (take l.node-index l.parts.nodes) l.passed;
  nexts : l.nexts.items ≡ map (alt_next_of l.parts) (take l.node-index l.parts.nodes);
}
