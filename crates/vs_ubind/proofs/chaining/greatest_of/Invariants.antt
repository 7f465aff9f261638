use Rattle.std.proofs.Common.{take}
use Rattle.vs_ubind.specs.Passing.{AreLast}
use Rattle.vs_ubind.proofs.chaining.greatest_of.Given as goal

abbrev pub invariant-nodes : goal.invariant-nodes
invariant-nodes l = AreLast l.parts (take l.node-index l.parts.nodes) l.passed
