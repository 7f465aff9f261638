use Rattle.std.proofs.Common.{◌≡◌, ◌-◌, length}
use Rattle.vs_ubind.specs.Unbound.{newest_of, used_within}
use Rattle.vs_ubind.proofs.linking.newest_of.Given as goal

abbrev pub invariant-used : goal.invariant-used
invariant-used l = used_within (length l.parts.nodes - l._passed) l.parts l.at ≡ newest_of l.parts
