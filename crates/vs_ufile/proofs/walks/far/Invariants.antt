use Rattle.std.proofs.Common.{◌-◌, ◌<◌, length}
use Rattle.std.specs.Prelude.{All}
use Rattle.vs_ufile.specs.Walks.{LeadsFar}
use Rattle.vs_ufile.proofs.walks.far.Given as goal

abbrev pub invariant-longer : goal.invariant-longer
invariant-longer l = record { some : 0 < l.steps; far : LeadsFar l.links l.steps l.far.items; within : All (λ x. x < length l.links) l.far.items }

abbrev pub decreases-longer : goal.decreases-longer
decreases-longer l = length l.links - l.steps
