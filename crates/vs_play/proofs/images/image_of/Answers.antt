-- An image is a new host, in which no call was made.
use Rattle.std.proofs.Common.{ap}
use Rattle.vs_memory.specs.Memory.{Memory}
use Rattle.vs_memory.proofs.Settled.{settled}
use Rattle.vs_play.proofs.images.image_of.Goals as goal

pub returns-clause-settled : goal.returns-clause-settled
returns-clause-settled c = settled c.in_ok-image.image.base c.in_ok-image.image.log (ap (λ (host : Memory). host.log) c.in_ok-image.ensures.fresh)
