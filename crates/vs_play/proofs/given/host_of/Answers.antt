-- Where no call was made, no change of a name is pending.
use Rattle.vs_memory.proofs.Settled.{settled}
use Rattle.vs_play.proofs.given.host_of.Goals as goal

pub returns-clause-settled : goal.returns-clause-settled
returns-clause-settled c = settled c.loop-file.host.base c.loop-file.host.log c.loop-file.invariant.log
