use Rattle.vs_host.specs.Trace.{Looked}
use Rattle.vs_recover.proofs.ReadingLaws.{reads_called, reads_failed}
use Rattle.vs_recover.proofs.calls.has_file.Goals as goal

pub returns-in_err-there-clause-reading : goal.returns-in_err-there-clause-reading
returns-in_err-there-clause-reading g c = reads_failed g.F.World.tells Looked _ c.has.result _ _ c.has.ensures.frame c.has.ensures.told c.has.ensures.cause c.in_err-there.was c.from_residual.ensures.1

pub returns-clause-reading : goal.returns-clause-reading
returns-clause-reading g c = reads_called g.F.World.tells Looked _ c.has.result _ _ c.has.ensures.frame c.has.ensures.told c.in_ok-there.ensures.quiet
