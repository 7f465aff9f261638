use Rattle.std.proofs.Common.{◌≡◌, length}
use Rattle.vs_host.specs.Trace.{Measured}
use Rattle.vs_recover.proofs.ReadingLaws.{measured, reads_called, reads_failed}
use Rattle.vs_recover.proofs.calls.file_len.Goals as goal

pub returns-clause-value : goal.returns-clause-value
returns-clause-value g c = measured g.F.World.tells (g.F.World.scene c.args.host.now) c.args.name.now (λ file. c.in_ok-len.len ≡ length file) c.requires.there c.in_ok-len.ensures.value

pub returns-in_err-len-clause-reading : goal.returns-in_err-len-clause-reading
returns-in_err-len-clause-reading g c = reads_failed g.F.World.tells Measured _ c.len.result _ _ c.len.ensures.frame c.len.ensures.told c.len.ensures.cause c.in_err-len.was c.from_residual.ensures.1

pub returns-clause-reading : goal.returns-clause-reading
returns-clause-reading g c = reads_called g.F.World.tells Measured _ c.len.result _ _ c.len.ensures.frame c.len.ensures.told c.in_ok-len.ensures.quiet
