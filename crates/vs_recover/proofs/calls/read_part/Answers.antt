use Rattle.std.proofs.Common.{◌≡◌, length, take, drop}
use Rattle.vs_host.specs.Trace.{Read}
use Rattle.vs_recover.proofs.PageLaws.{if_some}
use Rattle.vs_recover.proofs.ReadingLaws.{reads_called, reads_failed}
use Rattle.vs_recover.proofs.calls.read_part.Goals as goal

pub returns-clause-value : goal.returns-clause-value
returns-clause-value g c = λ file is. if_some _ file (λ bytes. c.read_at.new.into ≡ take (length c.args.into.now) (drop c.args.at bytes)) is.there (c.in_ok-read_at.ensures.value is.told)

pub returns-in_err-read_at-clause-reading : goal.returns-in_err-read_at-clause-reading
returns-in_err-read_at-clause-reading g c = reads_failed g.F.World.tells Read _ c.read_at.result _ _ c.read_at.ensures.frame c.read_at.ensures.told c.read_at.ensures.cause c.in_err-read_at.was c.from_residual.ensures.1

pub returns-clause-reading : goal.returns-clause-reading
returns-clause-reading g c = reads_called g.F.World.tells Read _ c.read_at.result _ _ c.read_at.ensures.frame c.read_at.ensures.told c.in_ok-read_at.ensures.quiet
