use Rattle.std.proofs.Common.{[], ◌∷◌, refl}
use Rattle.vs_host.specs.Trace.{Read}
use Rattle.vs_disk.proofs.Quiet.{none_fails}
use Rattle.vs_pair.proofs.Acts.{acts_none}
use Rattle.vs_pair.proofs.Calls.{look_none}
use Rattle.vs_ubind.proofs.Calls.{Same, looked_once}
use Rattle.vs_ubind.proofs.Loads.{just_handed}
use Rattle.vs_ubind.proofs.fetching.first_bytes.Goals as goal

pub returns-in_err-read_at-clause-acts : goal.returns-in_err-read_at-clause-acts
returns-in_err-read_at-clause-acts g c =
    looked_once g.F.World.tells Read (c.args.name.now ∷ []) c.read_at.result (g.F.World.scene c.args.host.now) (g.F.World.scene c.read_at.new.self) c.read_at.ensures.frame c.read_at.ensures.cause c.read_at.ensures.told

pub returns-clause-acts : goal.returns-clause-acts
returns-clause-acts g c =
    looked_once g.F.World.tells Read (c.args.name.now ∷ []) c.read_at.result (g.F.World.scene c.args.host.now) (g.F.World.scene c.read_at.new.self) c.read_at.ensures.frame c.read_at.ensures.cause c.read_at.ensures.told

pub returns-clause-none : goal.returns-clause-none
returns-clause-none g c calm =
    look_none g.F.World.tells Read (c.args.name.now ∷ []) c.read_at.result (g.F.World.scene c.args.host.now) (g.F.World.scene c.read_at.new.self) c.read_at.ensures.frame c.read_at.ensures.told c.in_ok-read_at.ensures.quiet

pub returns-in_err-bytes-clause-acts : goal.returns-in_err-bytes-clause-acts
returns-in_err-bytes-clause-acts g c = acts_none g.F.World.tells Same (g.F.World.scene c.args.host.now) refl

pub returns-in_err-bytes-clause-none : goal.returns-in_err-bytes-clause-none
returns-in_err-bytes-clause-none g c calm = none_fails g.F.World.tells (g.F.World.scene c.args.host.now)

pub returns-in_err-read_at-clause-none : goal.returns-in_err-read_at-clause-none
returns-in_err-read_at-clause-none g c calm = absurd (calm (just_handed c.from_residual-in_err-read_at.result _ c.from_residual-in_err-read_at.ensures.1))
