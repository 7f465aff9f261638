use Rattle.std.proofs.Common.{[], ◌∷◌}
use Rattle.vs_host.specs.Trace.{Read}
use Rattle.vs_session.proofs.LookLemmas.{is_look}
use Rattle.vs_session.proofs.looking.read_bytes.Goals as goal

pub returns-clause-look : goal.returns-clause-look
returns-clause-look g c = is_look g.F.World.tells Read (c.args.name.now ∷ []) c.read_at.result (g.F.World.scene c.args.host.now) (g.F.World.scene c.read_at.new.self) c.read_at.ensures.frame c.read_at.ensures.cause c.read_at.ensures.told c.read_at.ensures.quiet
