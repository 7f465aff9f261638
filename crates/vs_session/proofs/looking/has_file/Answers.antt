use Rattle.std.proofs.Common.{[], ◌∷◌}
use Rattle.vs_host.specs.Trace.{Looked}
use Rattle.vs_session.proofs.LookLemmas.{is_look}
use Rattle.vs_session.proofs.looking.has_file.Goals as goal

pub returns-clause-look : goal.returns-clause-look
returns-clause-look g c = is_look g.F.World.tells Looked (c.args.name.now ∷ []) c.has.result (g.F.World.scene c.args.host.now) (g.F.World.scene c.has.new.self) c.has.ensures.frame c.has.ensures.cause c.has.ensures.told c.has.ensures.quiet
