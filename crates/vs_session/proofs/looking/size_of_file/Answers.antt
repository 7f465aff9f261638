use Rattle.std.proofs.Common.{[], ◌∷◌}
use Rattle.vs_host.specs.Trace.{Measured}
use Rattle.vs_session.proofs.LookLemmas.{is_look}
use Rattle.vs_session.proofs.looking.size_of_file.Goals as goal

pub returns-clause-look : goal.returns-clause-look
returns-clause-look g c = is_look g.F.World.tells Measured (c.args.name.now ∷ []) c.len.result (g.F.World.scene c.args.host.now) (g.F.World.scene c.len.new.self) c.len.ensures.frame c.len.ensures.cause c.len.ensures.told c.len.ensures.quiet
