use Rattle.std.proofs.Common.{List, ℕ, subst}
use Rattle.vs_host.specs.World.{content_of}
use Rattle.vs_recover.specs.Infos.{IsInfos}
use Rattle.vs_recover.proofs.infos.info.Goals as goal

pub returns-clause-answer : goal.returns-clause-answer
returns-clause-answer g c = λ told.
    let swo : List ℕ = c.args.names.now.swo in
    subst (λ (a : List ℕ). IsInfos (content_of (g.F.World.scene c.args.host.now) a) (content_of (g.F.World.scene c.args.host.now) swo) a swo c.info_of.result) c.as_str.ensures
    (subst (λ (b : List ℕ). IsInfos (content_of (g.F.World.scene c.args.host.now) c.as_str.result.now) (content_of (g.F.World.scene c.args.host.now) b) c.as_str.result.now b c.info_of.result) c.as_str-2.ensures (c.info_of.ensures.answer told))
