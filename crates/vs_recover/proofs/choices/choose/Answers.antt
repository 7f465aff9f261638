use Rattle.std.proofs.Common.{List, ℕ, subst}
use Rattle.vs_host.specs.World.{content_of}
use Rattle.vs_recover.specs.Choices.{IsChoice}
use Rattle.vs_recover.proofs.choices.choose.Goals as goal

pub returns-clause-answer : goal.returns-clause-answer
returns-clause-answer g c = λ told.
    subst (λ (a : List ℕ). IsChoice (content_of (g.F.World.scene c.args.host.now) a) (content_of (g.F.World.scene c.args.host.now) c.args.names.now.swo) c.choose_of.result) c.as_str.ensures
    (subst (λ (b : List ℕ). IsChoice (content_of (g.F.World.scene c.args.host.now) c.as_str.result.now) (content_of (g.F.World.scene c.args.host.now) b) c.choose_of.result) c.as_str-2.ensures (c.choose_of.ensures.answer told))
