use Rattle.std.proofs.Common.{◌∙◌, sym}
use Rattle.vs_top.proofs.PairEnds.{last_answered, last_keeps, last_over}
use Rattle.vs_top.proofs.pair.Sessions.end_session.Goals as goal

pub returns-then-is_finished-clause-told : goal.returns-then-is_finished-clause-told
returns-then-is_finished-clause-told g c = λ told one two old marks transcript placed here comes.
    last_over c.args.which one two old (g.H.World.scene c.args.host.now) c.args.self.now marks transcript placed here comes (sym c.is_finished.ensures ∙ c.if-is_finished.true)

pub close-requires-clause-open : goal.close-requires-clause-open
close-requires-clause-open g c = sym c.is_finished.ensures ∙ c.if-is_finished.false

pub returns-clause-keeps : goal.returns-clause-keeps
returns-clause-keeps g c = λ one two old marks keeps.
    last_keeps g.H.World.tells one two old (g.H.World.scene c.args.host.now) (g.H.World.scene c.close.new.host) c.args.which c.args.self.now.multi c.close.new.self.multi marks c.close.result
    (sym c.is_finished.ensures ∙ c.if-is_finished.false) c.close.ensures.gone c.close.ensures.others (λ most was. c.close.ensures.keeps one two old most marks was) keeps

pub returns-clause-told : goal.returns-clause-told
returns-clause-told g c = λ told one two old marks transcript placed here comes.
    last_answered c.args.which one two old (g.H.World.scene c.args.host.now) c.args.self.now marks transcript placed here comes (sym c.is_finished.ensures ∙ c.if-is_finished.false)
    (g.H.World.scene c.close.new.host) c.close.new.self c.close.ensures.gone c.close.ensures.others c.close.ensures.same.0 c.close.ensures.same.1 c.close.result
    (λ source quit at asks. c.close.ensures.told told one two old marks transcript source quit at asks)
