use Rattle.std.proofs.Common.{◌∙◌, ◌+◌, ap, sym, arith}
use Rattle.std.specs.Prelude.{is_none}
use Rattle.vs_host.specs.World.{Scene}
use Rattle.vs_script.specs.Feed.{Between}
use Rattle.vs_multi.specs.declared.multi.Multi.{Multi}
use Rattle.vs_multi.specs.Multi.{session_of}
use Rattle.vs_top.proofs.PairEnds.{end_answered, end_over, end_silent, keeps_multi}
use Rattle.vs_top.proofs.PairRoom.{ready_of, usable_fed, usable_fewer}
use Rattle.vs_top.proofs.pair.Sessions.end_script.Goals as goal

pub returns-then-is_finished-clause-usable : goal.returns-then-is_finished-clause-usable
returns-then-is_finished-clause-usable g c = λ more usable. usable_fewer g.H.World.tells c.args.self.now (more + 1) more (g.H.World.scene c.args.host.now) (omega arith) usable

pub returns-then-is_finished-clause-told : goal.returns-then-is_finished-clause-told
returns-then-is_finished-clause-told g c = λ told one two old transcript placed here comes.
    end_over c.args.which one two old (g.H.World.scene c.args.host.now) c.args.self.now c.args.marks.now.items transcript placed here comes (sym c.is_finished.ensures ∙ c.if-is_finished.true)

pub end_block-requires : goal.end_block-requires
end_block-requires g c = ready_of g.H.World.tells c.args.self.now 1 (g.H.World.scene c.args.host.now) c.args.which c.requires.usable

pub answer-requires-clause-open : goal.answer-requires-clause-open
answer-requires-clause-open g c = ap (λ (m : Multi). is_none (session_of c.args.which m)) c.end_block.ensures.same.0 ∙ (sym c.is_finished.ensures ∙ c.if-is_finished.false)

pub answer-requires-clause-usable : goal.answer-requires-clause-usable
answer-requires-clause-usable g c =
    usable_fed g.H.World.tells c.args.self.now c.end_block.new.self 1 (g.H.World.scene c.args.host.now) c.args.which c.end_block.ensures.same.0 (Between, c.end_block.ensures.left) c.end_block.ensures.other c.requires.usable

pub returns-in-Some-clause-usable : goal.returns-in-Some-clause-usable
returns-in-Some-clause-usable g c = λ more usable.
    c.answer.ensures.usable more
    (usable_fed g.H.World.tells c.args.self.now c.end_block.new.self (more + 1) (g.H.World.scene c.args.host.now) c.args.which c.end_block.ensures.same.0 (Between, c.end_block.ensures.left) c.end_block.ensures.other usable)

pub returns-in-Some-clause-keeps : goal.returns-in-Some-clause-keeps
returns-in-Some-clause-keeps g c = λ one two old keeps.
    c.answer.ensures.keeps one two old
    (keeps_multi g.H.World.tells one two old (g.H.World.scene c.args.host.now) c.args.self.now.multi c.end_block.new.self.multi c.args.marks.now.items c.end_block.ensures.same.0 keeps)

pub returns-in-Some-clause-told : goal.returns-in-Some-clause-told
returns-in-Some-clause-told g c = λ told one two old transcript placed here comes.
    end_answered c.args.which one two old (g.H.World.scene c.args.host.now) c.args.self.now c.args.marks.now.items transcript placed here comes (sym c.is_finished.ensures ∙ c.if-is_finished.false) c.end_block.new.self
    c.end_block.ensures.same.0 c.end_block.ensures.same.1 c.end_block.ensures.other c.end_block.ensures.left c.in-Some.request c.in-Some.ensures.ended
    (g.H.World.scene c.answer.new.host) c.answer.new.self c.answer.new.marks.items c.answer.ensures.others c.answer.ensures.same.0 c.answer.ensures.same.1 c.answer.result
    (λ source command at meant asks. c.answer.ensures.told told one two old transcript source command at meant asks)

pub returns-in-None-clause-usable : goal.returns-in-None-clause-usable
returns-in-None-clause-usable g c = λ more usable.
    let now : Scene = g.H.World.scene c.args.host.now in
    usable_fewer g.H.World.tells c.end_block.new.self (more + 1) more now (omega arith)
    (usable_fed g.H.World.tells c.args.self.now c.end_block.new.self (more + 1) now c.args.which c.end_block.ensures.same.0 (Between, c.end_block.ensures.left) c.end_block.ensures.other usable)

pub returns-in-None-clause-keeps : goal.returns-in-None-clause-keeps
returns-in-None-clause-keeps g c = λ one two old keeps.
    keeps_multi g.H.World.tells one two old (g.H.World.scene c.args.host.now) c.args.self.now.multi c.end_block.new.self.multi c.args.marks.now.items c.end_block.ensures.same.0 keeps

pub returns-in-None-clause-told : goal.returns-in-None-clause-told
returns-in-None-clause-told g c = λ told one two old transcript placed here comes.
    end_silent c.args.which one two old (g.H.World.scene c.args.host.now) c.args.self.now c.args.marks.now.items transcript placed here comes (sym c.is_finished.ensures ∙ c.if-is_finished.false) c.end_block.new.self
    c.end_block.ensures.same.0 c.end_block.ensures.same.1 c.end_block.ensures.other c.end_block.ensures.left c.in-None.ensures.ended
