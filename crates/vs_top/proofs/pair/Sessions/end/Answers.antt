use Rattle.std.proofs.Common.{◌∷◌, refl, arith}
use Rattle.vs_family.specs.declared.which.Which.TheVariants as which
use Rattle.vs_top.specs.PairPromise.{EndsPair, HasRunBoth}
use Rattle.vs_top.specs.PairScript.{ScriptEnd, SessionEnd, Transcript}
use Rattle.vs_top.specs.PairTurns.{EndedBoth, HasNext}
use Rattle.vs_top.proofs.PairCalls.{by_call, by_err}
use Rattle.vs_top.proofs.PairEnds.{has_ended}
use Rattle.vs_top.proofs.PairRoom.{usable_fewer}
use Rattle.vs_top.proofs.PairTakes.{item}
use Rattle.vs_top.proofs.pair.Sessions.end.Goals as goal

pub end_script-requires : goal.end_script-requires
end_script-requires g c = record { usable = usable_fewer g.H.World.tells c.args.self.now 2 1 (g.H.World.scene c.args.host.now) (omega arith) c.requires.usable }

pub end_script-requires-2 : goal.end_script-requires-2
end_script-requires-2 g c = record { usable = c.end_script.ensures.usable 1 c.requires.usable }

pub end_session-requires : goal.end_session-requires
end_session-requires g c = record { usable = c.end_script-2.ensures.usable 0 (c.end_script.ensures.usable 1 c.requires.usable) }

pub end_session-requires-2 : goal.end_session-requires-2
end_session-requires-2 g c = record { usable = c.end_session.ensures.usable 0 (c.end_script-2.ensures.usable 0 (c.end_script.ensures.usable 1 c.requires.usable)) }

pub returns-in_err-end_script-clause-keeps : goal.returns-in_err-end_script-clause-keeps
returns-in_err-end_script-clause-keeps g c = λ one two old keeps.
    by_err c.from_residual.result _ (λ e. EndsPair g.H.World.tells one two old (g.H.World.scene c.end_script.new.host) e c.end_script.new.marks.items) _ _ c.from_residual.ensures.1 refl
    (c.in_err-end_script.ensures.keeps one two old keeps)

pub returns-in_err-end_script-clause-told : goal.returns-in_err-end_script-clause-told
returns-in_err-end_script-clause-told g c = λ told one two old transcript placed here comes.
    by_err c.from_residual.result _ (λ e. HasRunBoth one two old (g.H.World.scene c.end_script.new.host) e c.end_script.new.marks.items) _ _ c.from_residual.ensures.1 refl
    (c.in_err-end_script.ensures.told told one two old transcript placed here comes)

pub returns-in_err-end_script-2-clause-told : goal.returns-in_err-end_script-2-clause-told
returns-in_err-end_script-2-clause-told g c = λ told one two old transcript placed here comes.
    let first = c.in_ok-end_script.ensures.told told one two old transcript placed here comes in
    by_err c.from_residual-in_err-end_script-2.result _ (λ e. HasRunBoth one two old (g.H.World.scene c.end_script-2.new.host) e c.end_script-2.new.marks.items) _ _ c.from_residual-in_err-end_script-2.ensures.1 refl
    (c.in_err-end_script-2.ensures.told told one two old (item (ScriptEnd which.One) first.0 ∷ transcript) first.1 first.2 refl)

pub returns-in_err-end_session-clause-told : goal.returns-in_err-end_session-clause-told
returns-in_err-end_session-clause-told g c = λ told one two old transcript placed here comes.
    let first = c.in_ok-end_script.ensures.told told one two old transcript placed here comes in
    let both : Transcript = item (ScriptEnd which.One) first.0 ∷ transcript in
    let second = c.in_ok-end_script-2.ensures.told told one two old both first.1 first.2 refl in
    by_err c.from_residual-in_err-end_session.result _ (λ e. HasRunBoth one two old (g.H.World.scene c.end_session.new.host) e c.end_script-2.new.marks.items) _ _ c.from_residual-in_err-end_session.ensures.1 refl
    (c.in_err-end_session.ensures.told told one two old c.end_script-2.new.marks.items (item (ScriptEnd which.Two) second.0 ∷ both) second.1 second.2 refl)

pub returns-clause-keeps : goal.returns-clause-keeps
returns-clause-keeps g c = λ one two old keeps.
    let first = c.in_ok-end_script.ensures.keeps one two old keeps in
    let second = c.in_ok-end_script-2.ensures.keeps one two old first in
    let third = c.in_ok-end_session.ensures.keeps one two old c.end_script-2.new.marks.items second in
    c.end_session-2.ensures.keeps one two old c.end_script-2.new.marks.items third

pub returns-clause-told : goal.returns-clause-told
returns-clause-told g c = λ told one two old transcript placed here comes.
    let first = c.in_ok-end_script.ensures.told told one two old transcript placed here comes in
    let both : Transcript = item (ScriptEnd which.One) first.0 ∷ transcript in
    let second = c.in_ok-end_script-2.ensures.told told one two old both first.1 first.2 refl in
    let closing : Transcript = item (ScriptEnd which.Two) second.0 ∷ both in
    let third = c.in_ok-end_session.ensures.told told one two old c.end_script-2.new.marks.items closing second.1 second.2 refl in
    let last : Transcript = item (SessionEnd which.One) third.0 ∷ closing in
    by_call c.end_session-2.result (HasNext one two old (g.H.World.scene c.end_session-2.new.host) c.end_session-2.new.self c.end_script-2.new.marks.items last (SessionEnd which.Two))
    (EndedBoth one two old (g.H.World.scene c.end_session-2.new.host) c.end_session-2.new.self c.end_script-2.new.marks.items)
    (λ e. HasRunBoth one two old (g.H.World.scene c.end_session-2.new.host) e c.end_script-2.new.marks.items) (λ e. HasRunBoth one two old (g.H.World.scene c.end_session-2.new.host) e c.end_script-2.new.marks.items)
    (has_ended one two old (g.H.World.scene c.end_session-2.new.host) c.end_session-2.new.self c.end_script-2.new.marks.items last) (λ e ran. ran)
    (c.end_session-2.ensures.told told one two old c.end_script-2.new.marks.items last third.1 third.2 refl)
