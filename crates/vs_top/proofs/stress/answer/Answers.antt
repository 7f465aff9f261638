use Rattle.std.proofs.Common.{◌≡◌, ◌∙◌, ℕ, Bool, ◌&&◌, List, ◌++◌, ◌∷◌, [], length, refl, ap, sym, subst, arith}
use Rattle.std.proofs.lemmas.List.{length-append}
use Rattle.vs_host.specs.World.{Scene}
use Rattle.vs_machine.specs.declared.command.Mark.{Mark}
use Rattle.vs_session.specs.Session.{writes_files}
use Rattle.vs_top.specs.Stress.{IsSceneOf}
use Rattle.vs_top.specs.StressTurns.{IsStressTurn}
use Rattle.vs_top.proofs.StressSteps.{turn_on}
use Rattle.vs_top.proofs.stress.answer.Goals as goal

pub returns-clause-ok : goal.returns-clause-ok
returns-clause-ok g c = λ old commands instruction meant turn.
    let now : Scene = g.H.World.scene c.args.host.now in
    let new : Scene = g.H.World.scene c.step.new.host in
    let kept : c.keep.new.marks.items ≡ c.args.marks.now.items ++ c.in-Answer.mark ∷ [] = c.keep.ensures ∙ ap (λ (l : List Mark). l ++ c.in-Answer.mark ∷ []) c.reserve.ensures.items in
    subst (λ (l : List Mark). IsStressTurn (IsSceneOf g.H.World.scene) g.H.World.tells old new c.step.new.self l (c.args.clean && c.is_clean-went_well.result) (commands ++ instruction ∷ [])) (sym kept)
    (subst (λ (b : Bool). IsStressTurn (IsSceneOf g.H.World.scene) g.H.World.tells old new c.step.new.self (c.args.marks.now.items ++ c.in-Answer.mark ∷ []) (c.args.clean && b) (commands ++ instruction ∷ [])) (sym c.is_clean-went_well.ensures)
    (turn_on (IsSceneOf g.H.World.scene) g.H.World.tells old now new c.args.session.now c.step.new.self c.args.marks.now.items c.args.clean c.args.request.now c.in-Answer.mark c.in-Answer.reply instruction commands
    (record { step = c.in-Answer.ensures.step; frame = c.step.ensures.frame; later = c.step.ensures.cause.later; risen = c.in-Answer.ensures.cause.risen; names = c.step.ensures.file.names; clock = c.in-Answer.ensures.clock })
    (g.H.World.newest c.step.new.host) (c.step.new.host, refl) meant (sym (ap writes_files meant.parsed) ∙ c.requires.plain) turn))

pub returns-clause-clock : goal.returns-clause-clock
returns-clause-clock g c = λ told.
    let one : List ℕ = c.in-Answer.mark.at ∷ [] in
    omega (arith, ap (λ (l : List ℕ). length l) (c.in-Answer.ensures.clock told), length-append (g.H.World.scene c.args.host.now).answers one)

pub returns-clause-fits : goal.returns-clause-fits
returns-clause-fits g c = λ told instruction meant.
    let was = c.requires.fits told in
    (_, _, (c.in-Answer.ensures.step told was.0 was.1 instruction was.2 meant).fits)
