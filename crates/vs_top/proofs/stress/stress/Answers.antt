use Rattle.std.proofs.Common.{length, refl, ap, inl, inr, arith, Err}
use Rattle.vs_host.specs.Names.{names_of_file}
use Rattle.vs_host.specs.World.{Scene}
use Rattle.vs_top.specs.Stress.{IsSceneOf, stress_name}
use Rattle.vs_top.proofs.Edits.{settled, file_fits}
use Rattle.vs_top.proofs.StressEnds.{no_memory, stress_ending}
use Rattle.vs_top.proofs.StressOpening.{stress_open_fails, stress_opened}
use Rattle.vs_top.proofs.stress.stress.Goals as goal

pub open-requires-clause-name : goal.open-requires-clause-name
open-requires-clause-name g c = refl

pub open-requires-clause-settled : goal.open-requires-clause-settled
open-requires-clause-settled g c = λ told. settled (names_of_file stress_name) (g.H.World.scene c.args.host.now).folder (c.requires.settled told)

pub returns-in_err-session : goal.returns-in_err-session
returns-in_err-session g c =
    let old : Scene = g.H.World.scene c.args.host.now in
    let new : Scene = g.H.World.scene c.open.new.host in
    stress_ending (IsSceneOf g.H.World.scene) g.H.World.tells c.args.count old new c.args.marks.now.items c.from_residual.result _ _ c.from_residual.ensures.1 refl
    (stress_open_fails (IsSceneOf g.H.World.scene) g.H.World.tells old new c.open.ensures.acts (c.open.new.host, refl) c.args.count c.args.marks.now.items c.requires.marks _
    (λ is. c.in_err-session.ensures.cause.risen (ap Err is)) (λ other. c.in_err-session.ensures.quiet (λ is. other (cc))) (λ size is. c.in_err-session.ensures.limit size (ap Err is))
    (λ is. c.in_err-session.ensures.swap (ap Err is))
    (λ told has. elim (c.in_err-session.ensures.barred told has) [ inl is ↦ inl (cc) | inr more ↦ elim more [ inl is ↦ inr (inl (cc)) | inr is ↦ inr (inr (cc)) ] ])
    c.in_err-session.ensures.barred_looks (λ other. c.in_err-session.ensures.looks refl (λ is. other (cc))))

pub answer_all-requires-clause-generation : goal.answer_all-requires-clause-generation
answer_all-requires-clause-generation g c = omega (arith, c.in_ok-session.ensures.generation)

pub answer_all-requires-clause-undo : goal.answer_all-requires-clause-undo
answer_all-requires-clause-undo g c = c.in_ok-session.ensures.undo

pub answer_all-requires-clause-clock : goal.answer_all-requires-clause-clock
answer_all-requires-clause-clock g c = λ told. omega (arith, ap (λ (s : Scene). length s.answers) c.open.ensures.acts.frame, c.requires.clock told)

pub answer_all-requires-clause-fits : goal.answer_all-requires-clause-fits
answer_all-requires-clause-fits g c = λ told. (_, _, c.in_ok-session.ensures.fits told)

pub returns-in_err-clean : goal.returns-in_err-clean
returns-in_err-clean g c =
    let old : Scene = g.H.World.scene c.args.host.now in
    let mid : Scene = g.H.World.scene c.open.new.host in
    let stop = c.in_err-clean.ensures.err.1 old
    (stress_opened (IsSceneOf g.H.World.scene) g.H.World.tells old mid c.open.ensures.acts (c.open.new.host, refl) c.in_ok-session.session c.in_ok-session.ensures.name.1
    (λ told has. elim (c.in_ok-session.ensures.barred told has) [ inl is ↦ absurd (cc) | inr more ↦ elim more [ inl is ↦ absurd (cc) | inr is ↦ absurd (cc) ] ])
    (λ told. file_fits _ (c.in_ok-session.ensures.over told)) c.in_ok-session.ensures.fits (g.H.World.newest c.open.new.host) (c.in_ok-session.ensures.quiet (λ is. absurd (cc))) c.in_ok-session.ensures.cleared c.in_ok-session.ensures.moved) in
    stress_ending (IsSceneOf g.H.World.scene) g.H.World.tells c.args.count old (g.H.World.scene c.answer_all.new.host) c.answer_all.new.marks.items c.from_residual-in_err-clean.result _ _ c.from_residual-in_err-clean.ensures.1 c.in_err-clean.ensures.err.0
    (no_memory (IsSceneOf g.H.World.scene) g.H.World.tells old (g.H.World.scene c.answer_all.new.host) c.answer_all.new.session c.answer_all.new.marks.items stop.clean stop.commands stop.turn c.args.count stop.rest stop.first)

pub close-requires-clause-room : goal.close-requires-clause-room
close-requires-clause-room g c = omega (arith, c.answer_all.ensures.room)

pub close-requires-clause-fits : goal.close-requires-clause-fits
close-requires-clause-fits g c = c.answer_all.ensures.fits

pub returns : goal.returns
returns g c =
    let old : Scene = g.H.World.scene c.args.host.now in
    let mid : Scene = g.H.World.scene c.open.new.host in
    c.close.ensures old c.answer_all.new.marks.items
    (c.in_ok-clean.ensures.ok old
    (stress_opened (IsSceneOf g.H.World.scene) g.H.World.tells old mid c.open.ensures.acts (c.open.new.host, refl) c.in_ok-session.session c.in_ok-session.ensures.name.1
    (λ told has. elim (c.in_ok-session.ensures.barred told has) [ inl is ↦ absurd (cc) | inr more ↦ elim more [ inl is ↦ absurd (cc) | inr is ↦ absurd (cc) ] ])
    (λ told. file_fits _ (c.in_ok-session.ensures.over told)) c.in_ok-session.ensures.fits (g.H.World.newest c.open.new.host) (c.in_ok-session.ensures.quiet (λ is. absurd (cc))) c.in_ok-session.ensures.cleared c.in_ok-session.ensures.moved))
