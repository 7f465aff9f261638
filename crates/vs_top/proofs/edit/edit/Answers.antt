use Rattle.std.proofs.Common.{length, refl, ap, inl, inr, arith, Err}
use Rattle.vs_host.specs.Names.{names_of_file}
use Rattle.vs_host.specs.World.{Scene}
use Rattle.vs_top.proofs.Closing.{at_ending}
use Rattle.vs_top.proofs.Edits.{settled, file_fits, open_fails, is_opened}
use Rattle.vs_top.proofs.edit.edit.Goals as goal

pub open-requires-clause-settled : goal.open-requires-clause-settled
open-requires-clause-settled g c = λ told. settled (names_of_file c.args.name.now) (g.H.World.scene c.args.host.now).folder (c.requires.settled told)

pub returns-in_err-session : goal.returns-in_err-session
returns-in_err-session g c =
    let old : Scene = g.H.World.scene c.args.host.now in
    let new : Scene = g.H.World.scene c.open.new.host in
    at_ending g.H.World.tells c.args.name.now old new c.args.marks.now.items c.from_residual.result _ _ c.from_residual.ensures.1 refl
    (open_fails g.H.World.tells c.args.name.now old new c.requires.settled c.open.ensures.acts c.args.marks.now.items c.requires.marks _
    (λ is. c.in_err-session.ensures.cause.risen (ap Err is)) (λ other. c.in_err-session.ensures.quiet (λ is. other (cc))) (λ size is. c.in_err-session.ensures.limit size (ap Err is))
    (λ is. c.in_err-session.ensures.swap (ap Err is))
    (λ told has. elim (c.in_err-session.ensures.barred told has) [ inl is ↦ inl (cc) | inr more ↦ elim more [ inl is ↦ inr (inl (cc)) | inr is ↦ inr (inr (cc)) ] ])
    c.in_err-session.ensures.barred_looks (λ other. c.in_err-session.ensures.looks refl (λ is. other (cc))))

pub open-requires-clause-name : goal.open-requires-clause-name
open-requires-clause-name g c = c.requires.name

pub serve-requires-clause-marks : goal.serve-requires-clause-marks
serve-requires-clause-marks g c = c.requires.marks

pub serve-requires-clause-generation : goal.serve-requires-clause-generation
serve-requires-clause-generation g c = omega (arith, c.in_ok-session.ensures.generation)

pub serve-requires-clause-undo : goal.serve-requires-clause-undo
serve-requires-clause-undo g c = c.in_ok-session.ensures.undo

pub serve-requires-clause-clock : goal.serve-requires-clause-clock
serve-requires-clause-clock g c = λ told. omega (arith, ap (λ (s : Scene). length s.answers) c.open.ensures.acts.frame, c.requires.clock told)

pub serve-requires-clause-fits : goal.serve-requires-clause-fits
serve-requires-clause-fits g c = λ told. (_, _, c.in_ok-session.ensures.fits told)

pub returns : goal.returns
returns g c =
    let old : Scene = g.H.World.scene c.args.host.now in
    let mid : Scene = g.H.World.scene c.open.new.host in
    c.serve.ensures c.args.name.now old
    (is_opened g.H.World.tells c.args.name.now old mid c.requires.settled c.open.ensures.acts c.in_ok-session.session c.in_ok-session.ensures.name.1
    (λ told has. elim (c.in_ok-session.ensures.barred told has) [ inl is ↦ absurd (cc) | inr more ↦ elim more [ inl is ↦ absurd (cc) | inr is ↦ absurd (cc) ] ])
    (λ told. file_fits _ (c.in_ok-session.ensures.over told)) c.in_ok-session.ensures.file c.in_ok-session.ensures.fits
    (c.in_ok-session.ensures.quiet (λ is. absurd (cc))) c.in_ok-session.ensures.cleared c.in_ok-session.ensures.moved)
