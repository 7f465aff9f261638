use Rattle.std.proofs.Common.{length, refl, ap, inl, inr, arith, Err}
use Rattle.vs_host.specs.World.{Scene}
use Rattle.vs_family.specs.declared.which.Which.TheVariants as which
use Rattle.vs_both.proofs.Parties.{are_beside}
use Rattle.vs_safety.specs.Turns.{quit_line}
use Rattle.vs_top.specs.Tags.{tagged_for}
use Rattle.vs_top.proofs.Edits.{file_fits}
use Rattle.vs_top.proofs.PairOpening.{both_settled}
use Rattle.vs_top.proofs.PairRuns.{opens_pair, pair_ending, runs_unopened}
use Rattle.vs_top.proofs.pair.pair.Goals as goal

pub open-requires-clause-settled : goal.open-requires-clause-settled
open-requires-clause-settled g c = λ told. both_settled c.args.one.now c.args.two.now (g.H.World.scene c.args.host.now).folder (c.requires.settled told) (g.H.World.is_folder c.args.host.now told)

pub returns-in_err-multi : goal.returns-in_err-multi
returns-in_err-multi g c =
    let old : Scene = g.H.World.scene c.args.host.now in
    let new : Scene = g.H.World.scene c.open.new.host in
    pair_ending g.H.World.tells c.args.one.now c.args.two.now old new c.args.marks.now.items c.from_residual.result _ _ c.from_residual.ensures.1 refl
    (runs_unopened g.H.World.tells c.args.one.now c.args.two.now old new c.requires.settled (are_beside c.args.one.now c.args.two.now (tagged_for which.One quit_line) (tagged_for which.Two quit_line) c.requires.one c.requires.two c.requires.apart)
    c.open.ensures.acts c.args.marks.now.items c.requires.marks _
    (λ is. c.in_err-multi.ensures.cause.risen (ap Err is)) (λ other. c.in_err-multi.ensures.quiet (λ is. other (cc))) (λ size is. c.in_err-multi.ensures.limit size (ap Err is))
    (λ is. c.in_err-multi.ensures.swap (ap Err is))
    (λ told has. elim (c.in_err-multi.ensures.barred told has) [ inl is ↦ inl (cc) | inr more ↦ elim more [ inl is ↦ inr (inl (cc)) | inr is ↦ inr (inr (cc)) ] ])
    c.in_err-multi.ensures.barred_looks (c.in_err-multi.ensures.not_opened _ refl))

pub serve_both-requires-clause-marks : goal.serve_both-requires-clause-marks
serve_both-requires-clause-marks g c = c.requires.marks

pub serve_both-requires-clause-opened : goal.serve_both-requires-clause-opened
serve_both-requires-clause-opened g c = (c.args.one.now, c.args.two.now, g.H.World.scene c.args.host.now, c.in_ok-multi.ensures.opens)

pub serve_both-requires-clause-clock : goal.serve_both-requires-clause-clock
serve_both-requires-clause-clock g c = λ told. omega (arith, ap (λ (s : Scene). length s.answers) c.open.ensures.acts.frame, c.requires.clock told)

pub serve_both-requires-clause-fits : goal.serve_both-requires-clause-fits
serve_both-requires-clause-fits g c = c.in_ok-multi.ensures.fits

pub returns : goal.returns
returns g c =
    let old : Scene = g.H.World.scene c.args.host.now in
    let mid : Scene = g.H.World.scene c.open.new.host in
    c.serve_both.ensures c.args.one.now c.args.two.now old
    (opens_pair g.H.World.tells c.args.one.now c.args.two.now old mid c.requires.settled
    (are_beside c.args.one.now c.args.two.now (tagged_for which.One quit_line) (tagged_for which.Two quit_line) c.requires.one c.requires.two c.requires.apart) c.open.ensures.acts c.in_ok-multi.multi
    c.in_ok-multi.ensures.opens c.in_ok-multi.ensures.fits
    (λ told has. elim (c.in_ok-multi.ensures.barred told has) [ inl is ↦ absurd (cc) | inr more ↦ elim more [ inl is ↦ absurd (cc) | inr is ↦ absurd (cc) ] ])
    (λ told. file_fits _ (c.in_ok-multi.ensures.one_over told)) (λ told. file_fits _ (c.in_ok-multi.ensures.two_over told)))
