use Rattle.std.proofs.Common.{◌∙◌, ◌<◌, ℕ, List, ◌++◌, length, take, refl, ap, sym, subst, arith, Err}
use Rattle.vs_host.specs.World.{Scene}
use Rattle.vs_machine.specs.Replies.{Answer}
use Rattle.vs_session.specs.Fits.{Fits}
use Rattle.vs_top.specs.Stress.{IsSceneOf}
use Rattle.vs_top.proofs.StressClosing.{close_cut, close_ends, close_fails, close_left, close_no_memory, line_some}
use Rattle.vs_top.proofs.StressEnds.{stress_ending}
use Rattle.vs_top.proofs.stress.close.Goals as goal

pub summary-requires : goal.summary-requires
summary-requires g c = record { fits = c.requires.fits }

pub returns-in_err-summary : goal.returns-in_err-summary
returns-in_err-summary g c = λ old marks turn.
    stress_ending (IsSceneOf g.H.World.scene) g.H.World.tells c.args.count old (g.H.World.scene c.summary.new.host) marks c.from_residual.result _ _ c.from_residual.ensures.1 refl
    (close_fails (IsSceneOf g.H.World.scene) g.H.World.tells c.args.count old (g.H.World.scene c.args.host.now) (g.H.World.scene c.summary.new.host) c.args.session c.summary.new.self marks c.args.clean turn
    (record { frame = c.summary.ensures.frame; later = c.summary.ensures.cause.later; looks = c.summary.ensures.looks; reads = c.summary.ensures.reads; counts = c.summary.ensures.counts; counted = g.H.World.counted c.args.host.now; names = c.summary.ensures.file.names; fits = c.summary.ensures.fits })
    _ (λ is. c.in_err-summary.ensures.cause.risen (ap Err is)) c.in_err-summary.ensures.stops.last (λ told calm. c.in_err-summary.ensures.stops.none told (λ failed. calm (cc))))

pub returns-in_err-line : goal.returns-in_err-line
returns-in_err-line g c = λ old marks turn.
    stress_ending (IsSceneOf g.H.World.scene) g.H.World.tells c.args.count old (g.H.World.scene c.summary.new.host) marks c.from_residual-in_err-line.result _ _ c.from_residual-in_err-line.ensures.1 refl
    (close_no_memory (IsSceneOf g.H.World.scene) g.H.World.tells c.args.count old (g.H.World.scene c.args.host.now) (g.H.World.scene c.summary.new.host) c.args.session c.summary.new.self marks c.args.clean turn
    (record { frame = c.summary.ensures.frame; later = c.summary.ensures.cause.later; looks = c.summary.ensures.looks; reads = c.summary.ensures.reads; counts = c.summary.ensures.counts; counted = g.H.World.counted c.args.host.now; names = c.summary.ensures.file.names; fits = c.summary.ensures.fits })
    (λ told. c.in_ok-summary.ensures.stops.none told (λ failed. absurd (cc))))

pub printed-requires : goal.printed-requires
printed-requires g c = subst (λ (l : List ℕ). 0 < length l) (sym c.in_ok-line.ensures) (line_some c.args.count _ _ _ _)

pub returns-in_err-put : goal.returns-in_err-put
returns-in_err-put g c = λ old marks turn.
    stress_ending (IsSceneOf g.H.World.scene) g.H.World.tells c.args.count old (g.H.World.scene c.put.new.host) marks c.from_residual-in_err-put.result _ _ c.from_residual-in_err-put.ensures.1 c.in_err-put.ensures.out
    (close_cut (IsSceneOf g.H.World.scene) g.H.World.tells c.args.count old (g.H.World.scene c.args.host.now) (g.H.World.scene c.summary.new.host) c.args.session c.summary.new.self marks c.args.clean turn
    (record { frame = c.summary.ensures.frame; later = c.summary.ensures.cause.later; looks = c.summary.ensures.looks; reads = c.summary.ensures.reads; counts = c.summary.ensures.counts; counted = g.H.World.counted c.args.host.now; names = c.summary.ensures.file.names; fits = c.summary.ensures.fits })
    (λ told. c.in_ok-summary.ensures.stops.none told (λ failed. absurd (cc))) c.in_ok-summary.summary c.in_ok-summary.ensures.summary c.in_ok-line.line.items c.in_ok-line.ensures (g.H.World.scene c.put.new.host) c.put.ensures.frame c.put.ensures.added
    (λ told. let cut = c.in_err-put.ensures.err told in (cut.0, cut.1 ∙ ap (λ (r : Answer). (g.H.World.scene c.summary.new.host).output ++ take cut.0 r.bytes) c.printed.ensures)) (c.in_err-put.ensures.cause.risen refl))

pub finish-requires-clause-room : goal.finish-requires-clause-room
finish-requires-clause-room g c = omega (arith, c.summary.ensures.generation, c.requires.room)

pub finish-requires-clause-fits : goal.finish-requires-clause-fits
finish-requires-clause-fits g c = λ told.
    let was = c.requires.fits told in
    (was.0, was.1, subst (λ d. Fits c.summary.new.self d was.0 was.1) (sym (ap (λ (s : Scene). s.folder) c.put.ensures.frame)) (c.summary.ensures.fits told was.0 was.1 was.2))

pub returns-in_err-finish : goal.returns-in_err-finish
returns-in_err-finish g c = λ old marks turn.
    stress_ending (IsSceneOf g.H.World.scene) g.H.World.tells c.args.count old (g.H.World.scene c.finish.new.host) marks c.from_residual-in_err-finish.result _ _ c.from_residual-in_err-finish.ensures.1 c.in_err-finish.ensures.fault
    (close_left (IsSceneOf g.H.World.scene) g.H.World.tells c.args.count old (g.H.World.scene c.args.host.now) (g.H.World.scene c.summary.new.host) c.args.session c.summary.new.self marks c.args.clean turn
    (record { frame = c.summary.ensures.frame; later = c.summary.ensures.cause.later; looks = c.summary.ensures.looks; reads = c.summary.ensures.reads; counts = c.summary.ensures.counts; counted = g.H.World.counted c.args.host.now; names = c.summary.ensures.file.names; fits = c.summary.ensures.fits })
    (λ told. c.in_ok-summary.ensures.stops.none told (λ failed. absurd (cc))) c.in_ok-summary.summary c.in_ok-summary.ensures.summary c.in_ok-line.line.items c.in_ok-line.ensures (g.H.World.scene c.put.new.host) (g.H.World.scene c.finish.new.host) c.put.ensures.frame c.put.ensures.added
    (λ told. c.in_ok-put.ensures.ok told ∙ ap (λ (r : Answer). (g.H.World.scene c.summary.new.host).output ++ r.bytes) c.printed.ensures) (c.in_ok-put.ensures.quiet (λ is. absurd (cc)))
    _ c.in_err-finish.ensures.finishes (c.in_err-finish.ensures.finishes.cause.risen refl))

pub returns : goal.returns
returns g c = λ old marks turn.
    rw c.ending_of.ensures
    (close_ends (IsSceneOf g.H.World.scene) g.H.World.tells c.args.count old (g.H.World.scene c.args.host.now) (g.H.World.scene c.summary.new.host) c.args.session c.summary.new.self marks c.args.clean turn
    (record { frame = c.summary.ensures.frame; later = c.summary.ensures.cause.later; looks = c.summary.ensures.looks; reads = c.summary.ensures.reads; counts = c.summary.ensures.counts; counted = g.H.World.counted c.args.host.now; names = c.summary.ensures.file.names; fits = c.summary.ensures.fits })
    (λ told. c.in_ok-summary.ensures.stops.none told (λ failed. absurd (cc))) c.in_ok-summary.summary c.in_ok-summary.ensures.summary c.in_ok-line.line.items c.in_ok-line.ensures (g.H.World.scene c.put.new.host) (g.H.World.scene c.finish.new.host) c.put.ensures.frame c.put.ensures.added
    (λ told. c.in_ok-put.ensures.ok told ∙ ap (λ (r : Answer). (g.H.World.scene c.summary.new.host).output ++ r.bytes) c.printed.ensures) (c.in_ok-put.ensures.quiet (λ is. absurd (cc)))
    _ c.in_ok-finish.ensures.finishes refl)
