use Rattle.std.proofs.Common.{None, refl}
use Rattle.std.proofs.lemmas.Result.{err_from_is_err_and}
use Rattle.vs_text.specs.Documents.{file_in}
use Rattle.vs_host.specs.World.{Scene}
use Rattle.vs_backup.proofs.Calls.{synced_there}
use Rattle.vs_backup.proofs.Frames.{absent_now}
use Rattle.vs_backup.proofs.Modes.{usual_renamed}
use Rattle.vs_backup.proofs.Renewing.{renews_led}
use Rattle.vs_backup.proofs.Unbacked.{fresh_not_taken, fresh_free, fresh_refused, fresh_done}
use Rattle.vs_backup.proofs.Going as going
use Rattle.vs_backup.proofs.plain.write_fresh.Goals as goal

pub returns-in_err-size-clause-fresh : goal.returns-in_err-size-clause-fresh
returns-in_err-size-clause-fresh g c told free text has =
    let s0 : Scene = g.D.World.scene c.args.desk.now in
    let s1 : Scene = g.D.World.scene c.make_filled.new.desk in
    let p = err_from_is_err_and c.from_residual.result c.from_residual.ensures.1 in
    fresh_not_taken c.args.name.now c.args.temporary.now (file_in c.args.format text) s0 s1 c.requires.differ free (c.make_filled.ensures.spares told) (c.make_filled.ensures.renews told) c.from_residual.result (rw p.1 tt)
    (λ memory was. c.in_err-size.ensures.clears (going.err_there c.from_residual.result _ _ c.from_residual.ensures.1 memory) told)

pub returns-in_err-take_name-clause-fresh : goal.returns-in_err-take_name-clause-fresh
returns-in_err-take_name-clause-fresh g c told free text has =
    let name = c.args.name.now in
    let temporary = c.args.temporary.now in
    let bytes = file_in c.args.format text in
    let s0 : Scene = g.D.World.scene c.args.desk.now in
    let s1 : Scene = g.D.World.scene c.make_filled.new.desk in
    let s2 : Scene = g.D.World.scene c.take_name.new.desk in
    let done = c.in_ok-size.ensures.ok.each told text has in
    let p = err_from_is_err_and c.from_residual-in_err-take_name.result c.from_residual-in_err-take_name.ensures.1 in
    fresh_refused name temporary bytes s0 s1 c.requires.differ free (c.make_filled.ensures.spares told) s2 c.make_filled.ensures.kept.frame
    (renews_led temporary s0 s1 s2 c.make_filled.ensures.kept.frame (c.make_filled.ensures.renews told) (c.in_ok-size.ensures.anew told) (c.take_name.ensures.leads told))
    (c.take_name.ensures.takes told bytes done.1) (c.take_name.ensures.spares told) c.from_residual-in_err-take_name.result (rw p.1 tt)
    (going.err_other c.from_residual-in_err-take_name.result _ _ c.from_residual-in_err-take_name.ensures.1 (λ is. absurd (cc)))
    (c.in_err-take_name.ensures.err told None (absent_now name s1.folder (fresh_free name temporary bytes s0 s1 c.requires.differ free (c.make_filled.ensures.spares told))))

pub returns-clause-fresh : goal.returns-clause-fresh
returns-clause-fresh g c told free text has =
    let temporary = c.args.temporary.now in
    let bytes = file_in c.args.format text in
    let s0 : Scene = g.D.World.scene c.args.desk.now in
    let s1 : Scene = g.D.World.scene c.make_filled.new.desk in
    let s2 : Scene = g.D.World.scene c.take_name.new.desk in
    let done = c.in_ok-size.ensures.ok.each told text has in
    fresh_done c.args.name.now temporary bytes s0 s1 c.requires.differ free (c.make_filled.ensures.spares told) s2 c.make_filled.ensures.kept.frame
    (renews_led temporary s0 s1 s2 c.make_filled.ensures.kept.frame (c.make_filled.ensures.renews told) (c.in_ok-size.ensures.anew told) (c.take_name.ensures.leads told))
    (c.take_name.ensures.takes told bytes done.1) (c.take_name.ensures.spares told) c.in_ok-size.size done.0 (c.in_ok-take_name.ensures.ok told bytes done.1) (c.in_ok-take_name.ensures.gone told)

pub take_name-requires-clause-there : goal.take_name-requires-clause-there
take_name-requires-clause-there g c told =
    let text = g.met.D.Desk.tells_one c.args.desk.now c.requires.valid told in
    synced_there c.args.temporary.now (file_in c.args.format text.0) (g.D.World.scene c.make_filled.new.desk).folder (c.in_ok-size.ensures.ok.each told text.0 text.1).1

pub returns-in_err-take_name-clause-kept : goal.returns-in_err-take_name-clause-kept
returns-in_err-take_name-clause-kept g c = going.GoesOn-failed c.from_residual-in_err-take_name.result _ c.from_residual-in_err-take_name.ensures.1 refl (going.GoesOn-then g.met.D.Desk.stays_on (λ is. absurd (cc)) c.in_ok-size.ensures.kept c.in_err-take_name.ensures.kept)

pub returns-clause-kept : goal.returns-clause-kept
returns-clause-kept g c = going.GoesOn-as (λ is. absurd (cc)) (λ _ is. absurd (cc)) (going.GoesOn-then g.met.D.Desk.stays_on (λ is. absurd (cc)) c.in_ok-size.ensures.kept c.in_ok-take_name.ensures.kept)

pub returns-in_err-take_name-clause-modes : goal.returns-in_err-take_name-clause-modes
returns-in_err-take_name-clause-modes g c =
    usual_renamed g.D.World.tells.folder c.args.temporary.now (g.D.World.scene c.args.desk.now) (g.D.World.scene c.make_filled.new.desk) (g.D.World.scene c.take_name.new.desk)
    c.make_filled.ensures.kept.frame c.make_filled.ensures.modes c.in_ok-size.ensures.anew c.take_name.ensures.modes

pub returns-clause-modes : goal.returns-clause-modes
returns-clause-modes g c =
    usual_renamed g.D.World.tells.folder c.args.temporary.now (g.D.World.scene c.args.desk.now) (g.D.World.scene c.make_filled.new.desk) (g.D.World.scene c.take_name.new.desk)
    c.make_filled.ensures.kept.frame c.make_filled.ensures.modes c.in_ok-size.ensures.anew c.take_name.ensures.modes
