use Rattle.std.proofs.Common.{ℕ, List, Option, refl, ap}
use Rattle.std.specs.Prelude.{is_some}
use Rattle.vs_host.specs.World.{Scene}
use Rattle.vs_disk.proofs.Runs.{frames}
use Rattle.vs_backup.specs.Works.{one_name}
use Rattle.vs_backup.proofs.Calls.{runs_file, spares_on}
use Rattle.vs_backup.proofs.Copying.{alone_content}
use Rattle.vs_backup.proofs.Frames.{alone_one}
use Rattle.vs_backup.proofs.Modes.{makes_then, usual_then}
use Rattle.vs_backup.proofs.Renewing.{nowhere_changed, renews_filled, renews_taken}
use Rattle.vs_backup.proofs.Going as going
use Rattle.vs_backup.proofs.plain.make_filled.Goals as goal

pub returns-in-Ok-clause-spares : goal.returns-in-Ok-clause-spares
returns-in-Ok-clause-spares g c told =
    let s0 : Scene = g.D.World.scene c.args.desk.now in
    let s1 : Scene = g.D.World.scene c.make_anew.new.desk in
    let s2 : Scene = g.D.World.scene c.fill_text.new.desk in
    spares_on (one_name c.args.temporary.now) s0 s1 s2 c.make_anew.ensures.kept.frame (c.make_anew.ensures.spares told) (runs_file c.args.temporary.now s1 s2 (c.in_ok-make_anew.ensures.alone told) (c.fill_text.ensures.runs told))

pub returns-in-Err-Failed-clause-spares : goal.returns-in-Err-Failed-clause-spares
returns-in-Err-Failed-clause-spares g c told =
    let s0 : Scene = g.D.World.scene c.args.desk.now in
    let s1 : Scene = g.D.World.scene c.make_anew.new.desk in
    let s2 : Scene = g.D.World.scene c.fill_text.new.desk in
    spares_on (one_name c.args.temporary.now) s0 s1 s2 c.make_anew.ensures.kept.frame (c.make_anew.ensures.spares told) (runs_file c.args.temporary.now s1 s2 (c.in_ok-make_anew.ensures.alone told) (c.fill_text.ensures.runs told))

pub returns-in_ok-drop_name-in-Err-NoMemory-clause-spares : goal.returns-in_ok-drop_name-in-Err-NoMemory-clause-spares
returns-in_ok-drop_name-in-Err-NoMemory-clause-spares g c told =
    let tmp = one_name c.args.temporary.now in
    let s0 : Scene = g.D.World.scene c.args.desk.now in
    let s1 : Scene = g.D.World.scene c.make_anew.new.desk in
    let s2 : Scene = g.D.World.scene c.fill_text.new.desk in
    let s3 : Scene = g.D.World.scene c.drop_name.new.desk in
    let filled = spares_on tmp s0 s1 s2 c.make_anew.ensures.kept.frame (c.make_anew.ensures.spares told) (runs_file c.args.temporary.now s1 s2 (c.in_ok-make_anew.ensures.alone told) (c.fill_text.ensures.runs told)) in
    spares_on tmp s0 s2 s3 (frames s0 s1 s2 c.make_anew.ensures.kept.frame c.fill_text.ensures.kept.frame) filled (c.drop_name.ensures.spares told)

pub returns-in_err-drop_name-in-Err-NoMemory-clause-spares : goal.returns-in_err-drop_name-in-Err-NoMemory-clause-spares
returns-in_err-drop_name-in-Err-NoMemory-clause-spares g c told =
    let tmp = one_name c.args.temporary.now in
    let s0 : Scene = g.D.World.scene c.args.desk.now in
    let s1 : Scene = g.D.World.scene c.make_anew.new.desk in
    let s2 : Scene = g.D.World.scene c.fill_text.new.desk in
    let s3 : Scene = g.D.World.scene c.drop_name.new.desk in
    let filled = spares_on tmp s0 s1 s2 c.make_anew.ensures.kept.frame (c.make_anew.ensures.spares told) (runs_file c.args.temporary.now s1 s2 (c.in_ok-make_anew.ensures.alone told) (c.fill_text.ensures.runs told)) in
    spares_on tmp s0 s2 s3 (frames s0 s1 s2 c.make_anew.ensures.kept.frame c.fill_text.ensures.kept.frame) filled (c.drop_name.ensures.spares told)

pub returns-in-Ok-clause-renews : goal.returns-in-Ok-clause-renews
returns-in-Ok-clause-renews g c told =
    let s0 : Scene = g.D.World.scene c.args.desk.now in
    let s1 : Scene = g.D.World.scene c.make_anew.new.desk in
    let s2 : Scene = g.D.World.scene c.fill_text.new.desk in
    renews_filled c.args.temporary.now s0 s1 s2 c.make_anew.ensures.kept.frame (c.make_anew.ensures.renews told) (c.in_ok-make_anew.ensures.anew told) (c.fill_text.ensures.runs told)

pub returns-in-Err-Failed-clause-renews : goal.returns-in-Err-Failed-clause-renews
returns-in-Err-Failed-clause-renews g c told =
    let s0 : Scene = g.D.World.scene c.args.desk.now in
    let s1 : Scene = g.D.World.scene c.make_anew.new.desk in
    let s2 : Scene = g.D.World.scene c.fill_text.new.desk in
    renews_filled c.args.temporary.now s0 s1 s2 c.make_anew.ensures.kept.frame (c.make_anew.ensures.renews told) (c.in_ok-make_anew.ensures.anew told) (c.fill_text.ensures.runs told)

pub returns-in_ok-drop_name-in-Err-NoMemory-clause-renews : goal.returns-in_ok-drop_name-in-Err-NoMemory-clause-renews
returns-in_ok-drop_name-in-Err-NoMemory-clause-renews g c told =
    let s0 : Scene = g.D.World.scene c.args.desk.now in
    let s1 : Scene = g.D.World.scene c.make_anew.new.desk in
    let s2 : Scene = g.D.World.scene c.fill_text.new.desk in
    let s3 : Scene = g.D.World.scene c.drop_name.new.desk in
    renews_taken c.args.temporary.now s0 s1 s2 c.make_anew.ensures.kept.frame (c.make_anew.ensures.renews told) s3 c.fill_text.ensures.kept.frame (c.in_ok-make_anew.ensures.anew told) (c.fill_text.ensures.runs told) (c.drop_name.ensures.leads told)

pub returns-in_err-drop_name-in-Err-NoMemory-clause-renews : goal.returns-in_err-drop_name-in-Err-NoMemory-clause-renews
returns-in_err-drop_name-in-Err-NoMemory-clause-renews g c told =
    let s0 : Scene = g.D.World.scene c.args.desk.now in
    let s1 : Scene = g.D.World.scene c.make_anew.new.desk in
    let s2 : Scene = g.D.World.scene c.fill_text.new.desk in
    let s3 : Scene = g.D.World.scene c.drop_name.new.desk in
    renews_taken c.args.temporary.now s0 s1 s2 c.make_anew.ensures.kept.frame (c.make_anew.ensures.renews told) s3 c.fill_text.ensures.kept.frame (c.in_ok-make_anew.ensures.anew told) (c.fill_text.ensures.runs told) (c.drop_name.ensures.leads told)

pub returns-in-Ok-clause-anew : goal.returns-in-Ok-clause-anew
returns-in-Ok-clause-anew g c told number leads =
    let s1 : Scene = g.D.World.scene c.make_anew.new.desk in
    let s2 : Scene = g.D.World.scene c.fill_text.new.desk in
    c.in_ok-make_anew.ensures.anew told number (nowhere_changed c.args.temporary.now c.args.temporary.now s1.folder s2.folder (c.fill_text.ensures.runs told).now number leads)

pub returns-in-Ok-clause-ok : goal.returns-in-Ok-clause-ok
returns-in-Ok-clause-ok g c = record {
  each = λ told text has. c.in-Ok.ensures.ok told text (g.met.D.Desk.stays_text c.args.desk.now c.make_anew.new.desk text c.make_anew.ensures.kept.stays has);
}

pub drop_name-requires-clause-there : goal.drop_name-requires-clause-there
drop_name-requires-clause-there g c told =
    let s1 : Scene = g.D.World.scene c.make_anew.new.desk in
    let s2 : Scene = g.D.World.scene c.fill_text.new.desk in
    let alone = alone_one c.args.temporary.now s1.folder s2.folder (c.fill_text.ensures.runs told).now (c.in_ok-make_anew.ensures.alone told) in
    ap (λ (o : Option (List ℕ)). is_some o) (alone_content c.args.temporary.now s2.folder alone)

pub returns-in-Ok-clause-kept : goal.returns-in-Ok-clause-kept
returns-in-Ok-clause-kept g c = going.GoesOn-then g.met.D.Desk.stays_on (λ is. absurd (cc)) c.in_ok-make_anew.ensures.kept c.in-Ok.ensures.kept

pub returns-in-Err-Failed-clause-kept : goal.returns-in-Err-Failed-clause-kept
returns-in-Err-Failed-clause-kept g c = going.GoesOn-then g.met.D.Desk.stays_on (λ is. absurd (cc)) c.in_ok-make_anew.ensures.kept (rw c.in-Err-Failed.field-0-is at c.in-Err-Failed.ensures.kept)

pub returns-in_ok-drop_name-in-Err-NoMemory-clause-kept : goal.returns-in_ok-drop_name-in-Err-NoMemory-clause-kept
returns-in_ok-drop_name-in-Err-NoMemory-clause-kept g c =
    let filled = going.GoesOn-then g.met.D.Desk.stays_on (λ is. absurd (cc)) c.in_ok-make_anew.ensures.kept (rw c.in-Err-NoMemory.field-0-is at c.in-Err-NoMemory.ensures.kept) in
    going.GoesOn-as (λ is. absurd (cc)) (λ _ is. absurd (cc)) (going.GoesOn-then g.met.D.Desk.stays_on (λ is. absurd (cc)) filled c.in_ok-drop_name-in-Err-NoMemory.ensures.kept)

pub returns-in_err-drop_name-in-Err-NoMemory-clause-kept : goal.returns-in_err-drop_name-in-Err-NoMemory-clause-kept
returns-in_err-drop_name-in-Err-NoMemory-clause-kept g c =
    let filled = going.GoesOn-then g.met.D.Desk.stays_on (λ is. absurd (cc)) c.in_ok-make_anew.ensures.kept (rw c.in-Err-NoMemory.field-0-is at c.in-Err-NoMemory.ensures.kept) in
    let failed = c.from_residual-in_err-drop_name-in-Err-NoMemory in
    going.GoesOn-failed failed.result _ failed.ensures.1 refl (going.GoesOn-then g.met.D.Desk.stays_on (λ is. absurd (cc)) filled c.in_err-drop_name-in-Err-NoMemory.ensures.kept)

pub returns-in_err-make_anew-clause-modes : goal.returns-in_err-make_anew-clause-modes
returns-in_err-make_anew-clause-modes g c = c.make_anew.ensures.modes

pub returns-in-Ok-clause-modes : goal.returns-in-Ok-clause-modes
returns-in-Ok-clause-modes g c = usual_then c.make_anew.ensures.kept.frame c.make_anew.ensures.modes c.fill_text.ensures.modes

pub returns-in-Err-Failed-clause-modes : goal.returns-in-Err-Failed-clause-modes
returns-in-Err-Failed-clause-modes g c = usual_then c.make_anew.ensures.kept.frame c.make_anew.ensures.modes c.fill_text.ensures.modes

pub returns-in_ok-drop_name-in-Err-NoMemory-clause-modes : goal.returns-in_ok-drop_name-in-Err-NoMemory-clause-modes
returns-in_ok-drop_name-in-Err-NoMemory-clause-modes g c =
    usual_then c.make_anew.ensures.kept.frame c.make_anew.ensures.modes (makes_then c.fill_text.ensures.kept.frame c.fill_text.ensures.modes c.drop_name.ensures.modes)

pub returns-in_err-drop_name-in-Err-NoMemory-clause-modes : goal.returns-in_err-drop_name-in-Err-NoMemory-clause-modes
returns-in_err-drop_name-in-Err-NoMemory-clause-modes g c =
    usual_then c.make_anew.ensures.kept.frame c.make_anew.ensures.modes (makes_then c.fill_text.ensures.kept.frame c.fill_text.ensures.modes c.drop_name.ensures.modes)
