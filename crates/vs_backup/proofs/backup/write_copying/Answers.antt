use Rattle.std.proofs.Common.{◌≡◌, ◌∙◌, ℕ, IsTrue, List, [], Option, Some, true, Err, refl, sym, ap, subst}
use Rattle.std.specs.Prelude.{is_some}
use Rattle.vs_text.specs.Documents.{file_in}
use Rattle.vs_faults.specs.Faults.{HasCause}
use Rattle.vs_faults.proofs.Causes.{HasCause-trans}
use Rattle.vs_host.specs.Disk.{mode_in}
use Rattle.vs_host.specs.World.{Scene, content_of}
use Rattle.vs_disk.proofs.Runs.{frames}
use Rattle.vs_disk.specs.Images.{IsSynced}
use Rattle.vs_backup.specs.Works.{Widens}
use Rattle.vs_backup.specs.Writing.{IsFailed, IsSettled, PutsBack, WritesOver}
use Rattle.vs_backup.specs.declared.errors.Place.TheVariants as place
use Rattle.vs_backup.specs.declared.errors.WriteErr.{WriteErr}
use Rattle.vs_backup.proofs.Calls.{synced_bytes, synced_there}
use Rattle.vs_backup.proofs.Copying.{alone_now, copying_done, copying_stopped, over_backed, over_mode, over_not_begun}
use Rattle.vs_backup.proofs.Doing as doing
use Rattle.vs_backup.proofs.Filling.{changes_on, widens_then}
use Rattle.vs_backup.proofs.Frames.{alone_one, err_leads, ok_leads}
use Rattle.vs_backup.proofs.Modes.{makes_any, makes_as, makes_then}
use Rattle.vs_backup.proofs.Going as going
use Rattle.vs_backup.proofs.backup.write_copying.Goals as goal

pub returns-in-Ok-fill_text-clause-over : goal.returns-in-Ok-fill_text-clause-over
returns-in-Ok-fill_text-clause-over g c told old is text has =
    let s0 : Scene = g.D.World.scene c.args.desk.now in
    let s1 : Scene = g.D.World.scene c.start_over.new.desk in
    let s2 : Scene = g.D.World.scene c.fill_text.new.desk in
    let kept = g.met.D.Desk.stays_text c.args.desk.now c.start_over.new.desk text c.start_over.ensures.kept.stays has in
    let done = c.in-Ok-fill_text.ensures.ok told text kept in
    copying_done c.args.backing.name.now c.args.backing.backup.now c.args.backing.temporary.now old (file_in c.args.backing.format text) s0 s1 s2 c.start_over.ensures.kept.frame (λ e. c.requires.names.differ_name (sym e)) (g.D.World.is_folder c.start_over.new.desk told)
    (c.start_over.ensures.over.each told old is) (c.in-Ok.ensures.ok.each told old is) (c.fill_text.ensures.runs told) c.in-Ok-fill_text.size done.0 done.1 (c.in-Ok.ensures.aside.gone told)
    (c.in-Ok-fill_text.ensures.mode.same told (ap (λ (o : Option (List ℕ)). is_some o) (c.in-Ok.ensures.ok.each told old is).empty) ∙ c.in-Ok.ensures.mode.file told)

pub returns-in-Err-fill_text-clause-over : goal.returns-in-Err-fill_text-clause-over
returns-in-Err-fill_text-clause-over g c told old is text has =
    let name = c.args.backing.name.now in
    let backup = c.args.backing.backup.now in
    let s0 : Scene = g.D.World.scene c.args.desk.now in
    let s1 : Scene = g.D.World.scene c.start_over.new.desk in
    let s2 : Scene = g.D.World.scene c.fill_text.new.desk in
    let s3 : Scene = g.D.World.scene c.copy_back.new.desk in
    let apart = λ (e : backup ≡ name). c.requires.names.differ_name (sym e) in
    let started = c.in-Ok.ensures.ok.each told old is in
    let folder = g.D.World.is_folder c.start_over.new.desk told in
    let backed : IsSettled backup old s2.folder = over_backed name backup c.args.backing.temporary.now old s1 s2 apart started.backed folder [] started.empty (c.fill_text.ensures.runs told) in
    let runs = changes_on name s1 s2 s3 c.fill_text.ensures.kept.frame (c.fill_text.ensures.runs told) (c.copy_back.ensures.runs told) in
    let synced = ok_leads (IsTrue g.D.World.tells.folder → (bytes : List ℕ) → content_of s2 backup ≡ Some bytes → IsSynced name bytes s3.folder) (IsSynced name old s3.folder) c.copy_back.result
    (λ copied. copied told old (synced_bytes backup old s2.folder backed.synced)) c.copy_back.ensures.ok in
    let widens = err_leads (IsTrue g.D.World.tells.folder → Widens name s2.folder s3.folder) (Widens name s1.folder s3.folder) c.copy_back.result
    (λ copies. widens_then name s1.folder s2.folder s3.folder (c.in-Err-fill_text.ensures.err told) (copies told)) c.copy_back.ensures.err in
    subst (λ (error : WriteErr). WritesOver true name c.args.backing.temporary.now backup old (file_in c.args.backing.format text) s0 s3 (Err error)) (sym c.after.ensures)
    (copying_stopped name backup c.args.backing.temporary.now old (file_in c.args.backing.format text) s0 s1 s3 c.start_over.ensures.kept.frame apart folder
    (c.start_over.ensures.over.each told old is) started runs c.in-Err-fill_text.stop c.copy_back.result synced widens (c.in-Ok.ensures.aside.gone told))

pub returns-in-Err-clause-over : goal.returns-in-Err-clause-over
returns-in-Err-clause-over g c told old is text has =
    let s0 : Scene = g.D.World.scene c.args.desk.now in
    let s1 : Scene = g.D.World.scene c.start_over.new.desk in
    let over = c.start_over.ensures.over.each told old is in
    over_not_begun true c.args.backing.name.now c.args.backing.temporary.now c.args.backing.backup.now old (file_in c.args.backing.format text) s0 s1 over.spares over.kept over.replaced over.in_place (λ copies. over.anew) (c.in-Err.ensures.err.each told old is)

pub fill_text-requires-clause-empty : goal.fill_text-requires-clause-empty
fill_text-requires-clause-empty g c told =
    let had = c.requires.settled told in
    (c.in-Ok.ensures.ok.each told had.0 had.1).empty

pub copy_back-requires-clause-there : goal.copy_back-requires-clause-there
copy_back-requires-clause-there g c told =
    let had = c.requires.settled told in
    let started = c.in-Ok.ensures.ok.each told had.0 had.1 in
    let s1 : Scene = g.D.World.scene c.start_over.new.desk in
    let s2 : Scene = g.D.World.scene c.fill_text.new.desk in
    let backed : IsSettled c.args.backing.backup.now had.0 s2.folder = over_backed c.args.backing.name.now c.args.backing.backup.now c.args.backing.temporary.now had.0 s1 s2 (λ e. c.requires.names.differ_name (sym e)) started.backed
    (g.D.World.is_folder c.start_over.new.desk told) [] started.empty (c.fill_text.ensures.runs told) in
    synced_there c.args.backing.backup.now had.0 s2.folder backed.synced

pub copy_back-requires-clause-alone : goal.copy_back-requires-clause-alone
copy_back-requires-clause-alone g c told =
    let had = c.requires.settled told in
    let started = c.in-Ok.ensures.ok.each told had.0 had.1 in
    let s1 : Scene = g.D.World.scene c.start_over.new.desk in
    let s2 : Scene = g.D.World.scene c.fill_text.new.desk in
    alone_one c.args.backing.name.now s1.folder s2.folder (c.fill_text.ensures.runs told).now
    (alone_now c.args.backing.name.now [] s1.folder started.backed.pending (g.D.World.is_folder c.start_over.new.desk told) started.empty)

pub returns-in-Ok-fill_text-clause-kept : goal.returns-in-Ok-fill_text-clause-kept
returns-in-Ok-fill_text-clause-kept g c =
    going.Continues-with g.met.D.Desk.stays_on c.in-Ok.ensures.kept c.in-Ok-fill_text.ensures.kept
    (HasCause-trans c.in-Ok.ensures.kept.cause c.in-Ok-fill_text.ensures.kept.cause (λ failed. let same = failed.1 in absurd (cc)))

pub returns-in-Err-fill_text-clause-kept : goal.returns-in-Err-fill_text-clause-kept
returns-in-Err-fill_text-clause-kept g c =
    let s0 : Scene = g.D.World.scene c.args.desk.now in
    let s2 : Scene = g.D.World.scene c.fill_text.new.desk in
    let s3 : Scene = g.D.World.scene c.copy_back.new.desk in
    let first = going.GoesOn-then g.met.D.Desk.stays_on (λ is. absurd (cc)) c.in-Ok.ensures.kept c.in-Err-fill_text.ensures.kept in
    going.Continues-with g.met.D.Desk.stays_on first c.copy_back.ensures.kept
    (subst (λ (error : WriteErr). HasCause s0.folder_faults s3.folder_faults (IsFailed (going.err_as ℕ error))) (sym c.after.ensures)
    (doing.back_cause c.in-Err-fill_text.stop c.copy_back.result s0 s2 s3 first.cause c.copy_back.ensures.kept.cause))

pub returns-in-Err-clause-kept : goal.returns-in-Err-clause-kept
returns-in-Err-clause-kept g c = going.Continues-as (λ _. refl) c.in-Err.ensures.kept

pub returns-in-Ok-fill_text-clause-quiet : goal.returns-in-Ok-fill_text-clause-quiet
returns-in-Ok-fill_text-clause-quiet g c told =
    (going.GoesOn-then g.met.D.Desk.stays_on (λ is. absurd (cc)) c.in-Ok.ensures.kept c.in-Ok-fill_text.ensures.kept).stops.none told (λ is. absurd (cc))

pub returns-in-Err-fill_text-clause-refused : goal.returns-in-Err-fill_text-clause-refused
returns-in-Err-fill_text-clause-refused g c told =
    let s0 : Scene = g.D.World.scene c.args.desk.now in
    let s2 : Scene = g.D.World.scene c.fill_text.new.desk in
    let s3 : Scene = g.D.World.scene c.copy_back.new.desk in
    let first = going.GoesOn-then g.met.D.Desk.stays_on (λ is. absurd (cc)) c.in-Ok.ensures.kept c.in-Err-fill_text.ensures.kept in
    subst (λ (error : WriteErr). PutsBack s0 s3 (Err error)) (sym c.after.ensures)
    (doing.refused_back c.in-Err-fill_text.stop c.copy_back.result s0 s2 s3 first.cause c.copy_back.ensures.kept.cause g.D.World.tells told first.stops c.copy_back.ensures.kept.stops)

pub returns-in-Err-clause-refused : goal.returns-in-Err-clause-refused
returns-in-Err-clause-refused g c told =
    let s0 : Scene = g.D.World.scene c.args.desk.now in
    let s1 : Scene = g.D.World.scene c.start_over.new.desk in
    doing.refused_at g.D.World.tells place.File (λ e. cc) s0 s1 told refl c.in-Err.ensures.kept.stops c.in-Err.ensures.kept.cause

pub copy_back-requires-clause-differ : goal.copy_back-requires-clause-differ
copy_back-requires-clause-differ g c e = c.requires.names.differ_name (sym e)

pub returns-in-Ok-fill_text-clause-modes : goal.returns-in-Ok-fill_text-clause-modes
returns-in-Ok-fill_text-clause-modes g c =
    makes_then c.start_over.ensures.kept.frame c.start_over.ensures.modes (makes_any (mode_in (g.D.World.scene c.args.desk.now).folder c.args.backing.name.now) c.fill_text.ensures.modes)

pub returns-in-Err-fill_text-clause-modes : goal.returns-in-Err-fill_text-clause-modes
returns-in-Err-fill_text-clause-modes g c =
    let told = g.D.World.tells.folder in
    let name = c.args.backing.name.now in
    let backup = c.args.backing.backup.now in
    let s0 : Scene = g.D.World.scene c.args.desk.now in
    let s1 : Scene = g.D.World.scene c.start_over.new.desk in
    let s2 : Scene = g.D.World.scene c.fill_text.new.desk in
    makes_then (frames s0 s1 s2 c.start_over.ensures.kept.frame c.fill_text.ensures.kept.frame)
    (makes_then c.start_over.ensures.kept.frame c.start_over.ensures.modes (makes_any (mode_in s0.folder name) c.fill_text.ensures.modes))
    (makes_as (mode_in s2.folder backup) (mode_in s0.folder name)
    (λ is.
    let had = c.requires.settled is in
    let started = c.in-Ok.ensures.ok.each is had.0 had.1 in
    over_mode name backup c.args.backing.temporary.now had.0 s1 s2 (λ e. c.requires.names.differ_name (sym e)) started.backed (g.D.World.is_folder c.start_over.new.desk is) [] started.empty (c.fill_text.ensures.runs is)
    ∙ c.in-Ok.ensures.mode.copy is)
    c.copy_back.ensures.modes)
