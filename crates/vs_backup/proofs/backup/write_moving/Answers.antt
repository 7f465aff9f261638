use Rattle.std.proofs.Common.{◌≡◌, ◌∙◌, [], ◌∷◌, ℕ, List, IsTrue, false, Err, refl, sym, subst}
use Rattle.std.proofs.lemmas.Bool.{true≢false}
use Rattle.vs_faults.specs.Faults.{HasCause}
use Rattle.vs_faults.proofs.Causes.{HasCause-trans}
use Rattle.vs_text.specs.Documents.{file_in}
use Rattle.vs_host.specs.Disk.{Disk, mode_in}
use Rattle.vs_host.specs.Trace.{Renamed}
use Rattle.vs_host.specs.World.{Scene}
use Rattle.vs_disk.specs.Images.{HoldsBytes, IsSynced}
use Rattle.vs_disk.proofs.Runs.{frames, one_call}
use Rattle.vs_disk.proofs.Contents.{not_there}
use Rattle.vs_backup.specs.Works.{IsGone, LeadsTo, Spares, StandsUnder, Widens, one_name, two_names}
use Rattle.vs_backup.specs.Writing.{IsFailed, IsKept, IsSettled, PutsBack, Replaces, WritesOver}
use Rattle.vs_backup.specs.declared.errors.Place.TheVariants as place
use Rattle.vs_backup.specs.declared.errors.WriteErr.{WriteErr}
use Rattle.vs_backup.proofs.Calls.{synced_there}
use Rattle.vs_backup.proofs.Frames.{err_leads, ok_both, spares_same, takes_same}
use Rattle.vs_backup.proofs.Kept.{guard_moved, moved_away, kept_by_name, settled_holds}
use Rattle.vs_backup.proofs.Copying.{only_file, over_not_begun}
use Rattle.vs_backup.proofs.Places.{leads_settled, under_still}
use Rattle.vs_backup.proofs.Replacing.{replaces_takes}
use Rattle.vs_backup.proofs.Moving.{anew_done, anew_stopped, moving_done, moving_stopped}
use Rattle.vs_backup.proofs.Modes.{makes_as, makes_renamed, makes_then, mode_renamed, mode_spared}
use Rattle.vs_backup.proofs.Doing as doing
use Rattle.vs_backup.proofs.Going as going
use Rattle.vs_backup.proofs.backup.write_moving.Goals as goal

pub returns-in-Ok-write_anew-clause-over : goal.returns-in-Ok-write_anew-clause-over
returns-in-Ok-write_anew-clause-over g c told old is text has =
    let name = c.args.backing.name.now in
    let backup = c.args.backing.backup.now in
    let s0 : Scene = g.D.World.scene c.args.desk.now in
    let s1 : Scene = g.D.World.scene c.rename.new.self in
    let s2 : Scene = g.D.World.scene c.write_anew.new.desk in
    let renames = c.in-Ok.ensures.ok told in
    let kept = g.met.D.Desk.stays_text c.args.desk.now c.rename.new.self text c.rename.ensures.kept.stays has in
    let done = c.in-Ok-write_anew.ensures.ok.each told text kept in
    moving_done name backup old (file_in c.args.backing.format text) s0 s1 s2 is c.rename.ensures.kept.frame c.rename.result (c.rename.ensures.told told) renames c.in-Ok-write_anew.size
    c.args.backing.temporary.now c.requires.names.differ_name (g.D.World.is_folder c.write_anew.new.desk told)
    ((c.in-Ok-write_anew.ensures.mode.takes (λ e. c.requires.names.differ_name (sym e))).same told
    (synced_there backup old s1.folder (record { number = is.synced.number; leads = (guard_moved name backup old s0.folder s1.folder is renames).now; has = (guard_moved name backup old s0.folder s1.folder is renames).held.has })))
    (anew_done name backup is.synced.number c.in-Ok-write_anew.size old (file_in c.args.backing.format text) s1 s2
    (c.write_anew.ensures.anew.each told is.synced.number old (λ e. c.requires.names.differ_name (sym e)) (guard_moved name backup old s0.folder s1.folder is renames)) done.0 done.1)

pub returns-in-Err-write_anew-clause-over : goal.returns-in-Err-write_anew-clause-over
returns-in-Err-write_anew-clause-over g c told old is text has =
    let name = c.args.backing.name.now in
    let backup = c.args.backing.backup.now in
    let s0 : Scene = g.D.World.scene c.args.desk.now in
    let s1 : Scene = g.D.World.scene c.rename.new.self in
    let s2 : Scene = g.D.World.scene c.write_anew.new.desk in
    let s3 : Scene = g.D.World.scene c.take_name.new.desk in
    let renames = c.in-Ok.ensures.ok told in
    let anew = anew_stopped name backup is.synced.number c.in-Err-write_anew.stop old (file_in c.args.backing.format text) s1 s2
    (c.write_anew.ensures.anew.each told is.synced.number old (λ e. c.requires.names.differ_name (sym e)) (guard_moved name backup old s0.folder s1.folder is renames)) (c.in-Err-write_anew.ensures.err.leaves told) in
    let guard = anew.guarded.now in
    let back = ok_both c.take_name.result (IsTrue g.D.World.tells.folder → (bytes : List ℕ) → IsSynced backup bytes s2.folder → IsSettled name bytes s3.folder) (IsTrue g.D.World.tells.folder → IsGone backup s3.folder)
    (IsSettled name old s3.folder × IsGone backup s3.folder) (λ takes gone. (takes told old (record { number = is.synced.number; leads = guard.now; has = guard.held.has }), gone told)) c.take_name.ensures.ok c.take_name.ensures.gone in
    let widens = err_leads (IsTrue g.D.World.tells.folder → Widens name s2.folder s3.folder) (Widens name s2.folder s3.folder) c.take_name.result (λ widens. widens told) c.take_name.ensures.err in
    subst (λ (error : WriteErr). WritesOver false name c.args.backing.temporary.now backup old (file_in c.args.backing.format text) s0 s3 (Err error)) (sym c.after.ensures)
    (moving_stopped name backup old (file_in c.args.backing.format text) s0 s1 s2 is c.rename.ensures.kept.frame c.rename.result (c.rename.ensures.told told) renames c.in-Err-write_anew.stop s3 c.requires.names.differ_name anew
    c.write_anew.ensures.kept.frame (c.take_name.ensures.spares told) (c.take_name.ensures.held told is.synced.number old guard.held guard.now) (c.take_name.ensures.hands told) c.args.backing.temporary.now c.take_name.result back widens)

pub returns-in-Err-clause-over : goal.returns-in-Err-clause-over
returns-in-Err-clause-over g c told old is text has =
    let name = c.args.backing.name.now in
    let backup = c.args.backing.backup.now in
    let on = two_names name backup in
    let s0 : Scene = g.D.World.scene c.args.desk.now in
    let s1 : Scene = g.D.World.scene c.rename.new.self in
    let holds = settled_holds name old s0.folder is in
    let still = subst (λ (d : Disk). HoldsBytes name old d) (sym c.in-Err.ensures.err) holds in
    over_not_begun false name c.args.backing.temporary.now backup old (file_in c.args.backing.format text) s0 s1
    (one_call (Spares on) Renamed (name ∷ backup ∷ []) c.rename.result s0 s1 c.rename.ensures.kept.frame (c.rename.ensures.told told) (spares_same on s0.folder s1.folder c.in-Err.ensures.err))
    (one_call (λ a b. IsKept name backup old b) Renamed (name ∷ backup ∷ []) c.rename.result s0 s1 c.rename.ensures.kept.frame (c.rename.ensures.told told) (kept_by_name name backup old s1.folder still))
    (one_call (Replaces false name backup old) Renamed (name ∷ backup ∷ []) c.rename.result s0 s1 c.rename.ensures.kept.frame (c.rename.ensures.told told) (replaces_takes false name backup old s0.folder s1.folder (takes_same backup old s0.folder s1.folder c.in-Err.ensures.err)))
    (record { under = one_call (StandsUnder name backup) Renamed (name ∷ backup ∷ []) c.rename.result s0 s1 c.rename.ensures.kept.frame (c.rename.ensures.told told) (under_still name backup s0.folder s1.folder is.pending c.in-Err.ensures.err); another = tt; kept = λ keeps. tt; in_file = λ refused. subst (λ (d : Disk). LeadsTo name name s0.folder d) (sym c.in-Err.ensures.err) (leads_settled name s0.folder is.pending); in_backup = λ refused. absurd (only_file place.Backup (λ e. cc) refused) })
    (λ copies. absurd (true≢false (sym copies))) still

pub rename-requires-clause-there : goal.rename-requires-clause-there
rename-requires-clause-there g c told =
    let had = c.requires.settled told in
    synced_there c.args.backing.name.now had.0 (g.D.World.scene c.args.desk.now).folder had.1.synced

pub write_anew-requires-clause-free : goal.write_anew-requires-clause-free
write_anew-requires-clause-free g c told =
    let s0 : Scene = g.D.World.scene c.args.desk.now in
    let s1 : Scene = g.D.World.scene c.rename.new.self in
    not_there s1.folder c.args.backing.name.now (moved_away c.args.backing.name.now c.args.backing.backup.now s0.folder s1.folder (λ e. c.requires.names.differ_name (sym e)) (c.in-Ok.ensures.ok told))

pub take_name-requires-clause-there : goal.take_name-requires-clause-there
take_name-requires-clause-there g c told =
    let had = c.requires.settled told in
    let name = c.args.backing.name.now in
    let backup = c.args.backing.backup.now in
    let s0 : Scene = g.D.World.scene c.args.desk.now in
    let s1 : Scene = g.D.World.scene c.rename.new.self in
    let s2 : Scene = g.D.World.scene c.write_anew.new.desk in
    let made = c.write_anew.ensures.anew.each told had.1.synced.number had.0 (λ e. c.requires.names.differ_name (sym e)) (guard_moved name backup had.0 s0.folder s1.folder had.1 (c.in-Ok.ensures.ok told)) in
    let guard = made.guarded.now in
    synced_there backup had.0 s2.folder (record { number = had.1.synced.number; leads = guard.now; has = guard.held.has })

pub returns-in-Ok-write_anew-clause-kept : goal.returns-in-Ok-write_anew-clause-kept
returns-in-Ok-write_anew-clause-kept g c =
    going.Continues-with g.met.D.Desk.stays_on c.in-Ok.ensures.kept c.in-Ok-write_anew.ensures.kept
    (HasCause-trans c.in-Ok.ensures.kept.cause c.in-Ok-write_anew.ensures.kept.cause (λ failed. let same = failed.1 in absurd (cc)))

pub returns-in-Err-write_anew-clause-kept : goal.returns-in-Err-write_anew-clause-kept
returns-in-Err-write_anew-clause-kept g c =
    let s0 : Scene = g.D.World.scene c.args.desk.now in
    let s2 : Scene = g.D.World.scene c.write_anew.new.desk in
    let s3 : Scene = g.D.World.scene c.take_name.new.desk in
    let first = going.GoesOn-then g.met.D.Desk.stays_on (λ is. absurd (cc)) c.in-Ok.ensures.kept c.in-Err-write_anew.ensures.kept in
    going.Continues-with g.met.D.Desk.stays_on first c.take_name.ensures.kept
    (subst (λ (error : WriteErr). HasCause s0.folder_faults s3.folder_faults (IsFailed (going.err_as ℕ error))) (sym c.after.ensures)
    (doing.back_cause c.in-Err-write_anew.stop c.take_name.result s0 s2 s3 first.cause c.take_name.ensures.kept.cause))

pub returns-in-Err-clause-kept : goal.returns-in-Err-clause-kept
returns-in-Err-clause-kept g c = going.Continues-as (λ _. refl) c.in-Err.ensures.kept

pub returns-in-Ok-write_anew-clause-quiet : goal.returns-in-Ok-write_anew-clause-quiet
returns-in-Ok-write_anew-clause-quiet g c told =
    (going.GoesOn-then g.met.D.Desk.stays_on (λ is. absurd (cc)) c.in-Ok.ensures.kept c.in-Ok-write_anew.ensures.kept).stops.none told (λ is. absurd (cc))

pub returns-in-Err-write_anew-clause-refused : goal.returns-in-Err-write_anew-clause-refused
returns-in-Err-write_anew-clause-refused g c told =
    let s0 : Scene = g.D.World.scene c.args.desk.now in
    let s2 : Scene = g.D.World.scene c.write_anew.new.desk in
    let s3 : Scene = g.D.World.scene c.take_name.new.desk in
    let first = going.GoesOn-then g.met.D.Desk.stays_on (λ is. absurd (cc)) c.in-Ok.ensures.kept c.in-Err-write_anew.ensures.kept in
    subst (λ (error : WriteErr). PutsBack s0 s3 (Err error)) (sym c.after.ensures)
    (doing.refused_back c.in-Err-write_anew.stop c.take_name.result s0 s2 s3 first.cause c.take_name.ensures.kept.cause g.D.World.tells told first.stops c.take_name.ensures.kept.stops)

pub returns-in-Err-clause-refused : goal.returns-in-Err-clause-refused
returns-in-Err-clause-refused g c told =
    let s0 : Scene = g.D.World.scene c.args.desk.now in
    let s1 : Scene = g.D.World.scene c.rename.new.self in
    doing.refused_at g.D.World.tells place.File (λ e. cc) s0 s1 told refl c.in-Err.ensures.kept.stops c.in-Err.ensures.kept.cause

pub take_name-requires-clause-differ : goal.take_name-requires-clause-differ
take_name-requires-clause-differ g c e = c.requires.names.differ_name (sym e)

pub returns-in-Ok-write_anew-clause-modes : goal.returns-in-Ok-write_anew-clause-modes
returns-in-Ok-write_anew-clause-modes g c =
    let name = c.args.backing.name.now in
    let backup = c.args.backing.backup.now in
    let s0 : Scene = g.D.World.scene c.args.desk.now in
    let s1 : Scene = g.D.World.scene c.rename.new.self in
    makes_then c.rename.ensures.kept.frame
    (makes_renamed g.D.World.tells.folder Renamed (name ∷ backup ∷ []) c.rename.result s0 s1 c.rename.ensures.kept.frame c.rename.ensures.told name backup c.rename.ensures.ok c.rename.ensures.err)
    (makes_as (mode_in s1.folder backup) (mode_in s0.folder name) (λ is. mode_renamed name backup s0.folder s1.folder (c.in-Ok.ensures.ok is)) (c.write_anew.ensures.anew.modes (λ e. c.requires.names.differ_name (sym e))))

pub returns-in-Err-write_anew-clause-modes : goal.returns-in-Err-write_anew-clause-modes
returns-in-Err-write_anew-clause-modes g c =
    let name = c.args.backing.name.now in
    let backup = c.args.backing.backup.now in
    let differ = λ (e : backup ≡ name). c.requires.names.differ_name (sym e) in
    let s0 : Scene = g.D.World.scene c.args.desk.now in
    let s1 : Scene = g.D.World.scene c.rename.new.self in
    let s2 : Scene = g.D.World.scene c.write_anew.new.desk in
    makes_then (frames s0 s1 s2 c.rename.ensures.kept.frame c.write_anew.ensures.kept.frame)
    (makes_then c.rename.ensures.kept.frame
    (makes_renamed g.D.World.tells.folder Renamed (name ∷ backup ∷ []) c.rename.result s0 s1 c.rename.ensures.kept.frame c.rename.ensures.told name backup c.rename.ensures.ok c.rename.ensures.err)
    (makes_as (mode_in s1.folder backup) (mode_in s0.folder name) (λ is. mode_renamed name backup s0.folder s1.folder (c.in-Ok.ensures.ok is)) (c.write_anew.ensures.anew.modes differ)))
    (makes_as (mode_in s2.folder backup) (mode_in s0.folder name)
    (λ is.
    let had = c.requires.settled is in
    let made = c.write_anew.ensures.anew.each is had.1.synced.number had.0 differ (guard_moved name backup had.0 s0.folder s1.folder had.1 (c.in-Ok.ensures.ok is)) in
    mode_spared (one_name name) backup s1.folder s2.folder differ made.spares.now ∙ mode_renamed name backup s0.folder s1.folder (c.in-Ok.ensures.ok is))
    c.take_name.ensures.modes)

pub returns-in-Err-clause-modes : goal.returns-in-Err-clause-modes
returns-in-Err-clause-modes g c =
    let name = c.args.backing.name.now in
    let backup = c.args.backing.backup.now in
    let s0 : Scene = g.D.World.scene c.args.desk.now in
    let s1 : Scene = g.D.World.scene c.rename.new.self in
    makes_renamed g.D.World.tells.folder Renamed (name ∷ backup ∷ []) c.rename.result s0 s1 c.rename.ensures.kept.frame c.rename.ensures.told name backup c.rename.ensures.ok c.rename.ensures.err
