-- Writing over a file in its place: until the copy stands under the backup name the file has the old bytes, and then the copy has.
use Rattle.std.proofs.Common.{◌≡◌, inl, inr, ℕ, Bool, true, List, [], Some, length, OnOk, OnErr, Result, Ok, Err, refl, sym, ◌∙◌, ap}
use Rattle.std.specs.Prelude.{IsErrOf}
use Rattle.vs_host.specs.File.{File, Cuts}
use Rattle.vs_host.specs.Disk.{Disk, Name, content_in, mode_in, ChangesFile, IsFolder}
use Rattle.vs_host.specs.World.{Scene, ChangesFolder}
use Rattle.vs_host.specs.declared.traits.Failed.{Failed}
use Rattle.vs_disk.specs.Images.{HoldsBytes, IsSynced, MayLeave, Takes}
use Rattle.vs_disk.specs.Runs.{Runs}
use Rattle.vs_disk.proofs.Steps.{same_at}
use Rattle.vs_disk.proofs.Images.{read_image}
use Rattle.vs_disk.proofs.Runs.{runs_as, runs_then}
use Rattle.vs_disk.proofs.Contents.{file_of_content, content_of_file, holds_synced}
use Rattle.vs_backup.specs.Works.{ChangesOne, IsAlone, IsGone, LeadsTo, Renews, Spares, Widens, one_name, two_names, three_names}
use Rattle.vs_backup.specs.Writing.{IsFailed, IsKept, IsSettled, Places, Replaces, StartsOver, IsStartedOver, WritesOver, OldIn, backed_names, stopped, stopped_after}
use Rattle.vs_backup.specs.declared.errors.Place.{Place}
use Rattle.vs_backup.specs.declared.errors.Place.TheVariants as place
use Rattle.vs_backup.specs.declared.errors.Stop.{Stop}
use Rattle.vs_backup.specs.declared.errors.Stop.TheVariants as stop
use Rattle.vs_backup.specs.declared.errors.WriteErr.TheVariants as error
use Rattle.vs_backup.proofs.Calls.{runs_wider, runs_file, spares_on, synced_bytes}
use Rattle.vs_backup.proofs.Frames.{alone_settled, holds_spared, synced_spared}
use Rattle.vs_backup.proofs.Places.{in_place_spared, in_place_on}
use Rattle.vs_backup.proofs.Renewing.{renews_gone}
use Rattle.vs_backup.proofs.Replacing.{takes_on, takes_others, gone_changed}
use Rattle.vs_backup.proofs.Kept.{kept_by_name, kept_by_backup, settled_holds, may_leave_now}
use Rattle.vs_backup.proofs.Modes.{mode_spared}

-- a predicate that holds at each moment of two runs
pub kept_on : (P : Disk → Type 0) (s0 s1 s2 : Scene) → ChangesFolder s0 s1 → Runs (λ a b. P b) s0 s1 → Runs (λ a b. P b) s1 s2 → Runs (λ a b. P b) s0 s2
kept_on P s0 s1 s2 frame first second = runs_then (λ a b. P b) (λ a b. P b) (λ a b. P b) s0 s1 s2 (λ d is. is) (λ d is. is) frame first second

pub cut_content : (name : Name) (bytes : List ℕ) (old new : Disk) → ChangesFile name (Cuts 0) old new → content_in old name ≡ Some bytes → content_in new name ≡ Some []
cut_content name bytes old new changes is =
    let has = file_of_content old name bytes is in
    content_of_file new name [] (record {
      number = has.number;
      leads = same_at name (Cuts 0) old new changes 0 name ∙ has.leads;
      has = ap (λ (f : File). f.bytes) (changes.this has.number has.leads);
    })

pub alone_content : (name : Name) (disk : Disk) → (alone : IsAlone name disk) → content_in disk name ≡ Some (disk.files alone.number).bytes
alone_content name disk alone = content_of_file disk name (disk.files alone.number).bytes (record { number = alone.number; leads = alone.leads; has = refl })

pub alone_now : (name : Name) (bytes : List ℕ) (disk : Disk) → disk.pending ≡ [] → IsFolder disk → content_in disk name ≡ Some bytes → IsAlone name disk
alone_now name bytes disk none folder is = let has = file_of_content disk name bytes is in alone_settled name has.number disk none folder has.leads

-- calls on the file once its copy is settled under the backup name
module _ (name backup temporary : Name) (old : List ℕ) (s1 s2 : Scene) (differ : backup ≡ name → ⊥) (settled : IsSettled backup old s1.folder) (folder : IsFolder s1.folder)
    (bytes : List ℕ) (there : content_in s1.folder name ≡ Some bytes) (runs : Runs (ChangesOne name) s1 s2) where
  over_one : Runs (Spares (one_name name)) s1 s2
  over_one = runs_file name s1 s2 (alone_now name bytes s1.folder settled.pending folder there) runs

  pub over_spares : Runs (Spares (three_names name temporary backup)) s1 s2
  over_spares = runs_wider (one_name name) (three_names name temporary backup) s1 s2 (λ n is. inl is) over_one

  pub over_kept : Runs (λ a b. IsKept name backup old b) s1 s2
  over_kept = runs_as (Spares (one_name name)) (λ a b. IsKept name backup old b) s1 s2
      (λ d spares. kept_by_backup name backup old d (holds_spared (one_name name) backup (λ c. c ≡ old) s1.folder d differ spares (settled_holds backup old s1.folder settled))) over_one

  pub over_replaced : Runs (Takes backup old) s1 s2
  over_replaced = takes_others (one_name name) backup old s1 s2 differ over_one

  pub over_mode : mode_in s2.folder backup ≡ mode_in s1.folder backup
  over_mode = mode_spared (one_name name) backup s1.folder s2.folder differ over_one.now

  pub over_backed : IsSettled backup old s2.folder
  over_backed = record {
    pending = runs.now.pending ∙ settled.pending;
    synced = synced_spared (one_name name) backup old s1.folder s2.folder differ over_one.now settled.synced;
  }

-- until the copy stands under the backup name
module _ (name backup temporary : Name) (old : List ℕ) (s0 s1 : Scene) (differ : name ≡ temporary → ⊥) (differ_name : name ≡ backup → ⊥) (is : IsSettled name old s0.folder)
    (runs : Runs (Spares (two_names temporary backup)) s0 s1) where
  not_two : two_names temporary backup name → ⊥
  not_two both = elim both [ inl e ↦ differ e | inr e ↦ differ_name e ]

  pub copy_spares : Runs (Spares (three_names name temporary backup)) s0 s1
  copy_spares = runs_wider (two_names temporary backup) (three_names name temporary backup) s0 s1 (λ n is. inr is) runs

  pub copy_kept : Runs (λ a b. IsKept name backup old b) s0 s1
  copy_kept = runs_as (Spares (two_names temporary backup)) (λ a b. IsKept name backup old b) s0 s1
      (λ d spares. kept_by_name name backup old d (holds_spared (two_names temporary backup) name (λ c. c ≡ old) s0.folder d not_two spares (settled_holds name old s0.folder is))) runs

  pub copy_in_place : Runs (LeadsTo name name) s0 s1
  copy_in_place = in_place_spared (two_names temporary backup) name s0 s1 not_two is.pending runs

  pub copy_holds : HoldsBytes name old s1.folder
  copy_holds = holds_spared (two_names temporary backup) name (λ c. c ≡ old) s0.folder s1.folder not_two runs.now (settled_holds name old s0.folder is)

  pub copy_content : content_in s1.folder name ≡ Some old
  copy_content = synced_bytes name old s1.folder (synced_spared (two_names temporary backup) name old s0.folder s1.folder not_two runs.now is.synced)

-- ---- the whole
pub never_other : (why : Stop) (place other : Place) → (place ≡ other → ⊥) → {T : Type 0} → OldIn {T = T} other (Err (stopped why place)) → ⊥
never_other stop.Failed place other differ (inl is) = differ (cc)
never_other stop.Failed place other differ (inr is) = cc
never_other stop.NoMemory place other differ (inl is) = cc
never_other stop.NoMemory place other differ (inr is) = differ (cc)

pub never_no_name : (why : Stop) (place : Place) {T : Type 0} → IsErrOf {T = T} (Err (stopped why place)) error.NoBackupName → ⊥
never_no_name stop.Failed place is = cc
never_no_name stop.NoMemory place is = cc

pub never_refused : (size : ℕ) (at : Place) → OldIn at (Ok size) → ⊥
never_refused size at (inl is) = cc
never_refused size at (inr is) = cc

pub never_failed : (size : ℕ) → IsFailed (Ok size) → ⊥
never_failed size failed = let same = failed.1 in cc

pub only_file : (at : Place) → (at ≡ place.File → ⊥) → OldIn {T = ℕ} at (Err (error.Failed place.File)) → ⊥
only_file at other (inl is) = let same : place.File ≡ at = cc in other (sym same)
only_file at other (inr is) = cc

-- what each image has, a stop may leave
pub content_held : (name : Name) (bytes : List ℕ) (disk : Disk) → HoldsBytes name bytes disk → content_in disk name ≡ Some bytes
content_held name bytes disk holds =
    let here = holds 0 in
    content_of_file disk name bytes (record { number = here.number; leads = here.leads; has = here.leaves (disk.files here.number).bytes (read_image (disk.files here.number)) })

pub may_leave_held : (name : Name) (bytes : List ℕ) (disk : Disk) → HoldsBytes name bytes disk → MayLeave disk name (Some bytes)
may_leave_held name bytes disk holds = may_leave_now name bytes disk (content_held name bytes disk holds)

-- after the file was emptied, the text was written, or not
module _ (name backup temporary : Name) (old new : List ℕ) (s0 s1 s2 : Scene) (frame : ChangesFolder s0 s1) (differ : backup ≡ name → ⊥) (folder : IsFolder s1.folder)
    (over : StartsOver name temporary backup old s0 s1) (started : IsStartedOver name backup old s1.folder) (runs : Runs (ChangesOne name) s1 s2) where
  all_spares : Runs (Spares (three_names name temporary backup)) s0 s2
  all_spares = spares_on (three_names name temporary backup) s0 s1 s2 frame over.spares (over_spares name backup temporary old s1 s2 differ started.backed folder [] started.empty runs)

  all_kept : Runs (λ a b. IsKept name backup old b) s0 s2
  all_kept = kept_on (IsKept name backup old) s0 s1 s2 frame over.kept (over_kept name backup temporary old s1 s2 differ started.backed folder [] started.empty runs)

  all_replaced : Runs (Takes backup old) s0 s2
  all_replaced = takes_on backup old s0 s1 s2 frame over.replaced (over_replaced name backup temporary old s1 s2 differ started.backed folder [] started.empty runs)

  backed : IsSettled backup old s2.folder
  backed = over_backed name backup temporary old s1 s2 differ started.backed folder [] started.empty runs

  pub copying_done : (size : ℕ) → size ≡ length new → IsSynced name new s2.folder → IsGone temporary s1.folder → mode_in s2.folder name ≡ mode_in s0.folder name
      → WritesOver true name temporary backup old new s0 s2 (Ok size)
  copying_done size is synced aside mode = record {
    mode = mode;
    spares = all_spares;
    kept = all_kept;
    places = in_place_on name s0 s1 s2 frame over.in_place runs;
    replaced = all_replaced;
    aside = λ copies calm. gone_changed temporary name s1.folder s2.folder runs.now aside;
    anew = λ copies. renews_gone temporary s0 s1 s2 frame over.anew name aside runs;
    written = (is, holds_synced name new s2.folder backed.pending synced, settled_holds backup old s2.folder backed);
    not_written = tt;
    in_file = λ refused. absurd (never_refused size place.File refused);
    in_backup = λ refused. absurd (never_refused size place.Backup refused);
    somewhere = (λ refused. never_refused size place.Nowhere refused, λ is. cc);
  }

  -- the file was put back, or that failed
  pub copying_stopped : (why : Stop) (back : Result (Unit {0}) Failed) → OnOk back (IsSynced name old s2.folder) → OnErr back (Widens name s1.folder s2.folder) → IsGone temporary s1.folder
      → WritesOver true name temporary backup old new s0 s2 (Err (stopped_after why back))
  copying_stopped why (Ok done) synced widens aside = record {
    mode = tt;
    spares = all_spares;
    kept = all_kept;
    places = in_place_on name s0 s1 s2 frame over.in_place runs;
    replaced = all_replaced;
    aside = λ copies calm. gone_changed temporary name s1.folder s2.folder runs.now aside;
    anew = λ copies. renews_gone temporary s0 s1 s2 frame over.anew name aside runs;
    written = tt;
    not_written = inl (may_leave_held name old s2.folder (holds_synced name old s2.folder backed.pending synced));
    in_file = λ refused. holds_synced name old s2.folder backed.pending synced;
    in_backup = λ refused. absurd (never_other why place.File place.Backup (λ e. cc) refused);
    somewhere = (λ refused. never_other why place.File place.Nowhere (λ e. cc) refused, λ is. never_no_name why place.File is);
  }
  copying_stopped why (Err failed) synced widens aside = record {
    mode = tt;
    spares = all_spares;
    kept = all_kept;
    places = in_place_on name s0 s1 s2 frame over.in_place runs;
    replaced = all_replaced;
    aside = λ copies calm. gone_changed temporary name s1.folder s2.folder runs.now aside;
    anew = λ copies. renews_gone temporary s0 s1 s2 frame over.anew name aside runs;
    written = tt;
    not_written = inl (widens (Some old) started.may_leave);
    in_file = λ refused. absurd (never_other why place.Backup place.File (λ e. cc) refused);
    in_backup = λ refused some. (Some [], widens (Some []) (may_leave_now name [] s1.folder started.empty), λ same. some refl (let is : [] ≡ old = cc in sym is));
    somewhere = (λ refused. never_other why place.Backup place.Nowhere (λ e. cc) refused, λ is. never_no_name why place.Backup is);
  }

-- the file is as it was
pub over_not_begun : (copying : Bool) (name temporary backup : Name) (old new : List ℕ) (s0 s1 : Scene) → Runs (Spares (backed_names copying name temporary backup)) s0 s1
    → Runs (λ a b. IsKept name backup old b) s0 s1 → Runs (Replaces copying name backup old) s0 s1 → Places copying true name backup s0 s1 (Err (error.Failed place.File)) → (copying ≡ true → Runs (Renews temporary) s0 s1) → HoldsBytes name old s1.folder
    → WritesOver copying name temporary backup old new s0 s1 (Err (error.Failed place.File))
over_not_begun copying name temporary backup old new s0 s1 spares kept replaced places anew holds = record {
  spares = spares;
  kept = kept;
  mode = tt;
  places = places;
  replaced = replaced;
  aside = λ copies calm. absurd (calm (place.File, refl));
  anew = anew;
  written = tt;
  not_written = inl (may_leave_held name old s1.folder holds);
  in_file = λ refused. holds;
  in_backup = λ refused. absurd (only_file place.Backup (λ is. cc) refused);
  somewhere = (λ refused. only_file place.Nowhere (λ is. cc) refused, λ is. cc);
}
