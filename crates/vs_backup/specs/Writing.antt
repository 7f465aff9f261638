-- What a write promises of the file and its backup.
use Rattle.std.specs.Prelude.{◌≡◌, ◌⊎◌, ◌≤◌, ℕ, List, [], ◌∷◌, ◌++◌, length, Option, Some, None, IsSomeAnd, IfOk, OnOk, OnErr, IsErr}
use Rattle.std.specs.Prelude.{IsErrOf, IsTrue, Result, Ok, Err}
use Rattle.std.specs.Prelude.{Bool, true, false}
use Rattle.vs_faults.specs.Faults.{HasRisen}
use Rattle.vs_text.specs.Documents.{file_in}
use Rattle.vs_text.specs.declared.format.Format.{Format}
use Rattle.vs_host.specs.Disk.{Disk, Name, IsImage, names_of, content_in, mode_in}
use Rattle.vs_host.specs.Names.{temporary}
use Rattle.vs_host.specs.Trace.{Looked, Snapshot}
use Rattle.vs_host.specs.World.{HasNewest, Scene, content_of}
use Rattle.vs_host.specs.declared.traits.Failed.{Failed}
use Rattle.vs_disk.specs.Images.{HoldsBytes, IsSynced, MayLeave, Takes}
use Rattle.vs_disk.specs.Runs.{FailsLast, Looks, Quiet, Runs}
use Rattle.vs_backup.specs.Modes.{Makes, TakesMode}
use Rattle.vs_backup.specs.Works.{HasSynced, IsGone, IsHeld, LeadsAway, LeadsTo, Narrowed, Renews, RenewsBut, Spares, SparesOthers}
use Rattle.vs_backup.specs.Works.{StandsUnder, StaysGone, Steps, one_name, two_names, three_names}
use Rattle.vs_backup.specs.Backups.{copies}
use Rattle.vs_backup.specs.declared.options.WriteOptions.{WriteOptions}
use Rattle.vs_backup.specs.declared.errors.Place.{Place}
use Rattle.vs_backup.specs.declared.errors.Place.TheVariants.{File, Backup, Nowhere}
use Rattle.vs_backup.specs.declared.errors.Stop.{Stop}
use Rattle.vs_backup.specs.declared.errors.Stop.TheVariants as stop
use Rattle.vs_backup.specs.declared.errors.WriteErr.{WriteErr}
use Rattle.vs_backup.specs.declared.errors.WriteErr.TheVariants as error
use Rattle.vs_edit.specs.declared.store.StoreErr.{StoreErr}
use Rattle.vs_edit.specs.declared.store.StoreErr.TheVariants as store

-- why a store stopped is why the write stops
abbrev pub StopsAs : StoreErr → Stop → Type 0
StopsAs store.Failed why = why ≡ stop.Failed
StopsAs store.NoMemory why = why ≡ stop.NoMemory

-- the answer to a write that stopped, with the place of the old bytes
abbrev pub stopped : Stop → Place → WriteErr
stopped stop.Failed place = error.Failed place
stopped stop.NoMemory place = error.NoMemory place

-- the answer to a write that stopped, by whether the file was put back
abbrev pub stopped_after : Stop → Result (Unit {0}) Failed → WriteErr
stopped_after why (Ok done) = stopped why File
stopped_after why (Err failed) = stopped why Backup

-- the answer of a write without a backup: the old bytes stand nowhere
abbrev pub nowhere : Result ℕ Stop → Result ℕ WriteErr
nowhere (Ok size) = Ok size
nowhere (Err why) = Err (stopped why Nowhere)

-- There is a moment, after a call, until which no call failed and at which the file has these bytes in each image. Of the calls after it,
-- which take the backup away, none but the last one failed.
pub record BecomesWritten (name : Name) (new : List ℕ) (before after : Scene) : Type 0 where
  pub written : Scene
  pub moment : HasNewest written
  pub quiet : Quiet before written
  pub holds : HoldsBytes name new written.folder
  pub later : FailsLast written after

-- a call failed
abbrev pub IsFailed : {T : Type 0} → Result T WriteErr → Type 0
IsFailed result = (place : Place) × IsErrOf result (error.Failed place)

-- the write was refused with this place of the old bytes
abbrev pub OldIn : {T : Type 0} → Place → Result T WriteErr → Type 0
OldIn place result = IsErrOf result (error.Failed place) ⊎ IsErrOf result (error.NoMemory place)

-- Which calls of a write that was refused failed. Until it stopped, none but the last one, and none at all unless that is answered. Of
-- those after that, which put the file back, none but the last one, and that one where the old bytes stand in the backup; then one
-- failed before too, where that is answered. Where there is no backup, nothing is put back: none but the last one of all.
pub record PutsBack (before after : Scene) (result : Result ℕ WriteErr) : Type 0 where
  pub stopped : Scene
  pub last : FailsLast before stopped
  pub none : ¬ IsFailed result → Quiet before stopped
  pub later : before.folder_faults ≤ stopped.folder_faults
  pub failed : OldIn Backup result → IsFailed result → HasRisen before.folder_faults stopped.folder_faults
  pub back_last : FailsLast stopped after
  pub back_none : ¬ OldIn Backup result → Quiet stopped after
  pub back_failed : OldIn Backup result → HasRisen stopped.folder_faults after.folder_faults
  pub alone : OldIn Nowhere result → FailsLast before after

-- Which calls of a write failed: of one that was carried out, none before the file had the new bytes; of one that was refused, the one at
-- which it stopped, and the one at which it could not put the file back.
pub record FailsNoEarlier (name : Name) (new : List ℕ) (before after : Scene) (result : Result ℕ WriteErr) : Type 0 where
  pub done : OnOk result (BecomesWritten name new before after)
  pub refused : OnErr result (PutsBack before after result)

-- the names on which a write with a backup works, by whether it copies
abbrev pub backed_names : Bool → Name → Name → Name → Name → Type 0
backed_names true name temporary backup = three_names name temporary backup
backed_names false name temporary backup = two_names name backup

-- The old file stands under its name or the backup name; one that is not kept does so until its name leads to another file
-- whatever a stop leaves.
abbrev pub StandsUntil : Bool → Name → Name → Disk → Disk → Type 0
StandsUntil true name backup old new = StandsUnder name backup old new
StandsUntil false name backup old new = StandsUnder name backup old new ⊎ LeadsAway name old new

-- A write that does not copy: the file itself becomes the backup, and another one gets its name. Where the write is refused, the file
-- has its name again whatever a stop leaves, or it stands under one of the two names.
pub record MovesAway (keep : Bool) (name backup : Name) (before after : Scene) (result : Result ℕ WriteErr) : Type 0 where
  pub under : Runs (StandsUntil keep name backup) before after
  pub another : OnOk result (LeadsAway name before.folder after.folder)
  pub kept : keep ≡ true → OnOk result (LeadsTo backup name before.folder after.folder)
  pub in_file : OldIn File result → LeadsTo name name before.folder after.folder
  pub in_backup : OldIn Backup result → StandsUnder name backup before.folder after.folder

-- which file stands under which name, by whether the file is copied: then its name leads to it at each moment
abbrev pub Places : Bool → Bool → Name → Name → Scene → Scene → Result ℕ WriteErr → Type 0
Places true keep name backup before after result = Runs (LeadsTo name name) before after
Places false keep name backup before after result = MovesAway keep name backup before after result

-- in each image the name or the backup name has the old bytes
abbrev pub IsKept : Name → Name → List ℕ → Disk → Type 0
IsKept name backup old disk = (image : Name → Option (List ℕ)) → IsImage disk image → (image name ≡ Some old) ⊎ (image backup ≡ Some old)

-- in each image the name or the backup name has the old or the new bytes whole
abbrev pub IsWhole : Name → Name → List ℕ → List ℕ → Disk → Type 0
IsWhole name backup old new disk = (image : Name → Option (List ℕ)) → IsImage disk image
    → IsSomeAnd (image name) (λ c. (c ≡ old) ⊎ (c ≡ new)) ⊎ IsSomeAnd (image backup) (λ c. (c ≡ old) ⊎ (c ≡ new))

-- The file has these bytes since its last sync, and no name change is pending: so the two syncs at the beginning leave it.
pub record IsSettled (name : Name) (bytes : List ℕ) (disk : Disk) : Type 0 where
  pub pending : disk.pending ≡ []
  pub synced : IsSynced name bytes disk

-- A file that was synced is settled.
pub record SettlesSynced (told : Bool) (before after : Scene) : Type 0 where
  pub settled : IsTrue told → (name : Name) (bytes : List ℕ) → IsSynced name bytes before.folder → IsSettled name bytes after.folder

-- The file of this name is settled with its bytes.
pub record SettlesBytes (told : Bool) (name : Name) (before after : Scene) : Type 0 where
  pub settled : IsTrue told → (bytes : List ℕ) → content_of before name ≡ Some bytes → IsSettled name bytes after.folder

-- A stop may leave the old bytes under the name, or no file: so the name does not hold other bytes in every image.
abbrev pub MayLackNew : Name → List ℕ → Disk → Type 0
MayLackNew name old disk = MayLeave disk name (Some old) ⊎ MayLeave disk name None

-- A stop may leave under the name something else than the old bytes.
abbrev pub MayLackOld : Name → List ℕ → Disk → Type 0
MayLackOld name old disk = (found : Option (List ℕ)) × MayLeave disk name found × (found ≡ Some old → ⊥)

-- In each state of the names that a stop may leave, the name or the backup name leads to this file, which has the old bytes since
-- its last sync; now the backup name leads there.
pub record IsGuarded (name backup : Name) (number : ℕ) (old : List ℕ) (disk : Disk) : Type 0 where
  pub now : names_of disk backup ≡ Some number
  pub held : IsHeld name backup number old disk

-- From a file that is settled, until it is empty and a copy of it stands under the backup name: other names are left alone, and at
-- each moment, in each image, the file or the backup has the old bytes. An older backup stays whole until the copy takes its name.
pub record StartsOver (name temporary backup : Name) (old : List ℕ) (before after : Scene) : Type 0 where
  pub spares : Runs (Spares (three_names name temporary backup)) before after
  pub kept : Runs (λ a b. IsKept name backup old b) before after
  pub in_place : Runs (LeadsTo name name) before after
  pub replaced : Runs (Takes backup old) before after
  pub anew : Runs (Renews temporary) before after

-- The file is empty, and the copy stands.
pub record IsStartedOver (name backup : Name) (old : List ℕ) (disk : Disk) : Type 0 where
  pub backed : IsSettled backup old disk
  pub empty : content_in disk name ≡ Some []
  pub may_leave : MayLeave disk name (Some old)

-- the same of a file that may be settled, where the folder is told
pub record StartsOverFrom (told : Bool) (name temporary backup : Name) (before after : Scene) : Type 0 where
  pub each : IsTrue told → (old : List ℕ) → IsSettled name old before.folder → StartsOver name temporary backup old before after

pub record StartedOverFrom (told : Bool) (name backup : Name) (before after : Scene) : Type 0 where
  pub each : IsTrue told → (old : List ℕ) → IsSettled name old before.folder → IsStartedOver name backup old after.folder

-- A file that was settled has its bytes in every image.
pub record StillHolds (told : Bool) (name : Name) (before after : Scene) : Type 0 where
  pub each : IsTrue told → (old : List ℕ) → IsSettled name old before.folder → HoldsBytes name old after.folder

-- The file has the mode that it had, and so has its copy under the backup name.
pub record CopiesMode (told : Bool) (name backup : Name) (before after : Scene) : Type 0 where
  pub file : IsTrue told → mode_in after.folder name ≡ mode_in before.folder name
  pub copy : IsTrue told → mode_in after.folder backup ≡ mode_in before.folder name

-- A settled copy of the file stands under the backup name.
pub record CopiesBytes (told : Bool) (name backup : Name) (before after : Scene) : Type 0 where
  pub settled : IsTrue told → (old : List ℕ) → content_of before name ≡ Some old → IsSettled backup old after.folder

-- At each moment a stop leaves under the backup name the bytes of the file, or what it left before.
pub record ReplacesByCopy (told : Bool) (name backup : Name) (before after : Scene) : Type 0 where
  pub takes : IsTrue told → (old : List ℕ) → content_of before name ≡ Some old → Runs (Takes backup old) before after

-- What a stop leaves under the backup name: the old bytes, or what it left before. Where the file was renamed and not copied, it may
-- leave no file there, once the file has its own name again.
abbrev pub Replaces : Bool → Name → Name → List ℕ → Disk → Disk → Type 0
Replaces true name backup old = Takes backup old
Replaces false name backup old = λ before after. (found : Option (List ℕ)) → MayLeave after backup found
    → ((found ≡ Some old) ⊎ MayLeave before backup found) ⊎ ((found ≡ None) × (names_of after name ≡ names_of before name))

-- From a file that is settled, a write with this backup, which stays, or after which the file was put back. Other names are left alone;
-- at each moment, in each image, the name or the backup has the old bytes.
pub record WritesOver (copying : Bool) (name temporary backup : Name) (old new : List ℕ) (before after : Scene) (result : Result ℕ WriteErr) : Type 0 where
  pub spares : Runs (Spares (backed_names copying name temporary backup)) before after
  pub kept : Runs (λ a b. IsKept name backup old b) before after
  pub places : Places copying true name backup before after result
  pub replaced : Runs (Replaces copying name backup old) before after
  pub written : IfOk result (λ size. (size ≡ length new) × HoldsBytes name new after.folder × HoldsBytes backup old after.folder)
  pub mode : OnOk result (mode_in after.folder name ≡ mode_in before.folder name)
  pub aside : copying ≡ true → ¬ IsFailed result → IsGone temporary after.folder
  pub anew : copying ≡ true → Runs (Renews temporary) before after
  pub not_written : OnErr result (MayLackNew name old after.folder)
  pub in_file : OldIn File result → HoldsBytes name old after.folder
  pub in_backup : OldIn Backup result → (copying ≡ true → old ≡ [] → ⊥) → MayLackOld name old after.folder
  pub somewhere : (OldIn Nowhere result → ⊥) × (IsErrOf result error.NoBackupName → ⊥)

-- From a file that was renamed to the backup name, until the name is made anew: other names are left alone, and at each moment,
-- in each image, the name or the backup name leads to the old file.
pub record WritesAnew (name backup : Name) (number : ℕ) (old new : List ℕ) (before after : Scene) (result : Result ℕ Stop) : Type 0 where
  pub spares : Runs (Spares (one_name name)) before after
  pub guarded : Runs (λ a b. IsGuarded name backup number old b) before after
  pub written : IfOk result (λ size. (size ≡ length new) × IsSettled name new after.folder)
  pub absent : OnErr result (MayLeave after.folder name None)

-- From such a file, at each moment: other names are left alone, and in each image the name or the backup name leads to the old file.
pub record MakesAnew (name backup : Name) (number : ℕ) (old : List ℕ) (before after : Scene) : Type 0 where
  pub spares : Runs (Spares (one_name name)) before after
  pub guarded : Runs (λ a b. IsGuarded name backup number old b) before after

-- the same of a file that may be guarded, where the folder is told
pub record MakesAnewFrom (told : Bool) (name backup : Name) (before after : Scene) : Type 0 where
  pub each : IsTrue told → (number : ℕ) (old : List ℕ) → (backup ≡ name → ⊥) → IsGuarded name backup number old before.folder
      → MakesAnew name backup number old before after
  pub modes : (backup ≡ name → ⊥) → Makes told (mode_in before.folder backup) before after

-- The file that was made anew has the mode of the backup.
pub record IsMadeLike (told : Bool) (name backup : Name) (before after : Scene) : Type 0 where
  pub takes : (backup ≡ name → ⊥) → TakesMode told backup name before after

-- A stop may leave no file under the name.
pub record MayBeAbsent (told : Bool) (name : Name) (after : Scene) : Type 0 where
  pub leaves : IsTrue told → MayLeave after.folder name None

-- The file of this name has this text in this format, in so many bytes, since its last sync.
pub record IsFilled (told : Bool) (name : Name) (format : Format) (has : List (List ℕ) → Type 0) (size : ℕ) (after : Scene) : Type 0 where
  pub each : IsTrue told → (text : List (List ℕ)) → has text → (size ≡ length (file_in format text)) × IsSynced name (file_in format text) after.folder

-- and no name change is pending
pub record IsFilledFirm (told : Bool) (name : Name) (format : Format) (has : List (List ℕ) → Type 0) (size : ℕ) (after : Scene) : Type 0 where
  pub each : IsTrue told → (text : List (List ℕ)) → has text → (size ≡ length (file_in format text)) × IsSettled name (file_in format text) after.folder

-- Up to the two syncs at the beginning, that of the file first, nothing changes, and a stop leaves at each moment only what it left at the
-- one before. From them on, at each moment, in each image, the file or its backup is whole, an older backup is whole until the backup
-- takes its name, and other names are left alone.
pub record BeginsWhole (copying keep : Bool) (name temporary backup : Name) (old new : List ℕ)
    (before after : Scene) (result : Result ℕ WriteErr) : Type 0 where
  pub begun : Scene
  pub looked : Steps Narrowed before begun
  pub moment : HasNewest begun
  pub order : HasSynced name begun
  pub settled : IsSettled name old begun.folder
  pub whole : Runs (λ a b. IsWhole name backup old new b) begun after
  pub replaced : Runs (Replaces copying name backup old) begun after
  pub places : Places copying keep name backup begun after result
  pub spares : Runs (Spares (backed_names copying name temporary backup)) begun after
  -- the file into which the copy is made
  pub anew : copying ≡ true → Runs (Renews temporary) begun after

-- A write over a file that is there, with this backup, which is kept or removed. One that does not come to the two syncs at the beginning
-- is refused, and leaves each moment no worse than the one before.
pub record WritesBacked (copying keep : Bool) (name temporary backup : Name) (old new : List ℕ)
    (before after : Scene) (result : Result ℕ WriteErr) : Type 0 where
  pub moments : BeginsWhole copying keep name temporary backup old new before after result ⊎ (Steps Narrowed before after × IsErr result)
  pub others : SparesOthers (backed_names copying name temporary backup) before after
  pub written : IfOk result (λ size. (size ≡ length new) × HoldsBytes name new after.folder)
  pub mode : OnOk result (mode_in after.folder name ≡ mode_in before.folder name)
  pub kept : keep ≡ true → OnOk result (HoldsBytes backup old after.folder)
  pub gone : keep ≡ false → OnOk result ((HasRisen before.folder_faults after.folder_faults → ⊥) → IsGone backup after.folder)
  -- the name under which the copy was made
  pub aside : copying ≡ true → OnOk result (IsGone temporary after.folder)
  pub clears : copying ≡ true → ¬ IsFailed result → StaysGone temporary before.folder after.folder
  pub not_written : OnErr result (MayLackNew name old after.folder)
  -- the file as it is read after an error
  pub returned : OnErr result ((content_of after name ≡ Some old) ⊎ OldIn Backup result)
  -- where the old bytes are said to stand
  pub in_file : OldIn File result → Steps Narrowed before after ⊎ HoldsBytes name old after.folder
  pub in_backup : OldIn Backup result → IsKept name backup old after.folder × ((copying ≡ true → old ≡ [] → ⊥) → MayLackOld name old after.folder)
  pub somewhere : (OldIn Nowhere result → ⊥) × (IsErrOf result error.NoBackupName → ⊥)

-- such a write with these options
abbrev pub WritesWith : WriteOptions → Name → Name → List ℕ → List ℕ → Scene → Scene → Result ℕ WriteErr → Type 0
WritesWith options name backup old new before after result = WritesBacked (copies options.copy) options.backup name
    (temporary backup) backup old new before after result

-- Up to the two syncs at the beginning, that of the file first, nothing changes, and a stop leaves at each moment only what it left at the
-- one before. After them only the file changes, which stays where it is.
pub record BeginsPlain (name : Name) (old : List ℕ) (before after : Scene) : Type 0 where
  pub begun : Scene
  pub looked : Steps Narrowed before begun
  pub order : HasSynced name begun
  pub settled : IsSettled name old begun.folder
  pub in_place : Runs (LeadsTo name name) begun after
  pub spares : Runs (Spares (one_name name)) begun after

-- A write over a file that is there, without a backup: one that does not come to the two syncs is refused, and leaves each moment no worse
-- than the one before.
pub record WritesPlain (name : Name) (old new : List ℕ) (before after : Scene) (result : Result ℕ Stop) : Type 0 where
  pub moments : BeginsPlain name old before after ⊎ (Steps Narrowed before after × IsErr result)
  pub others : SparesOthers (one_name name) before after
  pub written : IfOk result (λ size. (size ≡ length new) × HoldsBytes name new after.folder)
  pub mode : OnOk result (mode_in after.folder name ≡ mode_in before.folder name)
  pub not_written : OnErr result (MayLackNew name old after.folder)

-- A write of a file that was not there: at each moment a stop leaves the new bytes under the name, or what it left before.
pub record WritesFresh (on : Name → Type 0) (name : Name) (new : List ℕ) (before after : Scene) (result : Result ℕ Stop) : Type 0 where
  pub takes : Runs (Takes name new) before after
  pub spares : Runs (Spares on) before after
  pub written : IfOk result (λ size. (size ≡ length new) × HoldsBytes name new after.folder)
  pub not_written : OnErr result (MayLeave after.folder name None)
  -- the other names on which it worked
  pub anew : Runs (RenewsBut on name) before after
  pub aside : OnOk result ((other : Name) → on other → (other ≡ name → ⊥) → IsGone other after.folder)
  pub clears : IsErrOf result stop.NoMemory → (other : Name) → on other → (other ≡ name → ⊥) → StaysGone other before.folder after.folder

-- It was not found out whether there is a file, and nothing has changed.
pub record IsUnseen (before after : Scene) (result : Result ℕ WriteErr) : Type 0 where
  pub looks : Looks before after
  pub last : FailsLast before after
  pub failed : result ≡ Err (error.Failed Nowhere)

-- The first call since then looked whether there is a file of this name.
pub record BeginsByLook (name : Name) (before after : Scene) : Type 0 where
  pub look : Snapshot
  pub later : List Snapshot
  pub is : after.trace ≡ later ++ look ∷ before.trace
  pub looked : (look.kind ≡ Looked) × (look.names ≡ name ∷ [])

-- Every backup name is taken, and nothing has changed. A call or memory may have been missing before that was found out.
pub record FindsNoName (before after : Scene) (result : Result ℕ WriteErr) : Type 0 where
  pub looks : Looks before after
  pub last : FailsLast before after
  pub none : ¬ IsFailed result → Quiet before after
  pub refused : (result ≡ Err error.NoBackupName) ⊎ OldIn File result

-- The answer of such a write without a backup: after an error the old bytes stand nowhere.
pub record WritesInPlace (name : Name) (old new : List ℕ) (before after : Scene) (result : Result ℕ WriteErr) : Type 0 where
  pub answer : Result ℕ Stop
  pub is : result ≡ nowhere answer
  pub plain : WritesPlain name old new before after answer

pub record WritesNew (temporary name : Name) (new : List ℕ) (before after : Scene) (result : Result ℕ WriteErr) : Type 0 where
  pub answer : Result ℕ Stop
  pub is : result ≡ nowhere answer
  pub fresh : WritesFresh (two_names temporary name) name new before after answer
