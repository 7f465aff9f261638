-- A write of the edited file: what it leaves of other names, what a stop leaves of the file and its backup while it is under way,
-- and what it leaves in the end.
use Rattle.std.specs.Prelude.{◌≡◌, ◌⊎◌, ◌≤◌, ℕ, Bool, true, false, not, ◌||◌, List, Option, Some, None, IsSome}
use Rattle.std.specs.Str.{bytes_eq}
use Rattle.vs_faults.specs.Faults.{HasRisen}
use Rattle.vs_host.specs.Disk.{Disk, Name, names_of, names_at, content_in}
use Rattle.vs_host.specs.Trace.{Snapshot}
use Rattle.vs_host.specs.World.{Scene}
use Rattle.vs_host.specs.declared.names.Names.{Names}
use Rattle.vs_text.specs.Documents.{file_in}
use Rattle.vs_disk.specs.Images.{HoldsBytes, MayLeave, Takes}
use Rattle.vs_disk.specs.Names.{IsImageAt}
use Rattle.vs_pair.specs.Pair.{Image, is_foreign}
use Rattle.vs_backup.specs.declared.options.WriteOptions.{WriteOptions}
use Rattle.vs_backup.specs.Backups.{WorksOn, backup_of, copies}
use Rattle.vs_backup.specs.Works.{IsOutside}
use Rattle.vs_backup.specs.Writing.{IsWhole, MayLackNew, Replaces}
use Rattle.vs_safety.specs.Texts.{Text}

-- A write of the edited file: its options, the text, and the folder when the command began.
pub record Write : Type 0 where
  pub options : WriteOptions
  pub text : Text
  pub found : Disk

-- the backup that the write makes, where the file was there
abbrev pub backup_for : Names → Write → Option Name
backup_for names write = backup_of write.options names.file write.found

-- the bytes of the file when the command began
abbrev pub old_bytes : Names → Write → Option (List ℕ)
old_bytes names write = content_in write.found names.file

-- the bytes that the file gets: the text in the format of the options
abbrev pub new_bytes : Write → List ℕ
new_bytes write = file_in write.options.format write.text

-- ---- other names

-- each name of the second set is in the first
abbrev pub AreIn : (Name → Bool) → (Name → Bool) → Type 0
AreIn others inside = (name : Name) → inside name ≡ true → others name ≡ true

-- the names that are not in a set
abbrev pub outside : (Name → Bool) → Name → Bool
outside family name = not (family name)

-- no name of the set is one of the pair
abbrev pub AreForeign : Names → (Name → Bool) → Type 0
AreForeign names = AreIn (is_foreign names)

-- the write works on no name of the set
abbrev pub Avoids : Names → Write → (Name → Bool) → Type 0
Avoids names write inside = IsOutside (WorksOn write.options names.file write.found) inside

-- ---- the file and its backup

-- whether this is one of two names
abbrev pub is_either : Name → Name → Name → Bool
is_either one other name = bytes_eq one name || bytes_eq other name

-- what a stop may leave under these two names together, it might leave before
abbrev pub LeavesOld : Name → Name → Disk → Disk → Type 0
LeavesOld one other old new = (image : Image) → IsImageAt (is_either one other) new image → IsImageAt (is_either one other) old image

-- The same is read under these two names as before, and a stop leaves under both only what it might leave before.
pub record IsUntouched (one other : Name) (old new : Disk) : Type 0 where
  pub read : (name : Name) → is_either one other name ≡ true → content_in new name ≡ content_in old name
  pub left : LeavesOld one other old new

-- A moment of a write. Over a file that was there, with a backup: both are untouched, or in each image one of them has the old or the
-- new bytes whole; a stop leaves under the backup name the old bytes, or what it might leave before, or no file where the file was renamed
-- to it and has its own name again; and where the file is copied to its backup, its name leads where it led. Of a file that was not there,
-- a stop leaves the new bytes, or what it might leave before.
pub record IsWholeIn (names : Names) (write : Write) (folder : Disk) : Type 0 where
  pub backed : (old : List ℕ) (backup : Name) → old_bytes names write ≡ Some old → backup_for names write ≡ Some backup
      → IsUntouched names.file backup write.found folder ⊎ IsWhole names.file backup old (new_bytes write) folder
  pub replaced : (old : List ℕ) (backup : Name) → old_bytes names write ≡ Some old → backup_for names write ≡ Some backup
      → Replaces (copies write.options.copy) names.file backup old write.found folder
  pub in_place : (old : List ℕ) (backup : Name) → old_bytes names write ≡ Some old → backup_for names write ≡ Some backup → copies write.options.copy ≡ true
      → names_of folder names.file ≡ names_of write.found names.file
  pub fresh : old_bytes names write ≡ None → Takes names.file (new_bytes write) write.found folder

-- the folder, and how many calls on it failed so far
pub record State : Type 0 where
  pub folder : Disk
  pub faults : ℕ

-- the folder at a moment, with its count of failed calls
abbrev pub state_in : Snapshot → State
state_in snapshot = record { folder = snapshot.folder; faults = snapshot.folder_faults }

-- the folder now, with its count of failed calls
abbrev pub state_now : Scene → State
state_now scene = record { folder = scene.folder; faults = scene.folder_faults }

-- Where a failure was answered, a call failed; and after that, one that was to put a file back.
pub record FailsToReturn (failed : Bool) (before now : ℕ) : Type 0 where
  pub between : ℕ
  pub later : before ≤ between
  pub first : failed ≡ true → HasRisen before between
  pub second : HasRisen between now

-- What a write leaves. Where it was carried out the file has the new bytes in each image, and a backup that is kept has the old ones;
-- one that is not kept is in no image, unless a call failed. Where it was not, a stop may leave something else than the new bytes, and a
-- file that has a backup is read with its old bytes, unless it could not be put back.
pub record HasWritten (names : Names) (write : Write) (done failed : Bool) (old new : State) : Type 0 where
  pub found : write.found ≡ old.folder
  pub written : done ≡ true → HoldsBytes names.file (new_bytes write) new.folder
  pub kept : (bytes : List ℕ) (backup : Name) → done ≡ true → write.options.backup ≡ true → old_bytes names write ≡ Some bytes →
      backup_for names write ≡ Some backup
      → HoldsBytes backup bytes new.folder
  pub gone : (backup : Name) → done ≡ true → write.options.backup ≡ false → IsSome (old_bytes names write) → backup_for names write ≡ Some backup
      → (HasRisen old.faults new.faults → ⊥) → (lost : ℕ) → names_at new.folder lost backup ≡ None
  pub not_written : (bytes : List ℕ) → done ≡ false → old_bytes names write ≡ Some bytes → MayLackNew names.file bytes new.folder
  pub returned : (bytes : List ℕ) (backup : Name) → done ≡ false → old_bytes names write ≡ Some bytes → backup_for names write ≡ Some backup
      → (content_in new.folder names.file ≡ Some bytes) ⊎ FailsToReturn failed old.faults new.faults
  pub absent : done ≡ false → old_bytes names write ≡ None → MayLeave new.folder names.file None
