-- A folder on a disk: files and their modes by number, the names as last synced, and the name changes since.
use Rattle.std.specs.Prelude.{◌≡◌, ◌≢◌, ◌⊎◌, ℕ, nat_eq, List, [], ◌∷◌, drop, Some, None, option_map, if◌then◌else◌}
use Rattle.std.specs.declared.option.Option.{Option}
use Rattle.std.specs.Str.{bytes_eq}
use Rattle.vs_host.specs.File.{File, IsFileImage, synced_file}

abbrev pub Name : Type 0
Name = List ℕ

-- the number of the file under each name
abbrev pub Directory : Type 0
Directory = Name → Option ℕ

pub data Change : Type 0 where
  Creates : Name → ℕ → Change
  Renames : Name → Name → Change
  Removes : Name → Change

-- A rename onto a name that is there takes that name from its file.
abbrev pub changed_names : Change → Directory → Directory
changed_names (Creates name number) names = λ other. if bytes_eq name other then Some number else names other
changed_names (Renames from to) names = λ other. if bytes_eq to other then names from else (if bytes_eq from other then None else names other)
changed_names (Removes name) names = λ other. if bytes_eq name other then None else names other

-- the names after these changes, the newest of them first
abbrev pub after_changes : List Change → Directory → Directory
after_changes [] names = names
after_changes (change ∷ changes) names = changed_names change (after_changes changes names)

-- the mode bits of a file: who may read it, and who may write it
abbrev pub Mode : Type 0
Mode = ℕ

-- the mode of a file that only its owner may read and write: 600 in octal
abbrev pub owner_mode : Mode
owner_mode = 384

-- `pending` has the name changes since the names were last synced, the newest first. `made` is the host's own: the number that
-- it gives to the next file.
pub record Disk : Type 0 where
  pub files : ℕ → File
  pub modes : ℕ → Mode
  pub made : ℕ
  pub synced : Directory
  pub pending : List Change

-- the names as they are now
abbrev pub names_of : Disk → Directory
names_of disk = after_changes disk.pending disk.synced

-- the names that a stop may leave: the synced ones after all changes but the newest `lost`
abbrev pub names_at : Disk → ℕ → Directory
names_at disk lost = after_changes (drop lost disk.pending) disk.synced

-- what is read under a name that leads to this file, or to none
abbrev pub read_under : Disk → Option ℕ → Option (List ℕ)
read_under disk None = None
read_under disk (Some number) = Some (disk.files number).bytes

-- the bytes under a name
abbrev pub content_in : Disk → Name → Option (List ℕ)
content_in disk name = read_under disk (names_of disk name)

-- the mode of the file under a name
abbrev pub mode_in : Disk → Name → Option Mode
mode_in disk name = option_map disk.modes (names_of disk name)

-- the modes after the file of the second number took the mode of that of the first
abbrev pub modes_like : Option ℕ → Option ℕ → (ℕ → Mode) → ℕ → Mode
modes_like (Some model) (Some number) modes = λ other. if nat_eq other number then modes model else modes other
modes_like model number modes = modes

-- the folder after a file took the mode of another one
abbrev pub like : Name → Name → Disk → Disk
like model name disk = record disk { modes = modes_like (names_of disk model) (names_of disk name) disk.modes }

-- the folder is as it was, but that the file may have taken the mode of the model
abbrev pub MayBeLike : Name → Name → Disk → Disk → Type 0
MayBeLike model name old new = (new ≡ old) ⊎ (new ≡ like model name old)

-- what a stop may leave under a name that leads to this file, or to none
abbrev pub IsImageOf : Disk → Option ℕ → Option (List ℕ) → Type 0
IsImageOf disk None found = found ≡ None
IsImageOf disk (Some number) found = (c : List ℕ) × (found ≡ Some c) × IsFileImage (disk.files number) c

-- An image, which is what a stop may leave: the bytes under each name.
abbrev pub IsImage : Disk → (Name → Option (List ℕ)) → Type 0
IsImage disk image = (lost : ℕ) × ((name : Name) → IsImageOf disk (names_at disk lost name) (image name))

-- A call on the file of this name makes `step` of it, and leaves names and the other files.
pub record ChangesFile (name : Name) (step : File → File → Type 0) (old new : Disk) : Type 0 where
  pub synced : new.synced ≡ old.synced
  pub pending : new.pending ≡ old.pending
  pub modes : new.modes ≡ old.modes
  pub others : (number : ℕ) → names_of old name ≢ Some number → new.files number ≡ old.files number
  pub this : (number : ℕ) → names_of old name ≡ Some number → step (old.files number) (new.files number)

-- A call adds a name change, and leaves all files.
pub record ChangesNames (change : Change) (old new : Disk) : Type 0 where
  pub synced : new.synced ≡ old.synced
  pub pending : new.pending ≡ change ∷ old.pending
  pub files : new.files ≡ old.files
  pub modes : new.modes ≡ old.modes

-- A call makes an empty file of this name, under a number to which no name led.
pub record CreatesFile (name : Name) (old new : Disk) : Type 0 where
  pub number : ℕ
  pub fresh : (lost : ℕ) (other : Name) → names_at old lost other ≢ Some number
  pub synced : new.synced ≡ old.synced
  pub pending : new.pending ≡ Creates name number ∷ old.pending
  pub empty : new.files number ≡ synced_file []
  pub others : (other : ℕ) → other ≢ number → new.files other ≡ old.files other
  pub modes : (other : ℕ) → other ≢ number → new.modes other ≡ old.modes other

-- A call makes all name changes lasting, and leaves all files.
pub record SyncsNames (old new : Disk) : Type 0 where
  pub synced : new.synced ≡ names_of old
  pub pending : new.pending ≡ []
  pub files : new.files ≡ old.files
  pub modes : new.modes ≡ old.modes

-- In no state of the names that a stop may leave do two names lead to one file.
pub record IsFolder (disk : Disk) : Type 0 where
  pub apart : (lost : ℕ) (one other : Name) (number : ℕ) → names_at disk lost one ≡ Some number → names_at disk lost other ≡ Some number → one ≡ other
