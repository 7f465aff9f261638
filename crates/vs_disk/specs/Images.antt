-- What is said of every image of a file, and of what a name holds in every image.
use Rattle.std.specs.Prelude.{◌≡◌, ◌⊎◌, ℕ, ◌+◌, ◌≤◌, max, List, length, take, drop, Some}
use Rattle.std.specs.declared.option.Option.{Option}
use Rattle.vs_host.specs.File.{File, IsFileImage, Leaves, Syncs, synced_file}
use Rattle.vs_host.specs.Disk.{Disk, Name, names_of, names_at, IsImageOf}

-- what holds of each image before holds of each image after
abbrev pub Keeps : (List ℕ → Type 0) → File → File → Type 0
Keeps P old new = Leaves old P → Leaves new P

-- an image from before is one after
abbrev pub KeepsImages : File → File → Type 0
KeepsImages old new = (c : List ℕ) → IsFileImage old c → IsFileImage new c

-- A file is read as before, and a stop leaves of it only what it left before.
pub record Narrows (old new : File) : Type 0 where
  pub bytes : new.bytes ≡ old.bytes
  pub images : (c : List ℕ) → IsFileImage new c → IsFileImage old c

-- either answer of a sync
abbrev pub MaySync : File → File → Type 0
MaySync old new = (new ≡ old) ⊎ Syncs old new

-- whatever a call makes of a file
abbrev pub Changes : File → File → Type 0
Changes old new = Unit {0}

-- After a write of n bytes that a stop cuts short: any bytes in the range and past the old end, the same elsewhere.
pub record Torn (at n : ℕ) (old new : List ℕ) : Type 0 where
  pub before : take at new ≡ take at old
  pub after : drop (at + n) new ≡ drop (at + n) old
  pub no_shorter : length old ≤ length new
  pub no_longer : length new ≤ max (length old) (at + n)

-- the file of this name has P
pub record FileHas (disk : Disk) (name : Name) (P : File → Type 0) : Type 0 where
  pub number : ℕ
  pub leads : names_of disk name ≡ Some number
  pub has : P (disk.files number)

-- In each state of the names that a stop may leave, the name leads to this file, which has P.
pub record FileAlways (disk : Disk) (name : Name) (number : ℕ) (P : File → Type 0) : Type 0 where
  pub leads : (lost : ℕ) → names_at disk lost name ≡ Some number
  pub has : P (disk.files number)

-- In this state of the names the name leads to a file each image of which has P.
pub record HoldsAt (lost : ℕ) (name : Name) (P : List ℕ → Type 0) (disk : Disk) : Type 0 where
  pub number : ℕ
  pub leads : names_at disk lost name ≡ Some number
  pub leaves : Leaves (disk.files number) P

-- each image of the folder has a file of this name, and it has P
abbrev pub Holds : Name → (List ℕ → Type 0) → Disk → Type 0
Holds name P disk = (lost : ℕ) → HoldsAt lost name P disk

-- each image of the folder has these bytes under the name
abbrev pub HoldsBytes : Name → List ℕ → Disk → Type 0
HoldsBytes name bytes disk = Holds name (λ c. c ≡ bytes) disk

-- the file of this name has these bytes since its last sync
abbrev pub IsSynced : Name → List ℕ → Disk → Type 0
IsSynced name bytes disk = FileHas disk name (λ file. file ≡ synced_file bytes)

-- a stop may leave this under the name
abbrev pub MayLeave : Disk → Name → Option (List ℕ) → Type 0
MayLeave disk name found = (lost : ℕ) × IsImageOf disk (names_at disk lost name) found

-- A stop leaves under the name these bytes, or what it left before.
abbrev pub Takes : Name → List ℕ → Disk → Disk → Type 0
Takes name bytes old new = (found : Option (List ℕ)) → MayLeave new name found → (found ≡ Some bytes) ⊎ MayLeave old name found

-- a stop after the newest name change leaves this
abbrev pub IsImageNow : Disk → (Name → Option (List ℕ)) → Type 0
IsImageNow disk image = (name : Name) → IsImageOf disk (names_of disk name) (image name)
