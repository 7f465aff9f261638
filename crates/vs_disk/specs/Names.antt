-- What is said of the names of a set, while others change the rest of the folder.
use Rattle.std.specs.Prelude.{◌≡◌, ◌≢◌, ℕ, Bool, true, false, ◌||◌, if◌then◌else◌, filter, List, [], ◌∷◌, Some, None}
use Rattle.std.specs.declared.option.Option.{Option}
use Rattle.vs_host.specs.Disk.{Disk, Name, Change, Creates, Renames, Removes, names_of, names_at, IsImageOf}

-- what a stop may leave under the names of a set
abbrev pub IsImageAt : (Name → Bool) → Disk → (Name → Option (List ℕ)) → Type 0
IsImageAt inside disk image = (lost : ℕ) × ((name : Name) → inside name ≡ true → IsImageOf disk (names_at disk lost name) (image name))

-- No name outside leads to a file to which a name inside leads, or led in a state that a stop may leave.
pub record IsApart (inside : Name → Bool) (disk : Disk) : Type 0 where
  pub alone : (lost : ℕ) (name other : Name) (number : ℕ) → inside name ≡ true → inside other ≡ false
      → names_at disk lost name ≡ Some number → names_of disk other ≢ Some number

-- The set has all names outside of `inside`, or none of them.
abbrev pub Undivided : (Name → Bool) → (Name → Bool) → Type 0
Undivided inside part = (a b : Name) → inside a ≡ false → inside b ≡ false → part a ≡ part b

-- The names of this set are read as before, and a stop leaves under them together only what it left before, with the same modes. No file was handed to a
-- name on another side of a set that does not divide the names outside.
pub record SameAt (inside : Name → Bool) (old new : Disk) : Type 0 where
  pub now : (name : Name) → inside name ≡ true → names_of new name ≡ names_of old name
  pub back : (lost : ℕ) → (l : ℕ) × ((name : Name) → inside name ≡ true → names_at new lost name ≡ names_at old l name)
  pub files : (lost : ℕ) (name : Name) (number : ℕ) → inside name ≡ true → names_at new lost name ≡ Some number → new.files number ≡ old.files number
  pub modes : (lost : ℕ) (name : Name) (number : ℕ) → inside name ≡ true → names_at new lost name ≡ Some number → new.modes number ≡ old.modes number
  pub hands : (part : Name → Bool) → Undivided inside part → IsApart part old → IsApart part new

-- the name change concerns a name of the set
abbrev pub concerns : (Name → Bool) → Change → Bool
concerns inside (Creates name number) = inside name
concerns inside (Renames from to) = inside from || inside to
concerns inside (Removes name) = inside name

-- the restriction of the folder: the names of the set alone, and the name changes that concern them
abbrev pub part_of : (Name → Bool) → Disk → Disk
part_of inside disk = record {
  files = disk.files;
  modes = disk.modes;
  made = disk.made;
  synced = λ name. if inside name then disk.synced name else None;
  pending = filter (concerns inside) disk.pending;
}

-- a rename from inside to outside, or the other way, links them
abbrev pub IsLinked : (Name → Bool) → Change → Type 0
IsLinked inside (Creates name number) = ⊥
IsLinked inside (Renames from to) = inside from ≢ inside to
IsLinked inside (Removes name) = ⊥

abbrev pub NoneLinked : (Name → Bool) → List Change → Type 0
NoneLinked inside [] = Unit {0}
NoneLinked inside (change ∷ changes) = (IsLinked inside change → ⊥) × NoneLinked inside changes
