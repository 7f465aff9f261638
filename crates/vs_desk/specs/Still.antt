-- Names that no pending change of a name concerns, and what calls on some names leave of each other name alone.
use Rattle.std.specs.Prelude.{◌≡◌, ℕ, Bool, true, List, Option}
use Rattle.vs_host.specs.Disk.{Disk, Name, names_of, names_at}
use Rattle.vs_disk.specs.Images.{MayLeave}

-- In each state of the names that a stop may leave, each name of this set leads where it leads now.
abbrev pub IsStill : (Name → Bool) → Disk → Type 0
IsStill inside disk = (lost : ℕ) (name : Name) → inside name ≡ true → names_at disk lost name ≡ names_of disk name

-- A stop leaves under each name that is not of this set only what it might leave there before.
abbrev pub KeepsLeft : (Name → Type 0) → Disk → Disk → Type 0
KeepsLeft on old new = (name : Name) → (on name → ⊥) → (left : Option (List ℕ)) → MayLeave new name left → MayLeave old name left
