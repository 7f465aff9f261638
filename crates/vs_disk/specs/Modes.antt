-- Which modes the files have that calls make, for a set of allowed modes: that of a file's owner alone, and that of the file.
use Rattle.std.specs.Prelude.{◌≡◌, ◌⊎◌, ℕ, Bool, IsTrue, Some}
use Rattle.vs_host.specs.Disk.{Disk, Mode, Name, names_at, names_of, owner_mode}
use Rattle.vs_host.specs.World.{Tells, Scene}
use Rattle.vs_disk.specs.Runs.{Runs}

-- the mode is one of the set
abbrev pub IsOf : (Mode → Bool) → Mode → Type 0
IsOf allowed mode = IsTrue (allowed mode)

-- each file that a stop may leave under the name has an allowed mode
abbrev pub HasModes : (Mode → Bool) → Name → Disk → Type 0
HasModes allowed name disk = (lost number : ℕ) → names_at disk lost name ≡ Some number → IsOf allowed (disk.modes number)

-- the file that is there under the name has an allowed mode
abbrev pub HasMode : (Mode → Bool) → Name → Disk → Type 0
HasMode allowed name disk = (number : ℕ) → names_of disk name ≡ Some number → IsOf allowed (disk.modes number)

-- A stop may leave under the name this file with this mode.
pub record MayStand (disk : Disk) (name : Name) (number : ℕ) (mode : Mode) : Type 0 where
  pub lost : ℕ
  pub leads : names_at disk lost name ≡ Some number
  pub has : disk.modes number ≡ mode

-- Each file that a stop may leave has an allowed mode, or stood under its name before with the mode that it has.
pub record KeepsModes (allowed : Mode → Bool) (old new : Disk) : Type 0 where
  pub each : (lost number : ℕ) (name : Name) → names_at new lost name ≡ Some number
      → IsOf allowed (new.modes number) ⊎ MayStand old name number (new.modes number)

-- Where the folder is told, a stop at any moment of the call leaves files that stood so before, and files that are for their owner alone.
abbrev pub MakesPrivate : Tells → Scene → Scene → Type 0
MakesPrivate tells old new = IsTrue tells.folder → (allowed : Mode → Bool) → IsOf allowed owner_mode → Runs (KeepsModes allowed) old new

-- The same, and files with a mode that the file of the name has before.
abbrev pub MakesLike : Tells → Name → Scene → Scene → Type 0
MakesLike tells name old new = IsTrue tells.folder → (allowed : Mode → Bool) → IsOf allowed owner_mode → HasModes allowed name old.folder
    → Runs (KeepsModes allowed) old new
