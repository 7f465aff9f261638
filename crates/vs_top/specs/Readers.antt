-- Who may read the files that a run makes: which modes they have, at each moment of it and in each image.
use Rattle.std.specs.Prelude.{◌≡◌, ◌⊎◌, ℕ, Bool, true, Some, IsSome, [], ◌∷◌, ⊤}
use Rattle.vs_host.specs.Disk.{Disk, Mode, Name, mode_in, names_at, owner_mode}
use Rattle.vs_host.specs.Trace.{GoesOn}
use Rattle.vs_host.specs.World.{Scene}
use Rattle.vs_disk.specs.Modes.{HasModes, IsOf, KeepsModes, MayStand}
use Rattle.vs_session.specs.Session.{writes_files}
use Rattle.vs_top.specs.History.{Past}

-- No file is made but with an allowed mode: at each moment from the start on, and now, each file that a stop may leave has one, or stood
-- under its name at the start with the mode that it has.
abbrev pub MakesOnly : (Mode → Bool) → Scene → Scene → Type 0
MakesOnly allowed start now = GoesOn (λ m. KeepsModes allowed start.folder m.folder) start.trace now.trace × KeepsModes allowed start.folder now.folder

-- each file that is made is for its owner alone
abbrev pub MakesOwn : Scene → Scene → Type 0
MakesOwn start now = (allowed : Mode → Bool) → IsOf allowed owner_mode → MakesOnly allowed start now

-- P holds of each folder that one of these commands found which writes files beside the swap files
abbrev pub EachWrites : (Disk → Type 0) → Past → Type 0
EachWrites P [] = ⊤
EachWrites P (last ∷ past) = (writes_files last.instruction.parsed ≡ true → P last.ended.found) × EachWrites P past

-- Each file that is made is for its owner alone, or has a mode that the file may have at the start, where one of these commands writes
-- files. Each that does found the file there.
abbrev pub MakesReadable : Name → Past → Scene → Scene → Type 0
MakesReadable name past start now =
    (allowed : Mode → Bool) → IsOf allowed owner_mode
    → EachWrites (λ found. IsSome (mode_in found name) × HasModes allowed name start.folder) past → MakesOnly allowed start now

-- Each file that a stop may leave has this mode or is for its owner alone, or stood under its name before with the mode that it has.
pub record IsMadeLike (mode : Mode) (old new : Disk) : Type 0 where
  pub each : (lost number : ℕ) (name : Name) → names_at new lost name ≡ Some number
      → (new.modes number ≡ mode) ⊎ (new.modes number ≡ owner_mode) ⊎ MayStand old name number (new.modes number)
