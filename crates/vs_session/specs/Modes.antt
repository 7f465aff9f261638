-- Which modes the files have that a command makes: that of the owner alone, and those of the edited file.
use Rattle.std.specs.Prelude.{◌≡◌, Bool, true, IsSome}
use Rattle.vs_host.specs.Disk.{Disk, Mode, Name, mode_in, owner_mode}
use Rattle.vs_host.specs.Trace.{GoesOn}
use Rattle.vs_host.specs.World.{Scene}
use Rattle.vs_disk.specs.Modes.{HasModes, IsOf, KeepsModes}
use Rattle.vs_disk.specs.Runs.{Runs}
use Rattle.vs_excmd.specs.Request.{Instruction}
use Rattle.vs_session.specs.Session.{SessionState, Ended, has_written, writes_files}

-- At each moment each file that a stop may leave stood so before, or is for its owner alone.
abbrev pub OnlyPrivate : Scene → Scene → Type 0
OnlyPrivate old new = (allowed : Mode → Bool) → IsOf allowed owner_mode → Runs (KeepsModes allowed) old new

-- The same, or it has a mode that the file of the name had.
abbrev pub OnlyLike : Name → Scene → Scene → Type 0
OnlyLike name old new = (allowed : Mode → Bool) → IsOf allowed owner_mode → HasModes allowed name old.folder → Runs (KeepsModes allowed) old new

-- At each moment of a command each file that a stop may leave has an allowed mode, or stood under its name before with the mode that it has,
-- where the mode of the owner alone is allowed, and for a command that writes files the file is there, with allowed modes.
pub record KeepsReaders (name : Name) (instruction : Instruction) (old new : Scene) : Type 0 where
  pub each : (allowed : Mode → Bool) → IsOf allowed owner_mode
      → (writes_files instruction.parsed ≡ true → IsSome (mode_in old.folder name) × HasModes allowed name old.folder)
      → GoesOn (λ m. KeepsModes allowed old.folder m.folder) old.trace new.trace × KeepsModes allowed old.folder new.folder

-- A file that is there has the mode that it had.
abbrev pub SameMode : Name → Disk → Disk → Type 0
SameMode name old new = IsSome (mode_in old name) → mode_in new name ≡ mode_in old name

-- So it is of a file that was rewritten.
abbrev pub KeepsMode : Name → SessionState → Instruction → Ended → Scene → Scene → Type 0
KeepsMode name state instruction ended old new = has_written state instruction ended ≡ true → SameMode name old.folder new.folder
