-- The names under which files are made that are renamed then: what a command leaves under them.
use Rattle.std.specs.Prelude.{◌≡◌, ◌⊎◌, true}
use Rattle.vs_host.specs.Disk.{Disk, Name}
use Rattle.vs_host.specs.Names.{temporary}
use Rattle.vs_host.specs.Trace.{GoesOn}
use Rattle.vs_host.specs.World.{Scene}
use Rattle.vs_host.specs.declared.names.Names.{Names}
use Rattle.vs_pair.specs.Steps.{BothMoved}
use Rattle.vs_backup.specs.Backups.{WorksOn}
use Rattle.vs_backup.specs.Works.{IsGone}
use Rattle.vs_excmd.specs.Request.{Instruction}
use Rattle.vs_machine.specs.declared.command.Outcome.{Outcome}
use Rattle.vs_machine.specs.declared.command.Outcome.TheVariants as outcome
use Rattle.vs_session.specs.Session.{SessionState, Ended, is_write, is_wundo}

-- Under such a name no image has a file, where none had before.
abbrev pub LeavesNoneMade : Disk → Disk → Type 0
LeavesNoneMade old new = (name : Name) → IsGone (temporary name) old → IsGone (temporary name) new

-- So it is of each such name but these.
abbrev pub LeavesNoneBut : (Name → Type 0) → Disk → Disk → Type 0
LeavesNoneBut left old new = (name : Name) → (left (temporary name) → ⊥) → IsGone (temporary name) old → IsGone (temporary name) new

-- At each moment no image has a file under a name under which a swap file is made, where none had before.
abbrev pub StaysMoved : Names → Scene → Scene → Type 0
StaysMoved names old new = BothMoved names old.folder → GoesOn (λ m. BothMoved names m.folder) old.trace new.trace × BothMoved names new.folder

-- the names on which a `w` works over this folder
abbrev pub WritesUnder : Names → SessionState → Instruction → Disk → Name → Type 0
WritesUnder names state instruction found name = (is_write instruction.parsed ≡ true) × WorksOn state.options.write names.file found name

-- The names under which a command that ended so may leave a file that it made: none where it was done, or there was no memory; that of the
-- undo file where this alone was not stored; and where a call failed, those on which a `w` works, and in `wundo` that of the undo file.
abbrev pub IsLeftBy : Outcome → Names → SessionState → Instruction → Disk → Name → Type 0
IsLeftBy outcome.Done names state instruction found name = ⊥
IsLeftBy outcome.NoMemory names state instruction found name = ⊥
IsLeftBy outcome.Fault names state instruction found name =
    WritesUnder names state instruction found name ⊎ ((is_wundo instruction.parsed ≡ true) × (name ≡ names.undo_new))
IsLeftBy outcome.NoUndo names state instruction found name = name ≡ names.undo_new

-- What a command leaves under these names: a file only where it ended so that it may, and at no moment one under those for the swap files.
pub record ClearsMade (names : Names) (state : SessionState) (instruction : Instruction) (ended : Ended) (old new : Scene) : Type 0 where
  pub left : LeavesNoneBut (IsLeftBy ended.mark.outcome names state instruction ended.found) old.folder new.folder
  pub moved : StaysMoved names old new
