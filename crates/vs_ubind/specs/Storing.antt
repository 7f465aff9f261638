-- What the storing of an undo file says of its work on the folder, and which calls it makes.
use Rattle.std.specs.Prelude.{◌≡◌, ◌≢◌, ◌≤◌, ◌⊎◌, ◌++◌, List, [], ◌∷◌, IsTrue}
use Rattle.vs_host.specs.Disk.{Disk, Name}
use Rattle.vs_host.specs.Trace.{Renamed, SyncedNames, Snapshot, Each, GoesOn}
use Rattle.vs_host.specs.World.{Tells, Scene, ChangesFolder}
use Rattle.vs_disk.specs.Modes.{MakesLike}
use Rattle.vs_disk.specs.Runs.{FailsLast, Runs}
use Rattle.vs_backup.specs.Works.{one_name}

-- Only the folder, its faults and the trace changed. Where the folder is told, the step leads from the folder at the start to that of
-- each snapshot since and to that now, and no call but the last one failed.
pub record Works (tells : Tells) (step : Disk → Disk → Type 0) (old new : Scene) : Type 0 where
  pub frame : ChangesFolder old new
  pub later : old.folder_faults ≤ new.folder_faults
  pub runs : IsTrue tells.folder → Runs step old new
  pub last : IsTrue tells.folder → FailsLast old new

-- The same, and a file that was made is for its owner alone or has a mode that the file of the name had.
pub record ActsLike (tells : Tells) (name : Name) (step : Disk → Disk → Type 0) (old new : Scene) : Type 0 where
  pub frame : ChangesFolder old new
  pub later : old.folder_faults ≤ new.folder_faults
  pub runs : IsTrue tells.folder → Runs step old new
  pub last : IsTrue tells.folder → FailsLast old new
  pub modes : MakesLike tells name old new

-- A call on names of this set alone.
pub record IsCallOn (on : Name → Type 0) (call : Snapshot) : Type 0 where
  pub names : Each on call.names
  pub some : call.names ≢ []

-- Where the folder is told, no call was made but on names of this set.
pub record CallsOn (tells : Tells) (on : Name → Type 0) (old new : Scene) : Type 0 where
  pub calls : IsTrue tells.folder → GoesOn (IsCallOn on) old.trace new.trace

-- the rename of the first name to the second
pub record IsRename (from to : Name) (call : Snapshot) : Type 0 where
  pub kind : call.kind ≡ Renamed
  pub names : call.names ≡ from ∷ to ∷ []

-- the sync of the names
pub record IsSyncOfNames (call : Snapshot) : Type 0 where
  pub kind : call.kind ≡ SyncedNames
  pub names : call.names ≡ []

-- These calls, the newest first, are the rename of the first name to the second, and before it calls on the first alone.
abbrev pub EndInRename : Name → Name → List Snapshot → Type 0
EndInRename from to [] = ⊥
EndInRename from to (call ∷ earlier) = IsRename from to call × Each (IsCallOn (one_name from)) earlier

-- These calls are that rename with those before it, and after it the sync of the names alone.
abbrev pub EndInSync : Name → Name → List Snapshot → Type 0
EndInSync from to [] = ⊥
EndInSync from to (call ∷ earlier) = IsSyncOfNames call × EndInRename from to earlier

-- These calls are on the first name alone, or go on with its rename to the second, or with the sync of the names after that.
abbrev pub AreStoring : Name → Name → List Snapshot → Type 0
AreStoring from to calls = Each (IsCallOn (one_name from)) calls ⊎ (EndInRename from to calls ⊎ EndInSync from to calls)

-- So the trace went on.
pub record StoresBy (from to : Name) (old new : Scene) : Type 0 where
  pub added : List Snapshot
  pub is : new.trace ≡ added ++ old.trace
  pub calls : AreStoring from to added
