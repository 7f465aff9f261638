-- How a desk goes on over the calls of a function that is generic over it, with the ghost members of its trait.
use Rattle.std.specs.Prelude.{◌≢◌, IsTrue}
use Rattle.vs_faults.specs.Faults.{HasCause}
use Rattle.vs_host.specs.Disk.{Name}
use Rattle.vs_host.specs.World.{Tells, Scene, ChangesFolder, ReadsFolder}
use Rattle.vs_disk.specs.Runs.{FailsLast, Quiet}

-- Where the folder is told, no call but the last one failed, and none at all unless that is answered.
pub record StopsAtFault (tells : Tells) (Failed : Type 0) (old new : Scene) : Type 0 where
  pub last : IsTrue tells.folder → FailsLast old new
  pub none : IsTrue tells.folder → ¬ Failed → Quiet old new

-- The desk is valid, over the same borrows, with the same text. Nothing but the folder, its faults and the trace changed, and
-- the faults have risen where a call failed.
pub record Continues {D : Type 0} (scene : D → Scene) (IsValid : D → Type 0) (Stays : D → D → Type 0) (Failed : Type 0) (old new : D) : Type 0 where
  pub valid : IsValid new
  pub stays : Stays old new
  pub frame : ChangesFolder (scene old) (scene new)
  pub cause : HasCause (scene old).folder_faults (scene new).folder_faults Failed

-- The same, and no call but the last one failed.
pub record GoesOn {D : Type 0} (tells : Tells) (scene : D → Scene) (IsValid : D → Type 0) (Stays : D
    → D → Type 0) (Failed : Type 0) (old new : D) : Type 0 where
  pub valid : IsValid new
  pub stays : Stays old new
  pub frame : ChangesFolder (scene old) (scene new)
  pub cause : HasCause (scene old).folder_faults (scene new).folder_faults Failed
  pub stops : StopsAtFault tells Failed (scene old) (scene new)

-- The same, and the folder did not change either.
pub record OnlyReads {D : Type 0} (tells : Tells) (scene : D → Scene) (IsValid : D → Type 0) (Stays : D
    → D → Type 0) (Failed : Type 0) (old new : D) : Type 0 where
  pub valid : IsValid new
  pub stays : Stays old new
  pub frame : ReadsFolder (scene old) (scene new)
  pub cause : HasCause (scene old).folder_faults (scene new).folder_faults Failed
  pub stops : StopsAtFault tells Failed (scene old) (scene new)

-- The names of a file, of its backup and of the file under which a copy is made differ, and the text is read from none of them.
pub record AreApart (Reads : Name → Type 0) (name backup temporary : Name) : Type 0 where
  pub file : Reads name → ⊥
  pub backup_file : Reads backup → ⊥
  pub temporary_file : Reads temporary → ⊥
  pub differ : name ≢ temporary
  pub differ_backup : temporary ≢ backup
  pub differ_name : name ≢ backup
