-- Which calls of a command failed.
use Rattle.std.specs.Prelude.{◌≡◌, ℕ, Bool, true, false, List}
use Rattle.vs_faults.specs.Faults.{HasRisen}
use Rattle.vs_host.specs.World.{Scene}
use Rattle.vs_host.specs.declared.names.Names.{Names}
use Rattle.vs_disk.specs.Runs.{FailsLast, Quiet}
use Rattle.vs_backup.specs.Writing.{BecomesWritten}
use Rattle.vs_ubind.specs.Storing.{StoresBy}
use Rattle.vs_desk.specs.Counts.{NoneAbove}
use Rattle.vs_excmd.specs.Request.{Instruction}
use Rattle.vs_machine.specs.declared.command.Outcome.TheVariants.{NoUndo}
use Rattle.vs_session.specs.Session.{SessionState, Ended, has_written, is_fault, puts_back, written_bytes}

-- Between two scenes the file of these names was written, and the calls after that are those of storing the undo file. No call failed
-- until the file had these bytes in each image, and of the calls after that which take the backup away, none but the last one. Of those
-- of the storing none failed; or where the storing did, the last one did and no other.
pub record WritesFirst (names : Names) (bytes : List ℕ) (Unstored : Type 0) (old new : Scene) : Type 0 where
  pub wrote : Scene
  pub file : BecomesWritten names.file bytes old wrote
  pub above : NoneAbove old wrote
  pub calls : StoresBy names.undo_new names.undo wrote new
  pub last : FailsLast wrote new
  pub none : ¬ Unstored → Quiet wrote new
  pub unstored : Unstored → HasRisen wrote.folder_faults new.folder_faults

-- Which calls of a command failed that was to write the file with a backup and did not. Until it stopped, none but the last one, and none
-- at all unless that is answered; of those after that, which put the file back, none but the last one.
pub record StopsWriting (failed : Bool) (old new : Scene) : Type 0 where
  pub stopped : Scene
  pub last : FailsLast old stopped
  pub none : failed ≡ false → Quiet old stopped
  pub back_last : FailsLast stopped new
  pub back_none : (HasRisen stopped.folder_faults new.folder_faults → ⊥) → Quiet stopped new

-- Which calls of a command failed that ended so: where it wrote the file, none before the file was written; where it began to write it with
-- a backup and did not, the one at which it stopped, and the one at which it could not put the file back; else none but the last one, and
-- none at all unless that is answered.
pub record FailsOnce (names : Names) (state : SessionState) (instruction : Instruction) (ended : Ended) (old new : Scene) : Type 0 where
  pub writes : has_written state instruction ended ≡ true → WritesFirst names (written_bytes state) (ended.mark.outcome ≡ NoUndo) old new
  pub refused : has_written state instruction ended ≡ false → puts_back state instruction ended ≡ true → StopsWriting (is_fault ended.mark.outcome) old new
  pub last : has_written state instruction ended ≡ false → puts_back state instruction ended ≡ false → FailsLast old new
  pub none : has_written state instruction ended ≡ false → puts_back state instruction ended ≡ false → is_fault ended.mark.outcome ≡ false → Quiet old new
