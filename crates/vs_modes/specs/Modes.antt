-- What a mode does, by how it ended.
use Rattle.std.specs.Prelude.{◌≡◌, ◌≤◌, ℕ, List, ◌++◌, IsTrue, Result, Ok, Err}
use Rattle.vs_faults.specs.Faults.{HasRisen}
use Rattle.vs_host.specs.Disk.{Disk}
use Rattle.vs_host.specs.World.{Tells, Scene}
use Rattle.vs_modes.specs.declared.error.ModeErr.{ModeErr}
use Rattle.vs_modes.specs.declared.error.ModeErr.TheVariants as refusal
use Rattle.vs_disk.specs.Runs.{CallsAtMost}
use Rattle.vs_modes.specs.Moments.{Proceeds, WritesLast}
use Rattle.vs_modes.specs.Output.{WritesPart}

-- a mode did its work and answers this, or why it did not
abbrev pub Ended : Type 0 → Type 0
Ended T = Result T ModeErr

-- Nothing was written, no count rose, and nothing but the folder changed.
abbrev pub LeavesAll : Scene → Scene → Type 0
LeavesAll old new = new ≡ record old { folder = new.folder; trace = new.trace }

-- Nothing was written. A call on the folder failed, and nothing but the folder changed.
abbrev pub LeavesFailed : Scene → Scene → Type 0
LeavesFailed old new =
    HasRisen old.folder_faults new.folder_faults × (old.folder_faults ≤ new.folder_faults)
    × (new ≡ record old { folder = new.folder; folder_faults = new.folder_faults; trace = new.trace })

-- What changed but for the folder and the trace: the output where something was to be written, and the count of the calls
-- that the refusal names, which rose. Else no count rose.
abbrev pub LeavesBy : {T : Type 0} → Ended T → Scene → Scene → Type 0
LeavesBy (Ok answer) old new = new ≡ record old { folder = new.folder; output = new.output; trace = new.trace }
LeavesBy (Err refusal.OutputFailed) old new =
    HasRisen old.out_faults new.out_faults × (new ≡ record old { folder = new.folder; output = new.output; out_faults = new.out_faults; trace = new.trace })
LeavesBy (Err refusal.FolderFailed) old new = LeavesFailed old new
LeavesBy (Err why) old new = LeavesAll old new

-- The bytes that are wanted with the answer were written whole, or those of some answer in part where a write failed. Else it was
-- refused for a reason that holds.
abbrev pub AnswersBy : {T : Type 0} → (T → List ℕ → Type 0) → (ModeErr → Type 0) → Tells → Ended T → Scene → Scene → Type 0
AnswersBy Wanted Refused tells (Ok answer) old new = (bytes : List ℕ) × Wanted answer bytes × (IsTrue tells.output → new.output ≡ old.output ++ bytes)
AnswersBy {T} Wanted Refused tells (Err refusal.OutputFailed) old new =
    (answer : T) × (bytes : List ℕ) × Wanted answer bytes × (IsTrue tells.output → WritesPart bytes old.output new.output)
AnswersBy Wanted Refused tells (Err why) old new = Refused why

-- What a mode does whose folder goes by the step at each moment, that is to write these bytes with each answer, by its last call of
-- at most so many, and that may be refused for these reasons.
pub record RunsMode {T : Type 0} (step : Disk → Disk → Type 0) (Wanted : T → List ℕ → Type 0) (Refused : ModeErr → Type 0) (tells : Tells) (most : ℕ)
    (old new : Scene) (result : Ended T) : Type 0 where
  pub leaves : LeavesBy result old new
  pub proceeds : IsTrue tells.folder → Proceeds step old new
  pub calls : CallsAtMost tells old new most
  pub order : IsTrue tells.folder → WritesLast old new
  pub answer : IsTrue tells.folder → AnswersBy Wanted Refused tells result old new
