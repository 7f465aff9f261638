-- The outside of the editing core, as a host tells it.
use Rattle.std.specs.Prelude.{◌≡◌, ◌⊎◌, ℕ, Bool, List, ◌∷◌, length, IsErr}
use Rattle.std.specs.declared.option.Option.{Option}
use Rattle.std.specs.declared.result.Result.{Result}
use Rattle.vs_host.specs.Disk.{Disk, Name, content_in}
use Rattle.vs_host.specs.Trace.{Kind, Snapshot}

-- Which parts of its scene a type of hosts tells. The trace is told with the folder.
pub record Tells : Type 0 where
  pub folder : Bool
  pub output : Bool
  pub script : Bool
  pub clock : Bool

-- The outside at one moment: the folder, what was written, what is left of the script, the clock's answers so far, how many
-- calls of each kind failed, and the snapshots so far, the newest first.
pub record Scene : Type 0 where
  pub folder : Disk
  pub output : List ℕ
  pub script : List ℕ
  pub answers : List ℕ
  pub script_faults : ℕ
  pub out_faults : ℕ
  pub folder_faults : ℕ
  pub trace : List Snapshot

-- the bytes under a name
abbrev pub content_of : Scene → Name → Option (List ℕ)
content_of scene name = content_in scene.folder name

-- the snapshot of this scene after a call of this kind on these names
abbrev pub snapshot_of : Scene → Kind → List Name → Snapshot
snapshot_of scene kind names = record {
  folder = scene.folder;
  output = scene.output;
  script_faults = scene.script_faults;
  out_faults = scene.out_faults;
  folder_faults = scene.folder_faults;
  answered = length scene.answers;
  kind = kind;
  names = names;
}

-- the snapshot of a call was added to the trace
abbrev pub IsRecorded : Kind → List Name → Scene → Scene → Type 0
IsRecorded kind names old new = new.trace ≡ snapshot_of new kind names ∷ old.trace

-- the call left folder, output and trace as they were
pub record LeavesTrace (old new : Scene) : Type 0 where
  pub folder : new.folder ≡ old.folder
  pub output : new.output ≡ old.output
  pub trace : new.trace ≡ old.trace

-- Each call adds its snapshot. Only a call that failed and changed nothing may go without, as where there is no memory for it.
abbrev pub IsTold : {T E : Type 0} → Kind → List Name → Result T E → Scene → Scene → Type 0
IsTold kind names result old new = IsRecorded kind names old new ⊎ (IsErr result × LeavesTrace old new)

-- The newest snapshot has folder and output as they are.
pub record HasNewest (scene : Scene) : Type 0 where
  pub newest : Snapshot
  pub older : List Snapshot
  pub is : scene.trace ≡ newest ∷ older
  pub folder : newest.folder ≡ scene.folder
  pub output : newest.output ≡ scene.output

-- nothing but the script, its faults and the trace changed
abbrev pub ChangesScript : Scene → Scene → Type 0
ChangesScript old new = new ≡ record old { script = new.script; script_faults = new.script_faults; trace = new.trace }

-- nothing but the output, its faults and the trace changed
abbrev pub ChangesOutput : Scene → Scene → Type 0
ChangesOutput old new = new ≡ record old { output = new.output; out_faults = new.out_faults; trace = new.trace }

-- nothing but the clock's answers changed
abbrev pub ChangesClock : Scene → Scene → Type 0
ChangesClock old new = new ≡ record old { answers = new.answers }

-- nothing but the folder's faults and the trace changed
abbrev pub ReadsFolder : Scene → Scene → Type 0
ReadsFolder old new = new ≡ record old { folder_faults = new.folder_faults; trace = new.trace }

-- nothing but the folder, its faults and the trace changed
abbrev pub ChangesFolder : Scene → Scene → Type 0
ChangesFolder old new = new ≡ record old { folder = new.folder; folder_faults = new.folder_faults; trace = new.trace }

-- nothing but the folder's faults changed
abbrev pub CountsFault : Scene → Scene → Type 0
CountsFault old new = new ≡ record old { folder_faults = new.folder_faults }
