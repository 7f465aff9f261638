-- What the reads of a script add to the trace, and what a call says of them.
use Rattle.std.specs.Prelude.{◌≡◌, ◌≤◌, List, ◌++◌, length, Result, IsTrue, IsErrOf, OnOk}
use Rattle.vs_faults.specs.Faults.{HasCause, IsQuiet}
use Rattle.vs_host.specs.Trace.{Snapshot, Each, GoesOn}
use Rattle.vs_host.specs.World.{Tells, Scene, ChangesScript}
use Rattle.vs_script.specs.declared.reader.ScriptErr.{ScriptErr}
use Rattle.vs_script.specs.declared.reader.ScriptErr.TheVariants as error

-- A read that succeeded: folder, output and the counts of failed calls are those of the scene.
pub record IsAsBefore (start : Scene) (snapshot : Snapshot) : Type 0 where
  pub folder : snapshot.folder ≡ start.folder
  pub output : snapshot.output ≡ start.output
  pub script_faults : snapshot.script_faults ≡ start.script_faults
  pub out_faults : snapshot.out_faults ≡ start.out_faults
  pub folder_faults : snapshot.folder_faults ≡ start.folder_faults

-- a read that may have failed: folder and output are those of the scene
abbrev pub IsRead : Scene → Snapshot → Type 0
IsRead start snapshot = (snapshot.folder ≡ start.folder) × (snapshot.output ≡ start.output)

-- reads of which none failed
abbrev pub ReadsAll : Scene → Scene → Type 0
ReadsAll old new = GoesOn (IsAsBefore old) old.trace new.trace

-- Reads of which none but the last one failed.
pub record ReadsOn (old new : Scene) : Type 0 where
  pub last : List Snapshot
  pub earlier : List Snapshot
  pub one : length last ≤ 1
  pub is : new.trace ≡ last ++ (earlier ++ old.trace)
  pub earlier_are : Each (IsAsBefore old) earlier
  pub last_is : Each (IsRead old) last

-- Of the host only the script was read. The count of its faults has risen where the answer is that a read failed, and else is as
-- before. Where the folder is told, the trace grew by reads alone, of which none but the last one failed, and none at all where the
-- call succeeded.
pub record ReadsScript (tells : Tells) {T : Type 0} (result : Result T ScriptErr) (old new : Scene) : Type 0 where
  pub frame : ChangesScript old new
  pub cause : HasCause old.script_faults new.script_faults (IsErrOf result error.Failed)
  pub quiet : IsQuiet old.script_faults new.script_faults (IsErrOf result error.Failed)
  pub all : OnOk result (IsTrue tells.folder → ReadsAll old new)
  pub last : IsTrue tells.folder → ReadsOn old new
