-- The write of a session's file, after the sync that its command begins.
use Rattle.std.specs.Prelude.{◌≡◌, ◌∷◌, ℕ, true, List, Result, Ok, Err, IsSome}
use Rattle.vs_host.specs.Disk.{IsFolder, mode_in}
use Rattle.vs_host.specs.World.{Scene, ChangesFolder}
use Rattle.vs_disk.specs.Runs.{Quiet, Runs}
use Rattle.vs_pair.specs.Pair.{Rises}
use Rattle.vs_backup.specs.Backups.{IsNoName, WorksOn}
use Rattle.vs_backup.specs.Works.{SparesOthers}
use Rattle.vs_backup.specs.Writing.{FailsNoEarlier}
use Rattle.vs_backup.specs.declared.errors.WriteErr.{WriteErr}
use Rattle.vs_backup.specs.declared.errors.WriteErr.TheVariants as error
use Rattle.vs_machine.specs.declared.command.Outcome.{Outcome}
use Rattle.vs_machine.specs.declared.command.Outcome.TheVariants.{Done, NoMemory, Fault}
use Rattle.vs_machine.specs.declared.info.FileInfo.{FileInfo}
use Rattle.vs_machine.specs.Replies.{Answer, refuses, device_fault, no_backup_name, out_of_memory}
use Rattle.vs_safety.specs.Texts.{Sync, recoverable}
use Rattle.vs_paged.specs.Fits.{Syncing}
use Rattle.vs_desk.specs.Counts.{NoneAbove}
use Rattle.vs_desk.specs.Still.{KeepsLeft}
use Rattle.vs_desk.specs.Writes.{KeepsSwap, WritesFile}
use Rattle.vs_session.specs.declared.session.Session.{Session}
use Rattle.vs_session.specs.Session.{SessionState, after_sync, sync_in, written_bytes, written_state}
use Rattle.vs_session.specs.Modes.{OnlyLike, OnlyPrivate}
use Rattle.vs_session.specs.Fits.{Fits, names_of}

-- how a write ended that was refused, and its reply
abbrev pub outcome_to : WriteErr → Outcome
outcome_to (error.Failed place) = Fault
outcome_to error.NoBackupName = Done
outcome_to (error.NoMemory place) = NoMemory

-- the reply to a `w` that was refused
abbrev pub reply_to : WriteErr → Answer
reply_to (error.Failed place) = refuses device_fault
reply_to error.NoBackupName = refuses no_backup_name
reply_to (error.NoMemory place) = refuses out_of_memory

-- the state after a write, by what it answered
abbrev pub state_to : SessionState → Result ℕ WriteErr → SessionState
state_to state (Ok size) = written_state state
state_to state (Err why) = state

-- what a session says of its file after a write of so many bytes
abbrev pub info_of : Session → ℕ → FileInfo
info_of session size = record { format = session.options.write.format; lines = session.text.tree.present.lines; bytes = size }

-- What a write that answered so did to the file, its backup, the swap files and all other names, and which of its calls failed.
pub record Wrote (state : SessionState) (syncs : List Sync) (before after : Session) (result : Result ℕ WriteErr) (old new : Scene) : Type 0 where
  pub file : WritesFile state.options.write (names_of before) (written_bytes state) old new result
  pub no_name : result ≡ Err error.NoBackupName → IsNoName state.options.write (names_of before).file true old.folder
  pub swap : Runs (KeepsSwap (names_of before) (recoverable syncs)) old new
  pub folder : IsFolder old.folder
  pub others : SparesOthers (WorksOn state.options.write (names_of before).file old.folder) old new
  pub left : Runs (KeepsLeft (WorksOn state.options.write (names_of before).file old.folder)) old new
  pub modes : IsSome (mode_in old.folder (names_of before).file) → OnlyLike (names_of before).file old new
  pub above : NoneAbove old new
  pub calls : FailsNoEarlier (names_of before).file (written_bytes state) old new result
  pub fits : Fits after new.folder (state_to state result) syncs

-- From a state with these syncs the text was synced, and that is acknowledged. After that the folder was at most looked at. No call
-- failed.
pub record HasSynced (state : SessionState) (syncs : List Sync) (before after : Session) (old new : Scene) : Type 0 where
  pub fits : Fits before old.folder state syncs
  pub frame : ChangesFolder old new
  pub runs : Runs (Syncing before.text before.options.write.format) old new
  pub quiet : Quiet old new
  pub modes : OnlyPrivate old new
  pub rises : Rises (names_of before) old.folder new.folder
  pub names : names_of after ≡ names_of before
  pub synced : Fits after new.folder (after_sync state true) (sync_in state true ∷ syncs)
