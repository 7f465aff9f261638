-- What a call on a session requires of it, and how the session goes on over the call.
use Rattle.std.specs.Prelude.{◌≡◌, ◌≤◌, ◌+◌, ◌∷◌, ℕ, Bool, true, false, List, IsTrue}
use Rattle.vs_faults.specs.Faults.{HasCause}
use Rattle.vs_host.specs.Disk.{Disk}
use Rattle.vs_host.specs.World.{Tells, Scene, ChangesFolder, ReadsFolder}
use Rattle.vs_disk.specs.Modes.{MakesLike, MakesPrivate}
use Rattle.vs_disk.specs.Runs.{FailsLast, Looks, Runs, NoneFails}
use Rattle.vs_backup.specs.Desks.{StopsAtFault}
use Rattle.vs_pair.specs.Pair.{Rises}
use Rattle.vs_pair.specs.Steps.{IsFresh}
use Rattle.vs_excmd.specs.Request.{Instruction, IsRequest}
use Rattle.vs_excmd.specs.declared.request.Request.{Request}
use Rattle.vs_undo.specs.History.{History}
use Rattle.vs_machine.specs.declared.command.Mark.{Mark}
use Rattle.vs_safety.specs.Safety.{Stepped}
use Rattle.vs_safety.specs.Texts.{Sync, Text}
use Rattle.vs_safety.specs.Turns.{last_turn}
use Rattle.vs_safety.specs.Undo.{IsUndoOf}
use Rattle.vs_ubind.specs.Storing.{StoresBy}
use Rattle.vs_paged.specs.Turns.{KeepsKnown}
use Rattle.vs_session.specs.declared.session.Session.{Session}
use Rattle.vs_session.specs.declared.session.Step.{Step}
use Rattle.vs_session.specs.declared.ending.End.{End}
use Rattle.vs_session.specs.declared.ending.End.TheVariants as end
use Rattle.vs_session.specs.Session.{SessionState, carried, sync_in}
use Rattle.vs_session.specs.Stores.{StoresUndo}
use Rattle.vs_session.specs.Made.{LeavesNoneMade, StaysMoved}
use Rattle.vs_session.specs.Fits.{Fits, FitsUndo, HasSyncs, IsStep, Leaves, SameFile, generation_of, names_of}

-- Where the folder is told, the session is in some state, and the folder has the swap files that some syncs made.
abbrev pub FitsFolder : Tells → Session → Disk → Type 0
FitsFolder tells session disk = IsTrue tells.folder → (state : SessionState) × (syncs : List Sync) × Fits session disk state syncs

-- The session can take a command: its undo tree fits its text, and it fits the folder.
pub record IsUsable (tells : Tells) (session : Session) (disk : Disk) : Type 0 where
  pub undo : FitsUndo session
  pub fits : FitsFolder tells session disk

-- The session is still in each state that it was in, and the folder has the swap files of the same syncs.
abbrev pub KeepsState : Tells → Session → Session → Disk → Disk → Type 0
KeepsState tells before after was now =
    IsTrue tells.folder → (state : SessionState) (syncs : List Sync) → Fits before was state syncs → Fits after now state syncs

-- Where the folder is told, the session has carried out the command that a request stands for, in each state that it was in.
abbrev pub CarriesRequest : Tells → Request → Mark → Session → Session → Disk → Disk → Type 0
CarriesRequest tells request mark before after was now =
    IsTrue tells.folder → (state : SessionState) (syncs : List Sync) (instruction : Instruction) → Fits before was state syncs → IsRequest request instruction
    → Fits after now (carried state instruction mark) syncs

-- Where the folder is told, the step answers the command that a request stands for, in each state that the session was in.
abbrev pub AnswersRequest : Tells → Request → Step → Session → Session → Scene → Scene → Type 0
AnswersRequest tells request step before after old new =
    IsTrue tells.folder → (state : SessionState) (syncs : List Sync) (instruction : Instruction) → Fits before old.folder state syncs
    → IsRequest request instruction
    → IsStep step state syncs instruction before after old new

-- The folder was only looked at, and its faults have risen where a call failed. That one was the last.
pub record OnlyReads (tells : Tells) (Failed : Type 0) (old new : Scene) : Type 0 where
  pub frame : ReadsFolder old new
  pub looks : IsTrue tells.folder → Looks old new
  pub stops : StopsAtFault tells Failed old new
  pub cause : HasCause old.folder_faults new.folder_faults Failed

-- The session goes on with the same file and the same number of syncs, and its undo tree fits its text. Nothing but the folder, its
-- faults and the trace changed, and the faults have risen where a call failed.
pub record GoesOn (Failed : Type 0) (before after : Session) (old new : Scene) : Type 0 where
  pub frame : ChangesFolder old new
  pub file : SameFile before after
  pub generation : generation_of after ≡ generation_of before
  pub known : KeepsKnown before.text.pair after.text.pair
  pub undo : FitsUndo after
  pub cause : HasCause old.folder_faults new.folder_faults Failed

-- The same, and the folder was only looked at. A call that failed was the last one.
pub record GoesOnReading (tells : Tells) (Failed : Type 0) (before after : Session) (old new : Scene) : Type 0 where
  pub frame : ReadsFolder old new
  pub looks : IsTrue tells.folder → Looks old new
  pub stops : StopsAtFault tells Failed old new
  pub file : SameFile before after
  pub generation : generation_of after ≡ generation_of before
  pub known : KeepsKnown before.text.pair after.text.pair
  pub undo : FitsUndo after
  pub cause : HasCause old.folder_faults new.folder_faults Failed

-- The same as `GoesOn`, but that one sync may have been begun.
pub record GoesOnSyncing (Failed : Type 0) (before after : Session) (old new : Scene) : Type 0 where
  pub frame : ChangesFolder old new
  pub file : SameFile before after
  pub generation : generation_of after ≤ generation_of before + 1
  pub undo : FitsUndo after
  pub cause : HasCause old.folder_faults new.folder_faults Failed

-- What the end of a session leaves, done or failed. The last sync steps from the syncs before to itself, and some session with these
-- names fits the folder after it; a quit leaves what the syncs allow, and no swap file where it is done. Under a name under which files are
-- made it leaves none, and at no moment one under those for the swap files. A file that it makes is for its owner alone. No call but the last one
-- failed.
pub record Finishes (tells : Tells) (session : Session) (old new : Scene) (how : End) (done : Bool) : Type 0 where
  pub sync : how ≡ end.Sync → IsTrue tells.folder → (state : SessionState) (syncs : List Sync) → Fits session old.folder state syncs
      → Stepped (names_of session) syncs (last_turn (sync_in state done)) old new
  pub fits : how ≡ end.Sync → IsTrue tells.folder → (state : SessionState) (syncs : List Sync) → Fits session old.folder state syncs
      → HasSyncs (names_of session) (sync_in state done ∷ syncs) new.folder
  pub rises : done ≡ true → how ≡ end.Sync → IsTrue tells.folder → Rises (names_of session) old.folder new.folder
  pub quit : how ≡ end.Quit → IsTrue tells.folder → (state : SessionState) (syncs : List Sync) → Fits session old.folder state syncs
      → Leaves (names_of session) syncs old new
  pub gone : done ≡ true → how ≡ end.Quit → IsTrue tells.folder → IsFresh (names_of session) new.folder
  pub cleared : IsTrue tells.folder → LeavesNoneMade old.folder new.folder
  pub moved : IsTrue tells.folder → StaysMoved (names_of session) old new
  pub modes : MakesPrivate tells old new
  pub last : IsTrue tells.folder → FailsLast old new
  pub none : done ≡ true → NoneFails tells old new
  pub frame : ChangesFolder old new
  pub cause : HasCause old.folder_faults new.folder_faults (done ≡ false)

-- These bytes were stored as the undo file of the session, as far as the calls went: where they are the undo file of a text and a
-- history, a stop leaves what was there before or them whole. No call was made but those of the storing, none but the last one failed,
-- and none unless that is answered. A file that was made is for its owner alone, or has a mode of the edited file. The session fits the
-- folder in each state that it fitted it in before.
pub record StoresBytes (tells : Tells) (Failed : Type 0) (session : Session) (bytes : List ℕ) (old new : Scene) : Type 0 where
  pub runs : IsTrue tells.folder → (text : Text) (history : History) → IsUndoOf text history bytes → Runs (StoresUndo (names_of session) text history) old new
  pub fits : KeepsState tells session session old.folder new.folder
  pub calls : IsTrue tells.folder → StoresBy (names_of session).undo_new (names_of session).undo old new
  pub modes : MakesLike tells (names_of session).file old new
  pub stops : StopsAtFault tells Failed old new
  pub frame : ChangesFolder old new
  pub cause : HasCause old.folder_faults new.folder_faults Failed
