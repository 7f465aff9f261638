-- A session between two commands, and what opening it, one step and its end do to the folder.
use Rattle.std.specs.Prelude.{◌≡◌, ◌⊎◌, ℕ, max, true, false, List, [], ◌∷◌, ◌++◌, Bool, IsSome, None, string_bytes}
use Rattle.vs_host.specs.Disk.{Disk, content_in}
use Rattle.vs_host.specs.Names.{names_of_file}
use Rattle.vs_host.specs.World.{Scene}
use Rattle.vs_host.specs.declared.names.Names.{Names}
use Rattle.vs_disk.specs.Names.{SameAt}
use Rattle.vs_pair.specs.Pair.{is_foreign}
use Rattle.vs_pair.specs.Steps.{IsAbsent}
use Rattle.vs_excmd.specs.Request.{Instruction}
use Rattle.vs_machine.specs.declared.command.Mark.{Mark}
use Rattle.vs_machine.specs.Replies.{Answer}
use Rattle.vs_safety.specs.Texts.{Sync, RecoversOrNone, recoverable}
use Rattle.vs_safety.specs.Safety.{Stepped, Works}
use Rattle.vs_undo.specs.History.{FitsCount}
use Rattle.vs_paged.specs.Fits as paged
use Rattle.vs_session.specs.declared.session.Session.{Session}
use Rattle.vs_session.specs.declared.session.Step.{Step}
use Rattle.vs_session.specs.declared.session.Step.TheVariants as step
use Rattle.vs_session.specs.Session.{SessionState, Ended, HasFound, accepts_quit, is_clean, reply_of, state_after, syncs_after, is_fault, turn_of}
use Rattle.vs_session.specs.Failures.{FailsOnce}
use Rattle.vs_session.specs.Wholeness.{StaysWhole}
use Rattle.vs_session.specs.Standing.{FitsState}
use Rattle.vs_session.specs.Summary.{acknowledged_in}
use Rattle.vs_session.specs.Made.{ClearsMade}
use Rattle.vs_session.specs.Modes.{KeepsMode, KeepsReaders}
use Rattle.vs_session.specs.Opened.{Opened, document_of_file}

-- The session is in this state, and the folder has the swap files that these syncs, the newest first, made.
pub record Fits (session : Session) (disk : Disk) (state : SessionState) (syncs : List Sync) : Type 0 where
  pub stands : FitsState session.text session.history disk state.machine syncs
  pub name : string_bytes session.name ≡ state.name
  pub cursor : session.cursor ≡ state.machine.cursor
  pub saved : session.saved ≡ state.saved
  pub saved_format : session.saved_format ≡ state.saved_format
  pub steps : session.steps ≡ state.steps
  pub options : session.options ≡ state.options
  pub acknowledged : session.acknowledged ≡ acknowledged_in syncs

-- the names of the file and of what goes with it
abbrev pub names_of : Session → Names
names_of session = paged.names_of session.text

-- Some session with these names fits the folder after these syncs, the newest first, so that both swap files are there.
pub record HasSyncs (names : Names) (syncs : List Sync) (disk : Disk) : Type 0 where
  pub session : Session
  pub state : SessionState
  pub named : names_of session ≡ names
  pub fits : Fits session disk state syncs

-- whether the document has no changes that are not in the edited file
abbrev pub is_clean_session : Session → Bool
is_clean_session session = is_clean session.saved session.saved_format session.history.current session.options.write.format

-- the number of the newest sync
abbrev pub generation_of : Session → ℕ
generation_of session = session.text.pair.files.generation

-- The entries of the undo tree fit the number of lines, also where no text is told.
abbrev pub FitsUndo : Session → Type 0
FitsUndo session = FitsCount session.history (max 1 session.text.tree.present.lines)

-- ---- the opening

-- one of the two swap files is there
abbrev pub HasSwap : Names → Disk → Type 0
HasSwap names disk = IsSome (content_in disk names.swp) ⊎ IsSome (content_in disk names.swo)

-- a swap file that is not there is in no image
pub record IsSettled (names : Names) (disk : Disk) : Type 0 where
  pub swp : content_in disk names.swp ≡ None → IsAbsent names.swp disk
  pub swo : content_in disk names.swo ≡ None → IsAbsent names.swo disk

-- While a file of this name is opened: all names but those of the pair are spared, and where no swap file was there, whatever a
-- stop leaves, there is none or the document of the file is recovered.
pub record Opens (name : List ℕ) (old new : Disk) : Type 0 where
  pub spared : SameAt (is_foreign (names_of_file name)) old new
  pub safe : (HasSwap (names_of_file name) old → ⊥) → RecoversOrNone (names_of_file name) (document_of_file (content_in old name) ∷ []) new

-- The session has this name, and says this of its file.
pub record HasOpened (file : Opened) (session : Session) : Type 0 where
  pub name : string_bytes session.name ≡ file.name
  pub found : session.found ≡ file.found

-- The file that a session opened is the same, with its names.
pub record SameFile (old new : Session) : Type 0 where
  pub name : string_bytes new.name ≡ string_bytes old.name
  pub found : new.found ≡ old.found
  pub names : names_of new ≡ names_of old

-- ---- one step

-- The session answered a command: the reply, the state and the syncs are those of the state before, and at each moment what may be
-- recovered is recovered. Under a name under which files are made it leaves one only where it ended so that it may. Who may read what it
-- makes, and what it wrote, is kept.
pub record Answers (state : SessionState) (syncs : List Sync) (instruction : Instruction) (before after : Session) (mark : Mark) (reply : Answer)
    (old new : Scene) : Type 0 where
  pub not_quit : accepts_quit state instruction ≡ false
  pub ended : Ended
  pub mark_is : ended.mark ≡ mark
  pub found : HasFound state instruction ended
  pub reply_is : reply ≡ reply_of state instruction ended
  pub fits : Fits after new.folder (state_after state instruction ended) (syncs_after state instruction ended syncs)
  pub stepped : Stepped (names_of before) syncs (turn_of state instruction ended) old new
  pub calls : FailsOnce (names_of before) state instruction ended old new
  pub whole : StaysWhole (names_of before) state instruction ended old new
  pub cleared : ClearsMade (names_of before) state instruction ended old new
  pub modes : KeepsReaders (names_of before).file instruction old new
  pub mode : KeepsMode (names_of before).file state instruction ended old new

-- a command was answered, or an accepted `q` or `q!` changed nothing
abbrev pub IsStep : Step → SessionState → List Sync → Instruction → Session → Session → Scene → Scene → Type 0
IsStep (step.Answer mark reply) state syncs instruction before after old new = Answers state syncs instruction before after mark reply old new
IsStep step.Quit state syncs instruction before after old new =
    (accepts_quit state instruction ≡ true) × (after ≡ before) × (new.trace ≡ old.trace) × (new.folder ≡ old.folder) × (new.folder_faults ≡ old.folder_faults)

-- nothing but the folder, its faults, the clock's answers and the trace changed
abbrev pub StepsIn : Scene → Scene → Type 0
StepsIn old new = new ≡ record old { folder = new.folder; answers = new.answers; folder_faults = new.folder_faults; trace = new.trace }

-- the clock was read once, and the mark has its answer
abbrev pub IsTimed : Step → Scene → Scene → Type 0
IsTimed (step.Answer mark reply) old new = new.answers ≡ old.answers ++ mark.at ∷ []
IsTimed step.Quit old new = (at : ℕ) × (new.answers ≡ old.answers ++ at ∷ [])

-- the mark has this time
abbrev pub IsMarkedAt : Step → ℕ → Type 0
IsMarkedAt (step.Answer mark reply) at = mark.at ≡ at
IsMarkedAt step.Quit at = ⊥

-- the step says that a call on the folder failed
abbrev pub IsFault : Step → Type 0
IsFault (step.Answer mark reply) = is_fault mark.outcome ≡ true
IsFault step.Quit = ⊥

-- ---- the end

-- The swap files were removed: at each moment neither was there, or recovery went on to give what it might, and no name but those
-- of the pair changed.
pub record Leaves (names : Names) (syncs : List Sync) (old new : Scene) : Type 0 where
  pub works : Works names None (RecoversOrNone names (recoverable syncs)) old new
  pub now : RecoversOrNone names (recoverable syncs) new.folder
