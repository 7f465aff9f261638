-- What the stress mode does: it answers commands of its own over a session, and writes what the session has come to.
use Rattle.std.specs.Prelude.{ℕ, Bool, List, ◌∷◌, [], ◌≡◌, ◌+◌, ◌⊎◌, ◌++◌, ⊤, codes, length, take, IsTrue}
use Rattle.vs_host.specs.Names.{names_of_file}
use Rattle.vs_host.specs.Trace.{Snapshot, Each, GoesOn}
use Rattle.vs_host.specs.World.{Tells, Scene, content_of}
use Rattle.vs_host.specs.declared.names.Names.{Names}
use Rattle.vs_disk.specs.Names.{SameAt}
use Rattle.vs_disk.specs.Runs.{FailsLast, Inside, Looks, Quiet}
use Rattle.vs_text.specs.Documents.{Document}
use Rattle.vs_pair.specs.Acts.{JustReads}
use Rattle.vs_pair.specs.Pair.{is_foreign}
use Rattle.vs_pair.specs.Steps.{BothMoved, IsFresh}
use Rattle.vs_excmd.specs.Request.{Instruction}
use Rattle.vs_safety.specs.Safety.{Writes}
use Rattle.vs_safety.specs.Texts.{Recovers, RecoversOrNone, recoverable}
use Rattle.vs_safety.specs.Turns.{NotBegun, Turn, with_begun, after_turns, opened}
use Rattle.vs_safety.specs.History.{History, syncs_of, turns_then}
use Rattle.vs_session.specs.Session.{SessionState}
use Rattle.vs_session.specs.Opened.{document_of_file}
use Rattle.vs_session.specs.Made.{LeavesNoneMade}
use Rattle.vs_session.specs.Summary.{summary_of}
use Rattle.vs_stress.specs.Arguments.{IsCount, summary_line}
use Rattle.vs_stress.specs.Commands.{stress_commands}
use Rattle.vs_top.specs.History.{Past, any_error, commands_then, history_of, state_of}
use Rattle.vs_top.specs.Run.{Did, KeepsSwap, opened_file}

-- the file of the stress mode
abbrev pub stress_name : List ℕ
stress_name = codes "stress.vs"

-- the arguments are `stress` and this number
abbrev pub IsStress : List (List ℕ) → ℕ → Type 0
IsStress words count = (word : List ℕ) × (words ≡ codes "stress" ∷ word ∷ []) × IsCount word count

-- a host tells all that the stress mode depends on, and what it writes
pub record TellsStress (tells : Tells) : Type 0 where
  pub folder : IsTrue tells.folder
  pub output : IsTrue tells.output
  pub clock : IsTrue tells.clock

-- ---- what it answered

-- the document that the stress mode begins with
abbrev pub stress_document : Scene → Document
stress_document old = document_of_file (content_of old stress_name)

-- the history of the stress mode, as far as safety goes
abbrev pub stress_history : Scene → Past → History
stress_history old past = history_of (opened_file old stress_name) past

-- its commands as turns
abbrev pub stress_turns : Scene → Past → List Turn
stress_turns old past = turns_then (stress_history old past) []

-- the state after these commands of the stress mode
abbrev pub stress_state : Scene → Past → SessionState
stress_state old past = state_of (opened_file old stress_name).state past

-- the line with the summary after these commands
abbrev pub stress_line : ℕ → Scene → Past → List ℕ
stress_line count old past =
    let summary = summary_of (stress_state old past) (syncs_of (stress_history old past)) in
    summary_line count summary.lines summary.changes summary.syncs summary.digest

-- At most bytes of files were read, as the summary asks for the text, and folder and output were left as they were.
pub record ReadsText (ended new : Scene) : Type 0 where
  pub looks : Looks ended new
  pub reads : JustReads ended new

-- The text was read for the summary, and no call failed. Of the calls after that P holds.
pub record SumsThen (P : Scene → Scene → Type 0) (ended new : Scene) : Type 0 where
  pub summed : Scene
  pub text : ReadsText ended summed
  pub none : Quiet ended summed
  pub after : P summed new

-- The text was read for the summary, and the last call failed.
pub record FailsToSum (ended new : Scene) : Type 0 where
  pub text : ReadsText ended new
  pub last : FailsLast ended new

-- The next calls are a write of the whole line, and those that remove the swap files, of which P holds.
pub record WritesThen (P : Scene → Scene → Type 0) (line : List ℕ) (ended new : Scene) : Type 0 where
  pub told : Scene
  pub wrote : Writes (length line) line ended told
  pub moments : GoesOn (Inside new (λ folder. ⊤)) told.trace new.trace
  pub removal : P told new

-- All commands were answered and led to a scene of which `RanTo` holds, the calls since then are as `Closes` says, and this was written. No
-- file stays under a name under which one was made.
pub record HasStressed (RanTo : Scene → Type 0) (Closes : Scene → Scene → Type 0) (count : ℕ) (old new : Scene) (did : Did) (written : List ℕ) : Type 0 where
  pub all : commands_then did.past [] ≡ stress_commands count
  pub ended : Scene
  pub ran : RanTo ended
  pub closes : Closes ended new
  pub output : new.output ≡ old.output ++ written
  pub cleared : LeavesNoneMade old.folder new.folder
  pub moved : BothMoved (names_of_file stress_name) new.folder

-- The whole line was written, and the swap files were removed. Of that no call failed.
pub record StressEnds (RanTo : Scene → Type 0) (errors : Bool) (count : ℕ) (old new : Scene) (did : Did) : Type 0 where
  pub stressed : HasStressed RanTo (SumsThen (WritesThen Quiet (stress_line count old did.past))) count old new did (stress_line count old did.past)
  pub errors_are : any_error (opened_file old stress_name).state did.past ≡ errors
  pub gone : IsFresh (names_of_file stress_name) new.folder

-- No command was answered, the folder was only looked at, and no call failed.
pub record IsUnopened (old new : Scene) (did : Did) : Type 0 where
  pub none : did.past ≡ []
  pub looks : Looks old new
  pub quiet : new.folder_faults ≡ old.folder_faults

-- Since the last command no call was made; or none is left, the text was read for the summary, and no call failed.
abbrev pub SumsAtMost : List Instruction → Scene → Scene → Type 0
SumsAtMost rest ended new = (new ≡ ended) ⊎ ((rest ≡ []) × ReadsText ended new × Quiet ended new)

-- The first commands led to a scene of which `RanTo` holds, and since then at most the text was read. Some session fits the folder, so that
-- both swap files are there.
pub record HasStopped (RanTo : Scene → Type 0) (rest : List Instruction) (old new : Scene) (did : Did) : Type 0 where
  pub ended : Scene
  pub ran : RanTo ended
  pub since : SumsAtMost rest ended new
  pub swap : KeepsSwap (opened_file old stress_name) did new.folder

-- The first commands were answered, and nothing was written; or the file was not opened. No file stays under a name under which one was
-- made.
pub record IsStressing (RanTo : Scene → Type 0) (count : ℕ) (old new : Scene) (did : Did) : Type 0 where
  pub rest : List Instruction
  pub first : stress_commands count ≡ commands_then did.past rest
  pub output : new.output ≡ old.output
  pub closing : did.closing ≡ NotBegun
  pub kept : IsUnopened old new did ⊎ HasStopped RanTo rest old new did
  pub cleared : LeavesNoneMade old.folder new.folder

-- the scenes of the hosts of a type
abbrev pub IsSceneOf : {H : Type 0} → (H → Scene) → Scene → Type 0
IsSceneOf {H} scene_of scene = (host : H) × (scene ≡ scene_of host)

-- ---- the moments

-- A moment before the first command.
pub record IsAtOpening (names : Names) (start : Scene) (document : Document) (moment : Snapshot) : Type 0 where
  pub answered : moment.answered ≡ length start.answers
  pub written : moment.output ≡ start.output
  pub recovers : RecoversOrNone names (document ∷ []) moment.folder

-- A moment while the command after these was under way, or had ended: the clock was read as often as commands had begun.
pub record IsAtCommand (names : Names) (start : Scene) (document : Document) (turns : List Turn) (moment : Snapshot) : Type 0 where
  pub first : List Turn
  pub turn : Turn
  pub rest : List Turn
  pub turns_are : turns ≡ first ++ turn ∷ rest
  pub answered : moment.answered ≡ length start.answers + (length first + 1)
  pub written : moment.output ≡ start.output
  -- what was recoverable is recovered, or the document of the sync that the command begins
  pub recovers : Recovers names (recoverable (with_begun turn.sync (after_turns (opened document) first))) moment.folder

-- A moment after the last command: nothing of the line was written yet, or a part of it, or all.
pub record IsAtLine (names : Names) (start : Scene) (document : Document) (turns : List Turn) (line : List ℕ) (moment : Snapshot) : Type 0 where
  pub answered : moment.answered ≡ length start.answers + length turns
  pub written : (n : ℕ) × (moment.output ≡ start.output ++ take n line)
  pub recovers : Recovers names (recoverable (after_turns (opened document) turns)) moment.folder

-- A moment after that, while the swap files are removed: the line is whole.
pub record IsAtRemoval (names : Names) (start : Scene) (document : Document) (turns : List Turn) (line : List ℕ) (moment : Snapshot) : Type 0 where
  pub answered : moment.answered ≡ length start.answers + length turns
  pub written : moment.output ≡ start.output ++ line
  pub recovers : RecoversOrNone names (recoverable (after_turns (opened document) turns)) moment.folder

-- At a moment before the line no name but those of the pair has changed, and recovery gives what it may.
pub record IsBeforeLine (names : Names) (start : Scene) (document : Document) (turns : List Turn) (moment : Snapshot) : Type 0 where
  pub spared : SameAt (is_foreign names) start.folder moment.folder
  pub recovers : IsAtOpening names start document moment ⊎ IsAtCommand names start document turns moment

-- And so at any moment.
pub record IsStressMoment (names : Names) (start : Scene) (document : Document) (turns : List Turn) (line : List ℕ) (moment : Snapshot) : Type 0 where
  pub spared : SameAt (is_foreign names) start.folder moment.folder
  pub recovers : IsAtOpening names start document moment ⊎ IsAtCommand names start document turns moment ⊎ IsAtLine names start document turns line moment
      ⊎ IsAtRemoval names start document turns line moment

-- So it is at each moment from one scene to another, for the commands and the line that follows them.
pub record IsStressSafe (names : Names) (start now : Scene) (document : Document) (turns : List Turn) (line : List ℕ) : Type 0 where
  pub moments : List Snapshot
  pub added : now.trace ≡ moments ++ start.trace
  pub safe : Each (IsStressMoment names start document turns line) moments
  pub spared : SameAt (is_foreign names) start.folder now.folder
