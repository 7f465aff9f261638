-- Which calls of a run failed, from when on a file that it writes or its backup is whole, what stays under the names under which files are
-- made before they take their own, and who may read what is made.
use Rattle.std.specs.Prelude.{◌≡◌, ◌≢◌, ◌≤◌, ◌+◌, ◌⊎◌, ℕ, List, [], ◌∷◌, ◌++◌, ⊤, length}
use Rattle.vs_host.specs.Disk.{Name}
use Rattle.vs_host.specs.Names.{names_of_file}
use Rattle.vs_host.specs.Trace.{Snapshot, Each}
use Rattle.vs_host.specs.World.{Scene}
use Rattle.vs_host.specs.declared.names.Names.{Names}
use Rattle.vs_disk.specs.Runs.{FailsLast}
use Rattle.vs_pair.specs.Steps.{BothMoved}
use Rattle.vs_safety.specs.Stretches.{IsFirst}
use Rattle.vs_safety.specs.Turns.{NotBegun}
use Rattle.vs_safety.specs.Writes.{state_in, state_now}
use Rattle.vs_session.specs.Session.{SessionState}
use Rattle.vs_session.specs.Opened.{Opened}
use Rattle.vs_session.specs.Failures.{FailsOnce}
use Rattle.vs_session.specs.Wholeness.{StaysWhole}
use Rattle.vs_session.specs.Made.{ClearsMade, IsLeftBy, LeavesNoneBut, LeavesNoneMade}
use Rattle.vs_session.specs.Modes.{KeepsMode, KeepsReaders}
use Rattle.vs_top.specs.History.{CommandRun, Past, state_of, written}
use Rattle.vs_top.specs.Readers.{MakesOwn, MakesReadable}
use Rattle.vs_top.specs.Run.{Did, closing_line}

-- ---- places in the trace

-- At each call since the output had n bytes for the first time, and now, the folder and the count of its calls that failed are as they
-- were then: at most the script was read.
pub record StillSince (n : ℕ) (start now : Scene) : Type 0 where
  pub moments : List Snapshot
  pub added : now.trace ≡ moments ++ start.trace
  pub first : Snapshot
  pub begins : IsFirst n moments first
  pub still : Each (λ m. state_in m ≡ state_in first) begins.newer
  pub state : state_now now ≡ state_in first

-- The next call left the folder and its count, and after it the output has n bytes.
pub record IsWrittenNext (n : ℕ) (ended now : Scene) : Type 0 where
  pub write : Snapshot
  pub later : List Snapshot
  pub is : now.trace ≡ later ++ write ∷ ended.trace
  pub reached : n ≤ length write.output
  pub state : state_in write ≡ state_now ended

-- At most one call came after, which left the folder and its count.
pub record IsNearEnd (ended now : Scene) : Type 0 where
  pub last : List Snapshot
  pub one : length last ≤ 1
  pub is : now.trace ≡ last ++ ended.trace
  pub each : Each (λ m. state_in m ≡ state_now ended) last
  pub state : state_now now ≡ state_now ended

-- the next call brought the output to n bytes, or was the last one of the run
abbrev pub IsFollowed : ℕ → Scene → Scene → Type 0
IsFollowed n ended now = IsWrittenNext n ended now ⊎ IsNearEnd ended now

-- P holds of all calls on the folder between two replies: from where the output had the one number of bytes to where it had the other,
-- or the run ended.
pub record HasBetween (P : Scene → Scene → Type 0) (from to : ℕ) (start now : Scene) : Type 0 where
  pub asked : Scene
  pub ended : Scene
  pub begins : StillSince from start asked
  pub holds : P asked ended
  pub ends : IsFollowed to ended now

-- ---- the calls of a run

-- The file was opened. No call failed, no file stays under a name under which one was made, also none of an earlier run under those for the
-- swap files, and each file that was made is for its owner alone.
pub record OpensClean (names : Names) (start opened : Scene) : Type 0 where
  pub last : FailsLast start opened
  pub none : opened.folder_faults ≡ start.folder_faults
  pub cleared : LeavesNoneMade start.folder opened.folder
  pub moved : BothMoved names opened.folder
  pub readers : MakesOwn start opened

-- So it was, and then the opening reply was written, to n bytes of output.
pub record HasOpening (names : Names) (n : ℕ) (start now : Scene) : Type 0 where
  pub opened : Scene
  pub clean : OpensClean names start opened
  pub ends : IsFollowed n opened now

-- The calls of a command over the folder that it found: which of them failed, from when on the file that it writes or its backup is whole,
-- what it leaves under the names under which files are made, which modes these have, and that a written file keeps its own.
pub record StepCalls (names : Names) (state : SessionState) (command : CommandRun) (old new : Scene) : Type 0 where
  pub found : command.ended.found ≡ old.folder
  pub fails : FailsOnce names state command.instruction command.ended old new
  pub whole : StaysWhole names state command.instruction command.ended old new
  pub cleared : ClearsMade names state command.instruction command.ended old new
  pub readers : KeepsReaders names.file command.instruction old new
  pub mode : KeepsMode names.file state command.instruction command.ended old new

-- Of the calls of the last sync or the removal none failed but the last one, and each file that was made is for its owner alone.
pub record ClosingCalls (old new : Scene) : Type 0 where
  pub fails : FailsLast old new
  pub readers : MakesOwn old new

-- how long the output is where the replies to these commands are whole in it
abbrev pub long_at : Opened → Scene → Past → ℕ
long_at file start past = length start.output + length (written file past)

-- So it is of the calls of each command, between the reply before and its own.
abbrev pub EachCommand : Opened → Scene → Scene → Past → Type 0
EachCommand file start now [] = ⊤
EachCommand file start now (last ∷ past) =
    HasBetween (StepCalls (names_of_file file.name) (state_of file.state past) last) (long_at file start past) (long_at file start (last ∷ past)) start now
    × EachCommand file start now past

-- some command of these may have left a file under this name
abbrev pub SomeLeft : Opened → Past → Name → Type 0
SomeLeft file [] name = ⊥
SomeLeft file (last ∷ past) name =
    IsLeftBy last.ended.mark.outcome (names_of_file file.name) (state_of file.state past) last.instruction last.ended.found name
    ⊎ SomeLeft file past name

-- At each moment at which the output has n bytes, and now if it has, no image has a file under a name under which a swap file is made.
pub record MovedSince (names : Names) (n : ℕ) (start now : Scene) : Type 0 where
  pub moments : List Snapshot
  pub added : now.trace ≡ moments ++ start.trace
  pub each : Each (λ m. n ≤ length m.output → BothMoved names m.folder) moments
  pub here : n ≤ length now.output → BothMoved names now.folder

-- Of the opening no call failed, where its reply was written; of each command as its mark says; and of the last sync or the removal
-- none but the last one. From the opening reply on, at each moment, no file stands under a name under which a swap file is made; and in the
-- end none under another name under which files are made that had none at the start, unless a command left it. At each moment each file that
-- was made is for its owner alone, or has a mode of the file, where that was there for each command that writes files.
pub record CallsAsMarked (file : Opened) (old new : Scene) (did : Did) : Type 0 where
  pub opening : long_at file old [] ≤ length new.output → HasOpening (names_of_file file.name) (long_at file old []) old new
  pub commands : EachCommand file old new did.past
  pub closing : did.closing ≢ NotBegun
      → HasBetween ClosingCalls (long_at file old did.past) (long_at file old did.past + length (closing_line did.closing)) old new
  pub cleared : long_at file old [] ≤ length new.output → LeavesNoneBut (SomeLeft file did.past) old.folder new.folder
  pub moved : MovedSince (names_of_file file.name) (long_at file old []) old new
  pub readers : MakesReadable file.name did.past old new

-- What is known between two commands, however the trace goes on.
pub record CallsSoFar (file : Opened) (start now : Scene) (past : Past) : Type 0 where
  pub still : StillSince (long_at file start past) start now
  pub opening : (new : Scene) (newer : List Snapshot) → new.trace ≡ newer ++ now.trace → HasOpening (names_of_file file.name) (long_at file start []) start new
  pub commands : (new : Scene) (newer : List Snapshot) → new.trace ≡ newer ++ now.trace → EachCommand file start new past
  pub cleared : LeavesNoneBut (SomeLeft file past) start.folder now.folder
  pub moved : MovedSince (names_of_file file.name) (long_at file start []) start now
  pub here : BothMoved (names_of_file file.name) now.folder
  pub readers : MakesReadable file.name past start now
