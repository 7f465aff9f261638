-- The promise of a run, and what each of its steps owes to it. Beside the names of its pair it speaks of these other names; for a run
-- that is alone in its folder they are all that are not of the pair.
use Rattle.std.specs.Prelude.{◌≡◌, ◌⊎◌, ℕ, ◌+◌, ◌<◌, ◌≤◌, Bool, true, List, [], ◌∷◌, ◌++◌, length, take, Option, None, IfSome}
use Rattle.vs_faults.specs.Faults.{HasRisen}
use Rattle.vs_host.specs.Disk.{Disk, Name}
use Rattle.vs_host.specs.Trace.{Kind, WroteOutput, Snapshot, Each, GoesOn}
use Rattle.vs_host.specs.World.{Scene, IsRecorded, LeavesTrace}
use Rattle.vs_host.specs.declared.names.Names.{Names}
use Rattle.vs_disk.specs.Names.{SameAt}
use Rattle.vs_disk.specs.Runs.{Inside}
use Rattle.vs_text.specs.Documents.{Document}
use Rattle.vs_pair.specs.Pair.{is_foreign}
use Rattle.vs_safety.specs.Texts.{Sync, recoverable, Recovers, RecoversOrNone, NoneLeft, IsFlag, IsBetween}
use Rattle.vs_safety.specs.Writes.{state_in, state_now}
use Rattle.vs_safety.specs.FileWork.{FileWork, KeepsAmong, IsWholeAt, HasLeft}
use Rattle.vs_safety.specs.Turns.{Turn, Ran, Quits, with_sync, with_begun, after_turns, with_next, opened, replies, IsSplit, all_turns, all_written, quit_line}
use Rattle.vs_safety.specs.Turns.{SparesOthers, KeepsUndo, next_of, next_write, IsWholeNext}
use Rattle.vs_safety.specs.Stretches.{IsFirst, EachTurn, HasStretch, KeepsSince, BeginsAsAtStart}

-- these bytes are the first of those
abbrev pub IsFirstPart : List ℕ → List ℕ → Type 0
IsFirstPart first whole = (rest : List ℕ) × (whole ≡ first ++ rest)

-- how long the output is where the opening reply is whole in it
abbrev pub opened_at : Scene → List ℕ → ℕ
opened_at start opening = length start.output + length opening

-- how long it is where the replies to all commands are whole in it too
abbrev pub answered_at : Scene → Ran → ℕ
answered_at start ran = opened_at start ran.opening + length (replies ran.turns)

-- The output has n bytes. Over the commands whose replies are whole in it, recovery gives the document of the last acknowledged
-- sync or of one that was begun after it, or of the one that the next command begins. All other names are spared but those on which
-- these commands or the next one write; and since the last of these replies was whole, all but those on which the next one writes, if
-- there is one. The file that the next one writes is whole, or its backup. The undo file is
-- that of the last command that stored one, or of one that began to after that.
pub record IsAllowed (others : Name → Bool) (names : Names) (start : Disk) (moments : List Snapshot) (document : Document) (turns : List Turn) (from n : ℕ)
    (folder : Disk) : Type 0 where
  pub first : List Turn
  pub rest : List Turn
  pub split : IsSplit from n turns first rest
  pub recovers : Recovers names (recoverable (with_next (after_turns (opened document) first) rest)) folder
  pub spared : SparesOthers others names (first ++ next_of rest) start folder
  pub keeps : KeepsSince others names moments (from + length (replies first)) (next_write rest) folder
  pub undo : KeepsUndo names start first rest folder
  pub whole : IsWholeNext names rest folder

-- A moment of these before an accepted quit has begun.
pub record IsKept (others : Name → Bool) (names : Names) (start : Scene) (moments : List Snapshot) (document : Document) (opening : List ℕ)
    (turns : List Turn) (moment : Snapshot) : Type 0 where
  -- before the opening reply is whole: neither swap file is there, or the document that was opened is recovered
  pub before : length moment.output < opened_at start opening → RecoversOrNone names (document ∷ []) moment.folder
  pub spared : length moment.output < opened_at start opening → SameAt others start.folder moment.folder
  -- and from then on, an allowed document
  pub running : opened_at start opening ≤ length moment.output →
      IsAllowed others names start.folder moments document turns (opened_at start opening) (length moment.output) moment.folder

-- A moment of these after an accepted quit has begun: all replies are whole.
pub record IsLeft (others : Name → Bool) (names : Names) (start : Scene) (moments : List Snapshot) (ran : Ran) (moment : Snapshot) : Type 0 where
  pub quits : ran.closing ≡ Quits
  pub whole : answered_at start ran ≤ length moment.output
  -- neither swap file is there, or an allowed document is recovered
  pub recovers : RecoversOrNone names (recoverable (after_turns (opened ran.document) ran.turns)) moment.folder
  -- and all other names stay
  pub spared : SparesOthers others names ran.turns start.folder moment.folder
  pub keeps : KeepsSince others names moments (answered_at start ran) None moment.folder
  pub undo : KeepsUndo names start.folder ran.turns [] moment.folder

-- What is promised of each moment: what recovery gives whatever a stop leaves, what a write leaves of the file and its backup, which
-- undo file stands, that no other name changes but, while a command that writes is under way, those on which it works,
-- and that after an accepted quit the swap files are gone before the last line begins.
pub record IsSafe (others : Name → Bool) (names : Names) (start now : Scene) (moments : List Snapshot) (ran : Ran) (moment : Snapshot) : Type 0 where
  pub output : IsFirstPart moment.output now.output
  pub kept : IsKept others names start moments ran.document ran.opening (all_turns ran) moment ⊎ IsLeft others names start moments ran moment
  pub gone : ran.closing ≡ Quits → answered_at start ran < length moment.output → NoneLeft names moment.folder

-- The promise, over a run from one scene to another: at each moment between them, and at both. An accepted quit writes this line.
pub record IsCrashSafeAmong (others : Name → Bool) (names : Names) (line : List ℕ) (start now : Scene) (ran : Ran) : Type 0 where
  pub moments : List Snapshot
  pub added : now.trace ≡ moments ++ start.trace
  pub at_start : RecoversOrNone names (ran.document ∷ []) start.folder
  pub opens : opened_at start ran.opening ≤ length now.output → BeginsAsAtStart others start.folder moments (opened_at start ran.opening)
  pub safe : Each (IsSafe others names start now moments ran) moments
  pub output : IsFirstPart now.output (start.output ++ all_written line ran)
  pub stretches : EachTurn (HasStretch others names moments now) (opened_at start ran.opening) (all_turns ran)

-- ---- what a run is made of

-- a call added its snapshot, or it changed nothing and added none
abbrev pub IsAdded : Kind → List Name → Scene → Scene → Type 0
IsAdded kind names old new = IsRecorded kind names old new ⊎ LeavesTrace old new

-- Calls that left folder and output.
pub record Looks (old new : Scene) : Type 0 where
  pub moments : GoesOn (λ m. (m.output ≡ old.output) × (m.folder ≡ old.folder)) old.trace new.trace
  pub output : new.output ≡ old.output
  pub folder : new.folder ≡ old.folder
  pub faults : new.folder_faults ≡ old.folder_faults

-- A write of the output that wrote the first n bytes of these.
pub record Writes (n : ℕ) (bytes : List ℕ) (old new : Scene) : Type 0 where
  pub output : new.output ≡ old.output ++ take n bytes
  pub folder : new.folder ≡ old.folder
  pub faults : new.folder_faults ≡ old.folder_faults
  pub added : IsAdded WroteOutput [] old new

-- A moment of writes of the output between two scenes: a part of what they wrote is there, and the folder is as it was.
pub record IsWriting (old new : Scene) (moment : Snapshot) : Type 0 where
  pub begun : IsFirstPart old.output moment.output
  pub output : IsFirstPart moment.output new.output
  pub state : state_in moment ≡ state_now old

-- Writes of the output, any number of them, that together wrote these bytes. Where there are bytes, some moment has them all.
pub record Wrote (bytes : List ℕ) (old new : Scene) : Type 0 where
  pub output : new.output ≡ old.output ++ bytes
  pub folder : new.folder ≡ old.folder
  pub faults : new.folder_faults ≡ old.folder_faults
  pub moments : GoesOn (IsWriting old new) old.trace new.trace
  pub whole : 0 < length bytes → (first : Snapshot) × IsFirst (length new.output) moments.added first

-- A folder of which P holds, and in which none of the other names changed but those on which a write works, where there is one.
pub record SparesAmong (others : Name → Bool) (names : Names) (write : Option FileWork) (P : Disk → Type 0) (old new : Disk) : Type 0 where
  pub folder : P new
  pub spared : KeepsAmong others names write old new

-- Work on the folder between two scenes: P holds of it at each moment. The output stays, and the clock is read before all else.
pub record WorksAmong (others : Name → Bool) (names : Names) (write : Option FileWork) (P : Disk → Type 0) (old new : Scene) : Type 0 where
  pub moments : GoesOn (Inside new (SparesAmong others names write P old.folder)) old.trace new.trace
  pub output : new.output ≡ old.output
  pub spared : KeepsAmong others names write old.folder new.folder

-- A folder from which what these syncs leave may be recovered, at a moment of a write, where there is one.
pub record IsUnderWay (names : Names) (syncs : List Sync) (write : Option FileWork) (folder : Disk) : Type 0 where
  pub recovers : Recovers names (recoverable syncs) folder
  pub whole : IfSome write (λ work. IsWholeAt names work folder)

-- One command, where these syncs were before it.
pub record SteppedAmong (others : Name → Bool) (names : Names) (syncs : List Sync) (turn : Turn) (old new : Scene) : Type 0 where
  pub found : IfSome turn.found (λ found. found ≡ old.folder)
  -- what was recoverable is recovered, or the document of the sync that the command begins
  pub works : WorksAmong others names turn.write (IsUnderWay names (with_begun turn.sync syncs) turn.write) old new
  pub wrote : IfSome turn.write (λ work. HasLeft names work turn.done turn.failed (state_now old) (state_now new))
  pub whole : IfSome turn.write (λ work. IsWholeAt names work new.folder)
  pub flag : IfSome turn.sync (λ sync. IsFlag names turn.done old.folder new.folder sync.acknowledged)
  pub cause : turn.failed ≡ true → HasRisen old.folder_faults new.folder_faults
  pub between : IsBetween names (with_sync turn.sync syncs) new.folder

-- ---- a run that is alone in its folder

-- its promise
abbrev pub IsCrashSafe : Names → Scene → Scene → Ran → Type 0
IsCrashSafe names = IsCrashSafeAmong (is_foreign names) names quit_line

-- P holds of a folder, in which no name changed but those of the pair and those on which a write works
abbrev pub Spares : Names → Option FileWork → (Disk → Type 0) → Disk → Disk → Type 0
Spares names = SparesAmong (is_foreign names) names

-- its work on the folder
abbrev pub Works : Names → Option FileWork → (Disk → Type 0) → Scene → Scene → Type 0
Works names = WorksAmong (is_foreign names) names

-- one of its commands
abbrev pub Stepped : Names → List Sync → Turn → Scene → Scene → Type 0
Stepped names = SteppedAmong (is_foreign names) names
