-- The stretch of each command in the trace of a run, and what is known of the folder at its two ends.
use Rattle.std.specs.Prelude.{◌≡◌, ◌⊎◌, ℕ, ◌+◌, ◌<◌, ◌≤◌, Bool, true, List, [], ◌∷◌, ◌++◌, length, Option, IfSome}
use Rattle.vs_faults.specs.Faults.{HasRisen}
use Rattle.vs_host.specs.Disk.{Disk, Name}
use Rattle.vs_host.specs.Trace.{Snapshot, Each}
use Rattle.vs_host.specs.World.{Scene}
use Rattle.vs_host.specs.declared.names.Names.{Names}
use Rattle.vs_disk.specs.Names.{SameAt}
use Rattle.vs_safety.specs.Texts.{IsFlag}
use Rattle.vs_safety.specs.Turns.{Turn}
use Rattle.vs_safety.specs.Writes.{State, state_in, state_now}
use Rattle.vs_safety.specs.FileWork.{FileWork, KeepsAmong, HasLeft}

-- The output has fewer bytes than this.
abbrev pub IsShorter : ℕ → Snapshot → Type 0
IsShorter n snapshot = length snapshot.output < n

-- This is the first of the snapshots, the newest of which comes first, at which the output has n bytes.
pub record IsFirst (n : ℕ) (moments : List Snapshot) (first : Snapshot) : Type 0 where
  pub newer : List Snapshot
  pub older : List Snapshot
  pub is : moments ≡ newer ++ first ∷ older
  pub reached : n ≤ length first.output
  pub not_before : Each (IsShorter n) older

-- the folder at the first snapshot with n bytes of output, or where there is none, at the end of the run
abbrev pub IsEnd : ℕ → List Snapshot → Scene → State → Type 0
IsEnd n moments now state = ((last : Snapshot) × IsFirst n moments last × (state ≡ state_in last)) ⊎ (Each (IsShorter n) moments × (state ≡ state_now now))

-- Since the first snapshot with n bytes of output none of these other names has changed but those on which this write works, where there
-- is one.
pub record KeepsSince (others : Name → Bool) (names : Names) (moments : List Snapshot) (n : ℕ) (write : Option FileWork) (folder : Disk) : Type 0 where
  pub since : Snapshot
  pub begins : IsFirst n moments since
  pub keeps : KeepsAmong others names write since.folder folder

-- At the first snapshot with n bytes of output these other names are as at the start.
pub record BeginsAsAtStart (others : Name → Bool) (start : Disk) (moments : List Snapshot) (n : ℕ) : Type 0 where
  pub first : Snapshot
  pub begins : IsFirst n moments first
  pub same : SameAt others start first.folder

-- The stretch of a command: it begins where the replies before it were whole, and ends where its own was. It found the folder as it
-- was when it began. Its sync is acknowledged as the folder has it at both ends, its write left what a write leaves, and all names on
-- which it does not work as they were; and a failed call that is answered happened in it.
pub record HasStretch (others : Name → Bool) (names : Names) (moments : List Snapshot) (now : Scene) (from to : ℕ) (turn : Turn) : Type 0 where
  pub first : Snapshot
  pub last : State
  pub begins : IsFirst from moments first
  pub ends : IsEnd to moments now last
  pub found : IfSome turn.found (λ found. found ≡ first.folder)
  pub flag : IfSome turn.sync (λ sync. IsFlag names turn.done first.folder last.folder sync.acknowledged)
  pub wrote : IfSome turn.write (λ work. HasLeft names work turn.done turn.failed (state_in first) last)
  pub keeps : KeepsAmong others names turn.write first.folder last.folder
  pub cause : turn.failed ≡ true → HasRisen first.folder_faults last.faults

-- P holds of each command, of how long the output was before its reply, and with it
abbrev pub EachTurn : (ℕ → ℕ → Turn → Type 0) → ℕ → List Turn → Type 0
EachTurn P from [] = Unit {0}
EachTurn P from (turn ∷ turns) = P from (from + length turn.reply) turn × EachTurn P (from + length turn.reply) turns
