-- The trace: a snapshot of the outside at the start and after each call, the newest first.
use Rattle.std.specs.Prelude.{◌≡◌, ℕ, ◌+◌, max, Bool, false, List, [], ◌∷◌, ◌++◌, if◌then◌else◌}
use Rattle.std.specs.Str.{bytes_eq}
use Rattle.vs_host.specs.Disk.{Disk, Name}

-- what a call did, or that there was none yet
pub data Kind : Type 0 where
  Began : Kind
  ReadScript : Kind
  WroteOutput : Kind
  Looked : Kind
  Created : Kind
  Measured : Kind
  Read : Kind
  Wrote : Kind
  Cut : Kind
  Synced : Kind
  Renamed : Kind
  Removed : Kind
  SyncedNames : Kind

-- the outside after a call of this kind on these names; `answered` is the number of the clock's answers so far
pub record Snapshot : Type 0 where
  pub folder : Disk
  pub output : List ℕ
  pub script_faults : ℕ
  pub out_faults : ℕ
  pub folder_faults : ℕ
  pub answered : ℕ
  pub kind : Kind
  pub names : List Name

-- whether these are a write on this name
abbrev pub is_write_on : Name → Kind → List Name → Bool
is_write_on name Wrote (other ∷ []) = bytes_eq other name
is_write_on name kind names = false

-- how many calls of `write_at` the trace has on this name
abbrev pub writes_in : List Snapshot → Name → ℕ
writes_in [] name = 0
writes_in (snapshot ∷ trace) name = if is_write_on name snapshot.kind snapshot.names then writes_in trace name + 1 else writes_in trace name

-- the greatest count of the folder's faults in these snapshots
abbrev pub most_faults : List Snapshot → ℕ
most_faults [] = 0
most_faults (snapshot ∷ trace) = max snapshot.folder_faults (most_faults trace)

-- each element has P
abbrev pub Each : {X : Type 0} → (X → Type 0) → List X → Type 0
Each P [] = Unit {0}
Each P (x ∷ xs) = P x × Each P xs

-- The trace goes on by snapshots that have P each.
pub record GoesOn (P : Snapshot → Type 0) (old new : List Snapshot) : Type 0 where
  pub added : List Snapshot
  pub is : new ≡ added ++ old
  pub each : Each P added
