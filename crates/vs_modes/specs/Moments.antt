-- What a call on a host does at each of its moments.
use Rattle.std.specs.Prelude.{◌≡◌, ◌≤◌, ◌++◌, List, length}
use Rattle.vs_host.specs.Disk.{Disk}
use Rattle.vs_host.specs.Trace.{Each, GoesOn, Snapshot}
use Rattle.vs_host.specs.World.{Scene}
use Rattle.vs_disk.specs.Runs.{FailsLast}

-- The step leads from the folder at the start to that of each snapshot since, and to that now. No call on the host but the
-- last one failed.
pub record Proceeds (step : Disk → Disk → Type 0) (old new : Scene) : Type 0 where
  pub moments : GoesOn (λ snapshot. step old.folder snapshot.folder) old.trace new.trace
  pub now : step old.folder new.folder
  pub last : FailsLast old new

-- nothing in the folder changed
abbrev pub IsSame : Disk → Disk → Type 0
IsSame old new = new ≡ old

-- a call after which the output is as it was
abbrev pub IsUnwritten : Scene → Snapshot → Type 0
IsUnwritten start snapshot = snapshot.output ≡ start.output

-- What is written, the last call writes: before it the output is as it was.
pub record WritesLast (old new : Scene) : Type 0 where
  pub last : List Snapshot
  pub earlier : List Snapshot
  pub one : length last ≤ 1
  pub is : new.trace ≡ last ++ (earlier ++ old.trace)
  pub unwritten : Each (IsUnwritten old) earlier
