-- What a call does that is lent a folder, at each of its moments and at its end.
use Rattle.std.specs.Prelude.{◌≡◌, ◌≤◌, ◌+◌, ℕ, List, ◌++◌, length, IsTrue}
use Rattle.vs_host.specs.Disk.{Disk}
use Rattle.vs_host.specs.Trace.{Snapshot, Each, GoesOn}
use Rattle.vs_host.specs.World.{Tells, Scene}

-- A snapshot of a call that works on the folder alone: output, clock and the other counts are as when it began, and the
-- folder has P.
pub record Inside (start : Scene) (P : Disk → Type 0) (snapshot : Snapshot) : Type 0 where
  pub output : snapshot.output ≡ start.output
  pub answered : snapshot.answered ≡ length start.answers
  pub script_faults : snapshot.script_faults ≡ start.script_faults
  pub out_faults : snapshot.out_faults ≡ start.out_faults
  pub folder : P snapshot.folder

-- The step leads from the folder at the start to that of each snapshot since, and to that now.
pub record Runs (step : Disk → Disk → Type 0) (old new : Scene) : Type 0 where
  pub moments : GoesOn (Inside old (step old.folder)) old.trace new.trace
  pub now : step old.folder new.folder

-- The folder was only looked at.
abbrev pub Looks : Scene → Scene → Type 0
Looks old new = Runs (λ before after. after ≡ before) old new

-- no count is above that of the scene
pub record HasNoFault (start : Scene) (snapshot : Snapshot) : Type 0 where
  pub script : snapshot.script_faults ≡ start.script_faults
  pub out : snapshot.out_faults ≡ start.out_faults
  pub folder : snapshot.folder_faults ≡ start.folder_faults

-- No call but the last one failed since the scene: each snapshot but the newest has the counts of the scene.
pub record FailsLast (old new : Scene) : Type 0 where
  pub last : List Snapshot
  pub earlier : List Snapshot
  pub one : length last ≤ 1
  pub is : new.trace ≡ last ++ (earlier ++ old.trace)
  pub quiet : Each (HasNoFault old) earlier

-- No call failed since the scene: all snapshots since then have its counts, and so has the scene now.
pub record Quiet (old new : Scene) : Type 0 where
  pub moments : GoesOn (HasNoFault old) old.trace new.trace
  pub script : new.script_faults ≡ old.script_faults
  pub out : new.out_faults ≡ old.out_faults
  pub folder : new.folder_faults ≡ old.folder_faults

-- No call on the folder failed, and where it is told, no call on the host.
pub record NoneFails (tells : Tells) (old new : Scene) : Type 0 where
  pub faults : new.folder_faults ≡ old.folder_faults
  pub quiet : IsTrue tells.folder → Quiet old new

-- Where the folder is told, at most so many calls were made on the host.
pub record CallsAtMost (tells : Tells) (old new : Scene) (most : ℕ) : Type 0 where
  pub calls : IsTrue tells.folder → length new.trace ≤ length old.trace + most
