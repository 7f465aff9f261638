-- The count of the folder's faults at the moments of a call that only looks, and before the last call on the host.
use Rattle.std.specs.Prelude.{◌≡◌, ◌≤◌, ℕ, List, [], ◌∷◌, if◌then◌else◌}
use Rattle.vs_host.specs.Trace.{Snapshot, GoesOn, most_faults}
use Rattle.vs_host.specs.World.{Tells, Scene}

-- The other counts are as at the start, and that of the folder's faults is not below the one at the start or above the one at the end.
pub record HasCounts (old new : Scene) (snapshot : Snapshot) : Type 0 where
  pub script : snapshot.script_faults ≡ old.script_faults
  pub out : snapshot.out_faults ≡ old.out_faults
  pub least : old.folder_faults ≤ snapshot.folder_faults
  pub most : snapshot.folder_faults ≤ new.folder_faults

-- The count of the folder's faults did not fall, and it was between that at the start and that now at each moment.
pub record NeverFalls (old new : Scene) : Type 0 where
  pub later : old.folder_faults ≤ new.folder_faults
  pub moments : GoesOn (HasCounts old new) old.trace new.trace

-- the greatest count of the folder's faults in all of these snapshots but the newest
abbrev pub faults_before : List Snapshot → ℕ
faults_before [] = 0
faults_before (m ∷ ms) = most_faults ms

-- how many calls on the folder had failed before the last one, where the trace is told, and else 0
abbrev pub earlier_faults : Tells → Scene → ℕ
earlier_faults tells scene = if tells.folder then faults_before scene.trace else 0
