-- That the last call of a run is the one that failed.
use Rattle.std.specs.Prelude.{◌≡◌, ℕ, ◌≤◌, List, [], ◌∷◌, ◌++◌, length}
use Rattle.vs_faults.specs.Faults.{HasRisen}
use Rattle.vs_host.specs.Trace.{Snapshot}
use Rattle.vs_host.specs.World.{Scene}

-- One of the three counts of failed calls, in a snapshot and in a scene.
pub record Count : Type 0 where
  pub at : Snapshot → ℕ
  pub now : Scene → ℕ

-- the count of the failed reads of the script
abbrev pub script_count : Count
script_count = record { at = λ m. m.script_faults; now = λ s. s.script_faults }

-- the count of the failed writes of the output
abbrev pub output_count : Count
output_count = record { at = λ m. m.out_faults; now = λ s. s.out_faults }

-- the count of the failed calls on the folder
abbrev pub folder_count : Count
folder_count = record { at = λ m. m.folder_faults; now = λ s. s.folder_faults }

-- the count at the newest of these snapshots, and where there is none, as the run began
abbrev pub newest_count : Count → Scene → List Snapshot → ℕ
newest_count count start [] = count.now start
newest_count count start (newest ∷ older) = count.at newest

-- The newest snapshot has the count as it is.
pub record IsCounted (count : Count) (start now : Scene) : Type 0 where
  pub moments : List Snapshot
  pub added : now.trace ≡ moments ++ start.trace
  pub newest : newest_count count start moments ≡ count.now now

-- The count rose at the last call: it was lower at the newest snapshot but that of this call.
pub record RoseLast (count : Count) (start now : Scene) : Type 0 where
  pub last : List Snapshot
  pub earlier : List Snapshot
  pub one : length last ≤ 1
  pub is : now.trace ≡ last ++ (earlier ++ start.trace)
  pub rose : HasRisen (newest_count count start earlier) (count.now now)
