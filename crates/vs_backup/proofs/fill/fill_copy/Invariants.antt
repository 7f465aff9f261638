use Rattle.std.proofs.Common.{◌≡◌, ◌-◌, ◌≤◌, ℕ, List, Some, IsTrue, length, take}
use Rattle.vs_host.specs.World.{content_of}
use Rattle.vs_disk.specs.Runs.{Runs}
use Rattle.vs_backup.specs.Desks.{GoesOn}
use Rattle.vs_backup.specs.Works.{Fills, IsAlone}
use Rattle.vs_backup.proofs.fill.fill_copy.Given as goal

abbrev pub invariant-pieces : goal.invariant-pieces
invariant-pieces g l = record {
  kept : GoesOn g.D.World.tells g.D.World.scene g.D.Desk.valid g.D.Desk.stays ⊥ l.fn.desk l.desk;
  within : l.at ≤ l.size;
  runs : IsTrue g.D.World.tells.folder → Runs (Fills l.to) (g.D.World.scene l.fn.desk) (g.D.World.scene l.desk);
  alone : IsTrue g.D.World.tells.folder → IsAlone l.to (g.D.World.scene l.desk).folder;
  from : IsTrue g.D.World.tells.folder → content_of (g.D.World.scene l.desk) l.from ≡ content_of (g.D.World.scene l.fn.desk) l.from;
  copied : IsTrue g.D.World.tells.folder → (bytes : List ℕ) × (content_of (g.D.World.scene l.fn.desk) l.from ≡ Some bytes) × (l.size ≡ length bytes)
      × (content_of (g.D.World.scene l.desk) l.to ≡ Some (take l.at bytes));
}

abbrev pub decreases-pieces : goal.decreases-pieces
decreases-pieces g l = l.size - l.at
