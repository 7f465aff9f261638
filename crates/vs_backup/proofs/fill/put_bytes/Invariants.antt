use Rattle.std.proofs.Common.{◌≡◌, ◌+◌, ◌≤◌, ◌++◌, ℕ, List, Some, IsTrue, length}
use Rattle.vs_backup.specs.declared.fill.TheConstants.{PIECE}
use Rattle.vs_host.specs.World.{content_of}
use Rattle.vs_disk.specs.Runs.{Runs}
use Rattle.vs_backup.specs.Desks.{GoesOn}
use Rattle.vs_backup.specs.Works.{Fills}
use Rattle.vs_backup.proofs.fill.put_bytes.Given as goal

abbrev pub invariant-pieces : goal.invariant-pieces
invariant-pieces g l = record {
  kept : GoesOn g.D.World.tells g.D.World.scene g.D.Desk.valid g.D.Desk.stays ⊥ l.fn.desk l.desk;
  few : length l.piece.items ≤ PIECE;
  size : l.now + (length l.piece.items + length l.rest) ≡ l.size + (length l.fn.piece.items + length l.bytes);
  runs : IsTrue g.D.World.tells.folder → Runs (Fills l.name) (g.D.World.scene l.fn.desk) (g.D.World.scene l.desk);
  there : IsTrue g.D.World.tells.folder → (before : List ℕ) × (after : List ℕ) × (content_of (g.D.World.scene l.fn.desk) l.name ≡ Some before)
      × (content_of (g.D.World.scene l.desk) l.name ≡ Some after) × (l.now ≡ length after) × (after ++ (l.piece.items ++ l.rest) ≡ before ++ (l.fn.piece.items ++ l.bytes));
}

abbrev pub decreases-pieces : goal.decreases-pieces
decreases-pieces g l = length l.rest + length l.piece.items
