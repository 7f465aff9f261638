use Rattle.std.proofs.Common.{◌≡◌, ◌+◌, ◌≤◌, ◌++◌, ℕ, List, Some, IsTrue, length}
use Rattle.vs_backup.specs.declared.fill.TheConstants.{PIECE}
use Rattle.vs_host.specs.World.{content_of}
use Rattle.vs_disk.specs.Runs.{Runs}
use Rattle.vs_backup.specs.Desks.{GoesOn}
use Rattle.vs_backup.specs.Ends.{dos_ends}
use Rattle.vs_backup.specs.Works.{Fills}
use Rattle.vs_backup.proofs.fill.put_dos_lines.Given as goal

abbrev pub invariant-lines : goal.invariant-lines
invariant-lines g l = record {
  kept : GoesOn g.D.World.tells g.D.World.scene g.D.Desk.valid g.D.Desk.stays ⊥ l.fn.desk l.desk;
  few : length l.piece.items ≤ PIECE;
  size : l.now + (length l.piece.items + length (dos_ends l.rest)) ≡ l.size + (length l.fn.piece.items + length (dos_ends l.lines));
  runs : IsTrue g.D.World.tells.folder → Runs (Fills l.name) (g.D.World.scene l.fn.desk) (g.D.World.scene l.desk);
  there : IsTrue g.D.World.tells.folder → (before : List ℕ) × (after : List ℕ) × (content_of (g.D.World.scene l.fn.desk) l.name ≡ Some before)
      × (content_of (g.D.World.scene l.desk) l.name ≡ Some after) × (l.now ≡ length after)
      × (after ++ (l.piece.items ++ dos_ends l.rest) ≡ before ++ (l.fn.piece.items ++ dos_ends l.lines));
}

abbrev pub decreases-lines : goal.decreases-lines
decreases-lines g l = length l.rest
