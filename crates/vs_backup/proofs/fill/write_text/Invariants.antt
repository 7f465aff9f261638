use Rattle.std.proofs.Common.{◌≡◌, ◌+◌, ◌*◌, ◌-◌, ◌≤◌, ◌++◌, ℕ, List, Some, IsTrue, length, take}
use Rattle.vs_text.specs.Documents.{file_in}
use Rattle.vs_text.specs.declared.TheConstants.{MAX_LINE_BYTES}
use Rattle.vs_backup.specs.declared.fill.TheConstants.{PIECE}
use Rattle.vs_host.specs.World.{content_of}
use Rattle.vs_disk.specs.Runs.{Runs}
use Rattle.vs_backup.specs.Desks.{GoesOn}
use Rattle.vs_backup.specs.Works.{Fills}
use Rattle.vs_backup.proofs.fill.write_text.Given as goal

abbrev pub invariant-runs : goal.invariant-runs
invariant-runs g l = record {
  kept : GoesOn g.D.World.tells g.D.World.scene g.D.Desk.valid g.D.Desk.stays ⊥ l.fn.desk l.desk;
  few : length l.piece.items ≤ PIECE;
  within : l.at ≤ l.end;
  bound : l.size + length l.piece.items ≤ l.at * (2 * (MAX_LINE_BYTES + 1));
  runs : IsTrue g.D.World.tells.folder → Runs (Fills l.name) (g.D.World.scene l.fn.desk) (g.D.World.scene l.desk);
  there : IsTrue g.D.World.tells.folder → (bytes : List ℕ) × (content_of (g.D.World.scene l.desk) l.name ≡ Some bytes) × (l.size ≡ length bytes)
      × ((text : List (List ℕ)) → g.D.Desk.has_text l.fn.desk text → bytes ++ l.piece.items ≡ file_in l.format (take l.at text));
}

abbrev pub decreases-runs : goal.decreases-runs
decreases-runs g l = l.end - l.at
