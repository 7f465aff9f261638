use Rattle.std.proofs.Common.{◌≡◌, ◌≤◌, IsTrue, map}
use Rattle.vs_disk.specs.Runs.{Looks}
use Rattle.vs_backup.specs.Backups.{candidates, first_free, lettered, letters}
use Rattle.vs_backup.specs.Desks.{OnlyReads}
use Rattle.vs_backup.proofs.choose.first_free.Given as goal

abbrev pub invariant-letters : goal.invariant-letters
invariant-letters g l = record {
  kept : OnlyReads g.D.World.tells g.D.World.scene g.D.Desk.valid g.D.Desk.stays ⊥ l.fn.desk l.desk;
  within : l.left ≤ 26;
  looks : IsTrue g.D.World.tells.folder → Looks (g.D.World.scene l.fn.desk) (g.D.World.scene l.desk);
  rest : IsTrue g.D.World.tells.folder → first_free (g.D.World.scene l.fn.desk).folder (candidates l.name) ≡ first_free (g.D.World.scene l.fn.desk).folder (map (lettered l.name) (letters l.left));
}

abbrev pub decreases-letters : goal.decreases-letters
decreases-letters g l = l.left
