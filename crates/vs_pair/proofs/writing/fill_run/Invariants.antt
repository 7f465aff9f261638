use Rattle.std.proofs.Common.{◌≡◌, length, IsTrue}
use Rattle.vs_disk.specs.Runs.{NoneFails}
use Rattle.vs_pair.specs.Acts.{OnlyRead}
use Rattle.vs_pair.specs.Held.{held_from}
use Rattle.vs_pair.specs.Writes.{HasRun}
use Rattle.vs_pair.proofs.writing.fill_run.Given as goal

abbrev pub invariant-loop-next : goal.invariant-loop-next
invariant-loop-next g l = record {
  size : length l.run ≡ length l.fn.run;
  pages : IsTrue g.F.World.tells.folder → HasRun (held_from l.pages (g.F.World.scene l.fn.host).folder l.from).committed l.at l.next l.run;
  reads : OnlyRead g.F.World.tells ⊥ (g.F.World.scene l.fn.host) (g.F.World.scene l.host) l.next;
  none : NoneFails g.F.World.tells (g.F.World.scene l.fn.host) (g.F.World.scene l.host);
}
