use Rattle.std.proofs.Common.{◌≡◌, ◌<◌, ◌≤◌, ◌+◌, ◌-◌, length, max, true, IsTrue}
use Rattle.vs_host.specs.Disk.{ChangesFile}
use Rattle.vs_disk.specs.Runs.{NoneFails}
use Rattle.vs_pair.specs.Acts.{Acts, WorksAtMost}
use Rattle.vs_pages.specs.Memory.{commits_of}
use Rattle.vs_pair.specs.Held.{held_from}
use Rattle.vs_pair.specs.Stale.{SparesFresh, is_stale, stale_below}
use Rattle.vs_pair.specs.Swap.{KeepsMark}
use Rattle.vs_pair.proofs.PageWrites.{SoFar}
use Rattle.vs_pair.proofs.writing.write_pages.Given as goal

abbrev pub invariant-runs : goal.invariant-runs
invariant-runs g l = record {
  some : 1 ≤ l.at;
  within : l.at ≤ max 1 l.end;
  works : WorksAtMost g.F.World.tells (g.F.World.scene l.fn.host) (g.F.World.scene l.host) (1 + stale_below (commits_of l.pages) l.written l.at) (stale_below (commits_of l.pages) l.written l.at);
  size : length l.run ≡ 65536;
  stale : l.at < l.end → is_stale (commits_of l.pages) l.written l.at ≡ true;
  acts : Acts g.F.World.tells (ChangesFile l.name KeepsMark) (g.F.World.scene l.fn.host) (g.F.World.scene l.host);
  spared : Acts g.F.World.tells (ChangesFile l.name (SparesFresh (commits_of l.pages) l.written)) (g.F.World.scene l.fn.host) (g.F.World.scene l.host);
  none : NoneFails g.F.World.tells (g.F.World.scene l.fn.host) (g.F.World.scene l.host);
  so_far : IsTrue g.F.World.tells.folder → ChangesFile l.name (SoFar l.first (held_from l.pages (g.F.World.scene l.fn.host).folder l.from) l.written l.at) (g.F.World.scene l.fn.host).folder (g.F.World.scene l.host).folder;
}

abbrev pub decreases-runs : goal.decreases-runs
decreases-runs g l = l.end - l.at
