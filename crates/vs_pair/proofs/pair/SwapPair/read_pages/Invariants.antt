use Rattle.std.proofs.Common.{◌≡◌, ◌+◌, ◌-◌, ◌*◌, length, Some, IsTrue}
use Rattle.vs_disk.specs.Runs.{NoneFails}
use Rattle.vs_pages.specs.Maps.{joined, pages_at}
use Rattle.vs_pair.specs.Acts.{OnlyRead}
use Rattle.vs_pair.specs.Cached.{IsCacheOf, was_away}
use Rattle.vs_pair.specs.Pair.{away_of, shown_in}
use Rattle.vs_pair.proofs.pair.SwapPair.read_pages.Given as goal

abbrev pub invariant-loop-i : goal.invariant-loop-i
invariant-loop-i g l = record {
  size : length l.into.items ≡ 4096 * l.i;
  loaded : IsTrue g.F.World.tells.folder → joined (Some l.into.items) (pages_at (shown_in l.fn.self (g.F.World.scene l.fn.host).folder).present (l.at + l.i) (l.pages - l.i)) ≡ pages_at (shown_in l.fn.self (g.F.World.scene l.fn.host).folder).present l.at l.pages;
  pages : l.self.pages ≡ l.fn.self.pages;
  files : l.self.files ≡ l.fn.self.files;
  cached : IsTrue g.F.World.tells.folder → IsCacheOf (was_away l.fn.self.pages) (away_of l.fn.self.files (g.F.World.scene l.fn.host).folder) l.self.cache;
  reads : OnlyRead g.F.World.tells ⊥ (g.F.World.scene l.fn.host) (g.F.World.scene l.host) l.i;
  none : NoneFails g.F.World.tells (g.F.World.scene l.fn.host) (g.F.World.scene l.host);
}
