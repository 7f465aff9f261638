use Rattle.std.proofs.Common.{◌+◌, ◌-◌, ◌<◌, ◌≤◌, ℕ, IsTrue}
use Rattle.vs_pages.specs.Cells.{is_away}
use Rattle.vs_pages.specs.Memory.{kept_of}
use Rattle.vs_pair.proofs.pair.SwapPair.absent_run.Given as goal

abbrev pub invariant-pages : goal.invariant-pages
invariant-pages l = record {
  least : 1 ≤ l.pages;
  most : l.pages ≤ 16;
  away : (i : ℕ) → i < l.pages → IsTrue (is_away (kept_of l.self.pages (l.at + i)));
}

abbrev pub decreases-pages : goal.decreases-pages
decreases-pages l = 16 - l.pages
