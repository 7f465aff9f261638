use Rattle.std.proofs.Common.{◌≡◌, ◌+◌, ◌<◌, ◌≤◌, ◌-◌, ℕ, true}
use Rattle.vs_pages.specs.Memory.{commits_of}
use Rattle.vs_pair.specs.Stale.{is_stale}
use Rattle.vs_pair.proofs.stale.stale_run.Given as goal

abbrev pub invariant-numbers : goal.invariant-numbers
invariant-numbers l = record {
  some : 1 ≤ l.count;
  most : l.count ≤ l.most;
  stale : (k : ℕ) → k < l.count → is_stale (commits_of l.pages) l.written (l.at + k) ≡ true;
}

abbrev pub decreases-numbers : goal.decreases-numbers
decreases-numbers l = l.most - l.count
