use Rattle.std.proofs.Common.{◌≡◌, ◌<◌, ◌≤◌, ◌-◌, ℕ, max, false}
use Rattle.vs_pages.specs.Memory.{commits_of}
use Rattle.vs_pair.specs.Stale.{is_stale}
use Rattle.vs_pair.proofs.stale.next_stale.Given as goal

abbrev pub invariant-numbers : goal.invariant-numbers
invariant-numbers l = record {
  later : l.from ≤ l.at;
  within : l.at ≤ max l.from l.end;
  passed : (k : ℕ) → l.from ≤ k → k < l.at → is_stale (commits_of l.pages) l.written k ≡ false;
}

abbrev pub decreases-numbers : goal.decreases-numbers
decreases-numbers l = l.end - l.at
