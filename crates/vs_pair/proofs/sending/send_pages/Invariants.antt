use Rattle.std.proofs.Common.{◌≡◌}
use Rattle.vs_pages.specs.Maps.{Map}
use Rattle.vs_pages.specs.Memory.{commits_of, AreBacked}
use Rattle.vs_pair.specs.Held.{HasAll, SameSeen}
use Rattle.vs_pair.specs.Cached.{IsCacheOf, was_away}
use Rattle.vs_pair.proofs.sending.send_pages.Given as goal

abbrev pub invariant-pages : goal.invariant-pages
invariant-pages l = record {
  same : (away : Map) → AreBacked away l.initial.pages → HasAll away l.initial.pages → SameSeen away l.initial.pages l.pages;
  cached : (away : Map) → AreBacked away l.initial.pages → HasAll away l.initial.pages → IsCacheOf (was_away l.initial.pages) away l.initial.cache → IsCacheOf (was_away l.pages) away l.cache;
  commits : commits_of l.pages ≡ commits_of l.initial.pages;
}

abbrev pub decreases-pages : goal.decreases-pages
decreases-pages l = l.left
