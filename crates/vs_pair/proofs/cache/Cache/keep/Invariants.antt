use Rattle.std.proofs.Common.{◌≡◌, ◌+◌, ◌<◌, ℕ, Bool}
use Rattle.vs_pages.specs.Maps.{Map}
use Rattle.vs_swap.specs.Files.{page_in}
use Rattle.vs_pair.specs.Cached.{IsCacheOf}
use Rattle.vs_pair.proofs.cache.Cache.keep.Given as goal

abbrev pub invariant-loop-i : goal.invariant-loop-i
invariant-loop-i l = record {
  kept : (on : ℕ → Bool) (map : Map) → IsCacheOf on map l.initial.self → ((i : ℕ) → i < l.pages → map (l.at + i) ≡ page_in l.initial.self.room.items i) → IsCacheOf on map l.self;
  room : l.self.room ≡ l.initial.self.room;
}
