-- A sync leaves the pages as they were, wherever they are then.
use Rattle.std.proofs.Common.{◌≡◌, ◌≤◌, ◌∙◌, ℕ, List, Some, sym, subst, ap}
use Rattle.std.specs.Prelude.{[]}
use Rattle.vs_host.specs.Disk.{Disk}
use Rattle.vs_pages.specs.Maps.{Map, no_pages}
use Rattle.vs_pages.specs.Memory.{committed_under, first_kept_of, state_under, AreBacked}
use Rattle.vs_pages.specs.State.{PageState}
use Rattle.vs_pages.specs.declared.memory.MemPages.{MemPages}
use Rattle.vs_pages.proofs.CellLemmas.{shown_away}
use Rattle.vs_pair.specs.declared.cache.Cache.{Cache}
use Rattle.vs_pair.specs.declared.pair.SwapPair.{SwapPair}
use Rattle.vs_pair.specs.Cached.{IsCacheOf, was_away}
use Rattle.vs_pair.specs.Held.{HasAll, Held, SameSeen, held_with}
use Rattle.vs_pair.specs.Swap.{Synced}
use Rattle.vs_pair.specs.Pair.{IsFit, away_of, held_in, known_of, known_with, shown_in}
use Rattle.vs_pair.specs.Lent.{IsStored}
use Rattle.vs_pair.proofs.AwayLemmas.{fit_stands, none_backed, turned_all, turned_backed, turned_state}

abbrev with_pages : SwapPair → MemPages → Cache → SwapPair
with_pages pair pages cache = record pair { pages = pages; cache = cache }

held_seen : (a b : PageState) → a ≡ b → (let x : Held = record { committed = a.committed; commits = a.commits } in let y : Held = record { committed = b.committed; commits = b.commits } in x ≡ y)
held_seen a b same = ap (λ (s : PageState). let x : Held = record { committed = s.committed; commits = s.commits } in x) same

-- A page that was away before a sync stands in the file that was written as in the other one.
turned_cache : (away next : Map) (was : MemPages) (cache : Cache) → AreBacked away was → ((k : ℕ) (page : List ℕ) → 1 ≤ k → committed_under away was k ≡ Some page → next k ≡ Some page)
    → IsCacheOf (was_away was) away cache → IsCacheOf (was_away was) next cache
turned_cache away next was cache backed all cached k gone page is =
    let there : away k ≡ Some page.bytes.items = cached k gone page is in
    all k page.bytes.items (backed k gone).0 (shown_away (away k) (first_kept_of was k) gone ∙ there)

-- where no page is away, whatever a cache has
pub none_cached : (map : Map) (pages : MemPages) (cache : Cache) → AreBacked no_pages pages → IsCacheOf (was_away pages) map cache
none_cached map pages cache here k gone page is = absurd (none_backed k (here k gone).1)

-- after a sync that was acknowledged, and after the start
pub record Turned (after : SwapPair) (away : Map) (was : MemPages) (new : Disk) (sync : Synced) (past : List Synced) : Type 0 where
  pub fits : IsFit (known_of after new) new sync [] past
  pub stored : IsStored after new
  pub shown : shown_in after new ≡ state_under away was

pub after_turn : (away : Map) (was : MemPages) (mid : SwapPair) (pages : MemPages) (first cache : Cache) (new : Disk) (sync : Synced) (past : List Synced) → mid.pages ≡ was → AreBacked away was → sync.pages ≡ committed_under away was
    → IsFit (known_with mid.files (held_with away was)) new sync [] past
    → ((map : Map) → AreBacked map mid.pages → HasAll map mid.pages → SameSeen map mid.pages pages) → IsCacheOf (was_away was) away first
    → ((map : Map) → AreBacked map mid.pages → HasAll map mid.pages → IsCacheOf (was_away mid.pages) map first → IsCacheOf (was_away pages) map cache)
    → Turned (with_pages mid pages cache) away was new sync past
after_turn away was mid pages first cache new sync past same backed_was all_of fit sends cached caches =
    let next : Map = away_of mid.files new in
    let all : (k : ℕ) (page : List ℕ) → 1 ≤ k → committed_under away was k ≡ Some page → next k ≡ Some page =
    λ k page least is. fit_stands (known_with mid.files (held_with away was)) new sync [] past fit k page least (ap (λ (m : Map). m k) all_of ∙ is) in
    let backed : AreBacked next mid.pages = subst (λ (p : MemPages). AreBacked next p) (sym same) (turned_backed away next was backed_was all) in
    let has_all : HasAll next mid.pages = subst (λ (p : MemPages). HasAll next p) (sym same) (turned_all away next was backed_was all) in
    let sent : SameSeen next mid.pages pages = sends next backed has_all in
    let shown : state_under next pages ≡ state_under away was = sent.state ∙ (ap (λ (p : MemPages). state_under next p) same ∙ turned_state away next was backed_was all) in
    record {
      fits = subst (λ (held : Held). IsFit (known_with mid.files held) new sync [] past) (sym (held_seen (state_under next pages) (state_under away was) shown)) fit;
      stored = record { backed = sent.backed; cached = caches next backed has_all (subst (λ (p : MemPages). IsCacheOf (was_away p) next first) (sym same) (turned_cache away next was first backed_was all cached)) };
      shown = shown;
    }

-- after a sync that failed
pub record Unturned (before after : SwapPair) (old new : Disk) : Type 0 where
  pub fits : (newest : Synced) (begun past : List Synced) → IsFit (known_with after.files (held_in before old)) new newest begun past → IsFit (known_of after new) new newest begun past
  pub stored : IsStored before old → IsStored after new
  pub shown : shown_in after new ≡ shown_in before old

pub after_fault : (before after : SwapPair) (old new : Disk) → after.pages ≡ before.pages → after.cache ≡ before.cache → away_of after.files new ≡ away_of before.files old → Unturned before after old new
after_fault before after old new pages cache away =
    let held : held_in before old ≡ held_in after new = λ i. held_with (sym away i) (sym pages i) in
    record {
      fits = λ newest begun past fit. subst (λ (h : Held). IsFit (known_with after.files h) new newest begun past) held fit;
      stored = λ was. record {
        backed = subst (λ (p : MemPages). AreBacked (away_of after.files new) p) (sym pages) (subst (λ (m : Map). AreBacked m before.pages) (sym away) was.backed);
        cached = subst (λ (p : MemPages). IsCacheOf (was_away p) (away_of after.files new) after.cache) (sym pages)
            (subst (λ (c : Cache). IsCacheOf (was_away before.pages) (away_of after.files new) c) (sym cache) (subst (λ (m : Map). IsCacheOf (was_away before.pages) m before.cache) (sym away) was.cached));
      };
      shown = λ i. state_under (away i) (pages i);
    }
