-- Laws of pages in memory: each page has its size and a number below the bound, and what was so since a commit stays so.
use Rattle.std.specs.Prelude.{◌≡◌, ℕ, ◌*◌, ◌^◌, ◌≤◌, false, List, length, Option, None, Some, IsSomeAnd, IsTrue, is_some, slice_index_or}
use Rattle.std.proofs.Common.{ap, arith, inl, inr, refl, sym, ◌∙◌}
use Rattle.std.proofs.lemmas.Bool.{cases_lt}
use Rattle.std.proofs.lemmas.Grind.{common_steps}
use Rattle.std.proofs.lemmas.List.{length-replicate}
use Rattle.vs_pages.specs.Cells.{Blank, Away, Kept, Cell, Cells, is_away, seen, shown}
use Rattle.vs_pages.specs.Maps.{ArePages, Map, no_pages, zeros}
use Rattle.vs_pages.specs.Table.{cells_of}
use Rattle.vs_pages.specs.HistoryLaws.{IsWhole, place_whole, first_away, first_past, first_whole}
use Rattle.vs_pages.specs.Memory.{present_of, present_under, committed_of, committed_under, first_kept_of, kept_of, changes_of, AreBacked, KeepsSince}
use Rattle.vs_pages.specs.declared.page.Page.{Page}
use Rattle.vs_pages.specs.declared.memory.MemPages.{MemPages}

pub keeps_none : (pages : MemPages) → KeepsSince pages pages
keeps_none pages = record { later = omega arith; each = λ k. inr (omega arith, refl); reach = λ commit end le reach. reach; backed = λ away backed. backed }

pub keeps_then : (a b c : MemPages) → KeepsSince a b → KeepsSince b c → KeepsSince a c
keeps_then a b c first second = record {
  later = omega (arith, first.later, second.later);
  each = λ k. elim (second.each k) [
    | inl changed ↦ inl (omega (arith, changed, first.later))
    | inr same ↦ elim (first.each k) [
      | inl changed ↦ inl (omega (arith, changed, same.0))
      | inr both ↦ inr (omega (arith, both.0, same.0), same.1 ∙ both.1)
    ]
  ];
  reach = λ commit end le reach. second.reach commit end (omega (arith, le, first.later)) (first.reach commit end le reach);
  backed = λ away backed. second.backed away (first.backed away backed);
}

cells_end : (places : List (Option Page)) (k : ℕ) → length places ≤ k → is_some (cells_of places k) ≡ false
cells_end places k le = grind (arith, common_steps)

length_zeros : (n : ℕ) → length (zeros n) ≡ 4096 * n
unfolding zeros
length_zeros n = length-replicate (4096 * n) 0

-- The page that stands in the place of one that is away has its size.
abbrev IsBackedAt : Option (List ℕ) → Option Cell → Type 0
IsBackedAt away cell = IsTrue (is_away cell) → (page : List ℕ) → away ≡ Some page → length page ≡ 4096

shown_size : (away : Option (List ℕ)) (cell : Option Cell) (page : List ℕ) → IsWhole cell → IsBackedAt away cell
    → shown away cell ≡ Some page → length page ≡ 4096
shown_size away None page whole backed is = absurd (cc)
shown_size away (Some Blank) page whole backed is = let same : zeros 1 ≡ page = cc in omega (arith, ap (λ (b : List ℕ). length b) same, length_zeros 1)
shown_size away (Some Away) page whole backed is = backed refl page is
shown_size away (Some (Kept bytes)) page whole backed is = let same : bytes ≡ page = cc in omega (arith, ap (λ (b : List ℕ). length b) same, whole)

shown_there : (away : Option (List ℕ)) (cell : Option Cell) (page : List ℕ) → is_some cell ≡ false → shown away cell ≡ Some page → ⊥
shown_there away None page none is = absurd (cc)
shown_there away (Some cell) page none is = absurd (cc)

pages_below : (away : Map) (kept : Cells) (n : ℕ) → n ≤ 2 ^ 40 → ((k : ℕ) → n ≤ k → is_some (kept k) ≡ false) → ((k : ℕ) → IsWhole (kept k))
    → ((k : ℕ) → IsBackedAt (away k) (kept k)) → ArePages (seen away kept)
pages_below away kept n bound none whole backed = record {
  sizes = λ k page is. shown_size (away k) (kept k) page (whole k) (backed k) is;
  below = λ k page is. elim (cases_lt k n) [ inl lt ↦ omega (arith, lt, bound) | inr past ↦ absurd (shown_there (away k) (kept k) page (none k past) is) ];
}

size_of : (away : Option (List ℕ)) (page : List ℕ) → IsSomeAnd away (λ page. length page ≡ 4096) → away ≡ Some page → length page ≡ 4096
size_of None page some is = absurd some
size_of (Some bytes) page some is = let same : bytes ≡ page = cc in ap (λ (b : List ℕ). length b) (sym same) ∙ some

-- A page is away only where it was committed so.
pub away_first : (pages : MemPages) (k : ℕ) → IsTrue (is_away (kept_of pages k)) → IsTrue (is_away (first_kept_of pages k))
away_first pages k away = first_away (kept_of pages) (length pages.table.places.items) (changes_of pages) k pages.undo away

first_each : (pages : MemPages) (k : ℕ) → IsWhole (first_kept_of pages k)
first_each pages k =
    first_whole (kept_of pages) (length pages.table.places.items) (changes_of pages) k pages.undo (place_whole (slice_index_or pages.table.places.items k None))

pub are_present_under : (away : Map) (pages : MemPages) → AreBacked away pages → ArePages (present_under away pages)
are_present_under away pages backed =
    let places = pages.table.places.items in
    pages_below away (kept_of pages) (length places) pages.table.bound (cells_end places) (λ k. place_whole (slice_index_or places k None))
    (λ k gone page is. size_of (away k) page (backed k (away_first pages k gone)).1 is)

pub are_committed_under : (away : Map) (pages : MemPages) → AreBacked away pages → ArePages (committed_under away pages)
are_committed_under away pages backed =
    let places = pages.table.places.items in
    pages_below away (first_kept_of pages) (length places) pages.table.bound
    (first_past (kept_of pages) (length places) (changes_of pages) pages.undo (cells_end places))
    (first_each pages) (λ k gone page is. size_of (away k) page (backed k gone).1 is)

none_size : (page : List ℕ) → no_pages 0 ≡ Some page → length page ≡ 4096
none_size page is = absurd (cc)

pub are_present : (pages : MemPages) → ArePages (present_of pages)
are_present pages =
    let places = pages.table.places.items in
    let whole : (k : ℕ) → IsWhole (kept_of pages k) = λ k. place_whole (slice_index_or places k None) in
    pages_below no_pages (kept_of pages) (length places) pages.table.bound (cells_end places) whole (λ k gone page is. none_size page is)

pub are_committed : (pages : MemPages) → ArePages (committed_of pages)
are_committed pages =
    let places = pages.table.places.items in
    pages_below no_pages (first_kept_of pages) (length places) pages.table.bound
    (first_past (kept_of pages) (length places) (changes_of pages) pages.undo (cells_end places))
    (first_each pages) (λ k gone page is. none_size page is)
