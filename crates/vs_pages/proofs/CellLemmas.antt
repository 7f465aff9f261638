-- Laws of what places keep, at one number.
use Rattle.std.proofs.Common.{◌≡◌, ◌≢◌, ℕ, List, Option, Some, None, IsSome, IsTrue, is_some, false, refl, sym, ap, ◌∙◌, inl, inr, arith}
use Rattle.std.proofs.lemmas.Bool.{cases_eq}
use Rattle.std.proofs.lemmas.Bool.Decides.{nat_tests}
use mathlib.Core.Path.{fun_ext}
use Rattle.vs_pages.specs.Cells.{Blank, Away, Kept, Cell, Cells, is_away, put_cell, rewritten, seen, shown, IsWritten}
use Rattle.vs_pages.specs.Maps.{Map, patched, put}
use Rattle.vs_pages.proofs.MapsLemmas.{put-same, put-other}

pub cell-same : (m : Cells) (at : ℕ) (v : Option Cell) → put_cell m at v at ≡ v
cell-same m at v = grind (arith, nat_tests)

pub cell-other : (m : Cells) (at : ℕ) (v : Option Cell) (k : ℕ) → k ≢ at → put_cell m at v k ≡ m k
cell-other m at v k ne = grind (arith, nat_tests)

pub cell-cell : (m : Cells) (at : ℕ) (v w : Option Cell) → put_cell (put_cell m at v) at w ≡ put_cell m at w
cell-cell m at v w = fun_ext (λ k. elim (cases_eq k at) [ inl e ↦ grind (arith, nat_tests) | inr ne ↦ grind (arith, nat_tests) ])

-- putting what is there changes nothing
pub cell-itself : (m : Cells) (at : ℕ) → put_cell m at (m at) ≡ m
cell-itself m at = fun_ext (λ k. elim (cases_eq k at) [ inl e ↦ grind (arith, nat_tests, ap m e) | inr ne ↦ grind (arith, nat_tests) ])

-- ---- a place with or without a page

pub none_cell : (cell : Option Cell) → is_some cell ≡ false → cell ≡ None
none_cell None gone = refl
none_cell (Some cell) gone = absurd (cc)

pub not_there : (cell : Option Cell) → is_some cell ≡ false → IsSome cell → ⊥
not_there None gone there = absurd (cc)
not_there (Some cell) gone there = absurd (cc)

pub gone_if : (cell : Option Cell) → (IsSome cell → ⊥) → is_some cell ≡ false
gone_if None never = refl
gone_if (Some cell) never = absurd (never refl)

pub written_there : (cell : Option Cell) → IsWritten cell → IsSome cell
written_there None written = absurd (cc)
written_there (Some cell) written = refl

pub away_there : (cell : Option Cell) → IsTrue (is_away cell) → IsSome cell
away_there None away = absurd (cc)
away_there (Some cell) away = refl

pub away_is : (cell : Option Cell) → IsTrue (is_away cell) → cell ≡ Some Away
away_is None away = absurd (cc)
away_is (Some Blank) away = absurd (cc)
away_is (Some Away) away = refl
away_is (Some (Kept page)) away = absurd (cc)

-- ---- what is seen

-- a page that is seen is there
pub shown_there : (away : Option (List ℕ)) (cell : Option Cell) → IsSome (shown away cell) → IsSome cell
shown_there away None there = absurd (cc)
shown_there away (Some cell) there = refl

-- a page whose bytes are in memory is seen
pub shown_here : (away : Option (List ℕ)) (cell : Option Cell) → IsSome cell → is_away cell ≡ false → IsSome (shown away cell)
shown_here away None there here = absurd (cc)
shown_here away (Some Blank) there here = refl
shown_here away (Some Away) there here = absurd (cc)
shown_here away (Some (Kept page)) there here = refl

-- a page in memory is seen the same whatever stands in the place of others
pub shown_same : (away other : Option (List ℕ)) (cell : Option Cell) → is_away cell ≡ false → shown away cell ≡ shown other cell
shown_same away other None here = refl
shown_same away other (Some Blank) here = refl
shown_same away other (Some Away) here = absurd (cc)
shown_same away other (Some (Kept page)) here = refl

-- what is seen where no page is shown that is away is seen in any case
pub shown_any : (away : Option (List ℕ)) (cell : Option Cell) (page : List ℕ) → shown None cell ≡ Some page → shown away cell ≡ Some page
shown_any away None page is = is
shown_any away (Some Blank) page is = is
shown_any away (Some Away) page is = absurd (cc)
shown_any away (Some (Kept bytes)) page is = is

-- what is not seen then is not there, or away
pub shown_none : (cell : Option Cell) → shown None cell ≡ None → IsSome cell → IsTrue (is_away cell)
shown_none None none there = absurd (cc)
shown_none (Some Blank) none there = absurd (cc)
shown_none (Some Away) none there = refl
shown_none (Some (Kept page)) none there = absurd (cc)

pub shown_away : (away : Option (List ℕ)) (cell : Option Cell) → IsTrue (is_away cell) → shown away cell ≡ away
shown_away away None gone = absurd (cc)
shown_away away (Some Blank) gone = absurd (cc)
shown_away away (Some Away) gone = refl
shown_away away (Some (Kept page)) gone = absurd (cc)

pub seen_put : (away : Map) (m : Cells) (at : ℕ) (v : Option Cell) → seen away (put_cell m at v) ≡ put (seen away m) at (shown (away at) v)
seen_put away m at v = fun_ext (λ k. elim (cases_eq k at) [
  | inl e ↦
      ap (λ j. shown (away j) (put_cell m at v j)) e ∙ ap (λ (o : Option Cell). shown (away at) o) (cell-same m at v)
      ∙ sym (ap (λ j. put (seen away m) at (shown (away at) v) j) e ∙ put-same (seen away m) at (shown (away at) v))
  | inr ne ↦ ap (λ (o : Option Cell). shown (away k) o) (cell-other m at v k ne) ∙ sym (put-other (seen away m) at (shown (away at) v) k ne)
])

-- a page that was written, with bytes over its own
shown_rewritten : (away : Option (List ℕ)) (cell : Option Cell) (from : ℕ) (bytes : List ℕ) → IsWritten cell → shown away (rewritten cell from bytes) ≡ patched (shown away cell) from bytes
shown_rewritten away None from bytes written = refl
shown_rewritten away (Some Blank) from bytes written = absurd (cc)
shown_rewritten away (Some Away) from bytes written = absurd (cc)
shown_rewritten away (Some (Kept page)) from bytes written = refl

pub seen_rewritten : (away : Map) (m : Cells) (at from : ℕ) (bytes : List ℕ) → IsWritten (m at)
    → seen away (put_cell m at (rewritten (m at) from bytes)) ≡ put (seen away m) at (patched (seen away m at) from bytes)
seen_rewritten away m at from bytes written =
    seen_put away m at (rewritten (m at) from bytes) ∙ ap (λ (v : Option (List ℕ)). put (seen away m) at v) (shown_rewritten (away at) (m at) from bytes written)
