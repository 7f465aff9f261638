-- Neighbouring places that were exchanged, and the pages that are seen then.
use Rattle.std.specs.List.{All}
use Rattle.std.proofs.Common.{◌≡◌, ℕ, zero, suc, ◌+◌, ◌*◌, ◌<◌, ◌≤◌, ◌⊎◌, false, IsTrue, List, [], ◌∷◌, length, take, drop, get_or, Option, None, Some, refl, sym, ap, ◌∙◌, inl, inr, arith}
use Rattle.std.proofs.lemmas.Bool.{cases_eq, cases_lt}
use mathlib.Core.Path.{fun_ext}
use Rattle.vs_pages.specs.Cells.{Blank, Kept, Cell, Cells, is_away, put_cell, seen, shown}
use Rattle.vs_pages.specs.Maps.{Map, numbers, put, put_pages, without, zeros}
use Rattle.vs_pages.specs.Table.{cell_of}
use Rattle.vs_pages.specs.History.{put_places}
use Rattle.vs_pages.specs.declared.page.Page.{Page}
use Rattle.vs_pages.proofs.CellLemmas.{cell-same, cell-other, seen_put}
use Rattle.vs_pages.proofs.MapsLemmas.{drop-drop}
use Rattle.vs_pages.proofs.Runs.{take-zeros, drop-zeros}

put_at : (m n : Cells) (at : ℕ) (ps : List (Option Page)) (k : ℕ) → ((k < at) ⊎ (at + length ps ≤ k) → n k ≡ m k) → ((j : ℕ) → j < length ps → at + j ≡ k → n k ≡ cell_of (get_or ps j None)) → n k ≡ put_places m at ps k
put_at m n at [] k rest places = elim (cases_lt k at) [ inl lt ↦ rest (inl lt) | inr past ↦ rest (inr (omega (arith, past))) ]
put_at m n at (p ∷ ps) k rest places = elim (cases_eq k at) [
  | inl e ↦ places 0 (omega arith) (omega (arith, e)) ∙ sym (ap (λ j. put_cell (put_places m (at + 1) ps) at (cell_of p) j) e ∙ cell-same (put_places m (at + 1) ps) at (cell_of p))
  | inr ne ↦
      put_at m n (at + 1) ps k
      (λ out. elim out [ inl lt ↦ rest (inl (omega (arith, lt, ne))) | inr past ↦ rest (inr (omega (arith, past))) ])
      (λ j lt is. places (suc j) (omega (arith, lt)) (omega (arith, is)))
      ∙ sym (cell-other (put_places m (at + 1) ps) at (cell_of p) k ne)
]

-- a map that has these pages at neighbouring places, and is as another elsewhere
pub put_places_is : (m n : Cells) (at : ℕ) (ps : List (Option Page)) → ((k : ℕ) → (k < at) ⊎ (at + length ps ≤ k) → n k ≡ m k) → ((j : ℕ) → j < length ps → n (at + j) ≡ cell_of (get_or ps j None)) → n ≡ put_places m at ps
put_places_is m n at ps rest places = fun_ext (λ k. put_at m n at ps k (λ out. rest k out) (λ j lt is. ap (λ (i : ℕ). n i) (sym is) ∙ places j lt))

-- other places stay
pub put_places-other : (m : Cells) (at : ℕ) (ps : List (Option Page)) (k : ℕ) → (k < at) ⊎ (at + length ps ≤ k) → put_places m at ps k ≡ m k
put_places-other m at [] k out = refl
put_places-other m at (p ∷ ps) k out =
    cell-other (put_places m (at + 1) ps) at (cell_of p) k (λ e. elim out [ inl lt ↦ omega (arith, lt, e) | inr past ↦ omega (arith, past, e) ])
    ∙ put_places-other m (at + 1) ps k (elim out [ inl lt ↦ inl (omega (arith, lt)) | inr past ↦ inr (omega (arith, past)) ])

-- a place that was put
pub put_places-at : (m : Cells) (at : ℕ) (ps : List (Option Page)) (j : ℕ) → j < length ps → put_places m at ps (at + j) ≡ cell_of (get_or ps j None)
put_places-at m at [] j lt = absurd (omega arith)
put_places-at m at (p ∷ ps) zero lt = let e : at + 0 ≡ at = omega arith in ap (λ k. put_cell (put_places m (at + 1) ps) at (cell_of p) k) e ∙ cell-same (put_places m (at + 1) ps) at (cell_of p)
put_places-at m at (p ∷ ps) (suc j) lt =
    let e : at + suc j ≡ at + 1 + j = omega arith in
    cell-other (put_places m (at + 1) ps) at (cell_of p) (at + suc j) (λ e. omega (arith, e)) ∙ ap (λ k. put_places m (at + 1) ps k) e ∙ put_places-at m (at + 1) ps j (omega (arith, lt))

-- where no page is put, no place is meant
pub put_places-start : (m : Cells) (at start : ℕ) (ps : List (Option Page)) → (0 < length ps → start ≡ at) → put_places m start ps ≡ put_places m at ps
put_places-start m at start [] same = refl
put_places-start m at start (p ∷ ps) same = ap (λ k. put_places m k (p ∷ ps)) (same (omega arith))

pub numbers-start : (at start n : ℕ) → (0 < n → start ≡ at) → numbers start n ≡ numbers at n
numbers-start at start zero same = refl
numbers-start at start (suc n) same = ap (λ k. numbers k (suc n)) (same (omega arith))

-- where no page that is put is away, each that is away then was so before
pub put_places-away : (m : Cells) (at : ℕ) (ps : List (Option Page)) (k : ℕ) → All (λ p. is_away (cell_of p) ≡ false) ps → IsTrue (is_away (put_places m at ps k)) → IsTrue (is_away (m k))
put_places-away m at [] k here away = away
put_places-away m at (p ∷ ps) k here away = elim (cases_eq k at) [
  | inl e ↦
      let found : is_away (put_places m at (p ∷ ps) k) ≡ false = ap (λ j. is_away (put_places m at (p ∷ ps) j)) e ∙ ap (λ (o : Option Cell). is_away o) (cell-same (put_places m (at + 1) ps) at (cell_of p)) ∙ here 0 p (omega arith) in
      absurd (cc)
  | inr ne ↦ put_places-away m (at + 1) ps k (λ i d lt. here (suc i) d (omega (arith, lt))) (ap (λ (o : Option Cell). is_away o) (sym (cell-other (put_places m (at + 1) ps) at (cell_of p) k ne)) ∙ away)
]

-- ---- what is seen

later : (bytes : List ℕ) (i : ℕ) → take 4096 (drop (4096 * suc i) bytes) ≡ take 4096 (drop (4096 * i) (drop 4096 bytes))
later bytes i = let e : 4096 + 4096 * i ≡ 4096 * suc i = omega arith in ap (λ (xs : List ℕ). take 4096 xs) (ap (λ n. drop n bytes) (sym e) ∙ sym (drop-drop (4096 * i) 4096 bytes))

module _ (away : Map) where
  -- pages that were cut from bytes
  pub seen_cut : (m : Cells) (at : ℕ) (ps : List (Option Page)) (n : ℕ) (bytes : List ℕ) → length ps ≡ n
      → ((i : ℕ) → i < n → cell_of (get_or ps i None) ≡ Some (Kept (take 4096 (drop (4096 * i) bytes)))) → seen away (put_places m at ps) ≡ put_pages (seen away m) at n bytes
  seen_cut m at [] zero bytes len each = refl
  seen_cut m at [] (suc n) bytes len each = absurd (omega (arith, len))
  seen_cut m at (p ∷ ps) zero bytes len each = absurd (omega (arith, len))
  seen_cut m at (p ∷ ps) (suc n) bytes len each =
      let first : cell_of p ≡ Some (Kept (take 4096 bytes)) = each 0 (omega arith) in
      seen_put away (put_places m (at + 1) ps) at (cell_of p)
      ∙ ap (λ (v : Option Cell). put (seen away (put_places m (at + 1) ps)) at (shown (away at) v)) first
      ∙ ap (λ (r : Map). put r at (Some (take 4096 bytes))) (seen_cut m (at + 1) ps n (drop 4096 bytes) (omega (arith, len)) (λ i lt. each (suc i) (omega (arith, lt)) ∙ ap (λ (xs : List ℕ). Some (Kept xs)) (later bytes i)))

  all_first : (P : Option Page → Type 0) (p : Option Page) (ps : List (Option Page)) → All P (p ∷ ps) → P p
  all_first P p ps all = all 0 p (omega arith)

  all_rest : (P : Option Page → Type 0) (p : Option Page) (ps : List (Option Page)) → All P (p ∷ ps) → All P ps
  all_rest P p ps all = λ i d lt. all (suc i) d (omega (arith, lt))

  -- pages of zeros
  pub seen_zeros : (m : Cells) (at : ℕ) (ps : List (Option Page)) (n : ℕ) → length ps ≡ n → All (λ p. cell_of p ≡ Some Blank) ps → seen away (put_places m at ps) ≡ put_pages (seen away m) at n (zeros n)
  seen_zeros m at [] zero len all = refl
  seen_zeros m at [] (suc n) len all = absurd (omega (arith, len))
  seen_zeros m at (p ∷ ps) zero len all = absurd (omega (arith, len))
  seen_zeros m at (p ∷ ps) (suc n) len all =
      let first : cell_of p ≡ Some Blank = all_first (λ p. cell_of p ≡ Some Blank) p ps all in
      seen_put away (put_places m (at + 1) ps) at (cell_of p)
      ∙ ap (λ (v : Option (List ℕ)). put (seen away (put_places m (at + 1) ps)) at v) (ap (λ (v : Option Cell). shown (away at) v) first ∙ ap (λ (xs : List ℕ). Some xs) (sym (take-zeros n)))
      ∙ ap (λ (r : Map). put r at (Some (take 4096 (zeros (suc n))))) (seen_zeros m (at + 1) ps n (omega (arith, len)) (all_rest (λ p. cell_of p ≡ Some Blank) p ps all) ∙ ap (λ (xs : List ℕ). put_pages (seen away m) (at + 1) n xs) (sym (drop-zeros n)))

  -- no pages
  pub seen_none : (m : Cells) (at : ℕ) (ps : List (Option Page)) (n : ℕ) → length ps ≡ n → All (λ p. cell_of p ≡ None) ps → seen away (put_places m at ps) ≡ without (seen away m) at n
  seen_none m at [] zero len all = refl
  seen_none m at [] (suc n) len all = absurd (omega (arith, len))
  seen_none m at (p ∷ ps) zero len all = absurd (omega (arith, len))
  seen_none m at (p ∷ ps) (suc n) len all =
      let first : cell_of p ≡ None = all_first (λ p. cell_of p ≡ None) p ps all in
      seen_put away (put_places m (at + 1) ps) at (cell_of p)
      ∙ ap (λ (v : Option (List ℕ)). put (seen away (put_places m (at + 1) ps)) at v) (ap (λ (v : Option Cell). shown (away at) v) first)
      ∙ ap (λ (r : Map). put r at None) (seen_none m (at + 1) ps n (omega (arith, len)) (all_rest (λ p. cell_of p ≡ None) p ps all))

  -- one page in a list
  pub seen_first : (m : Cells) (at : ℕ) (ps : List (Option Page)) (p : Option Page) (bytes : List ℕ) → ps ≡ p ∷ [] → cell_of p ≡ Some (Kept bytes) → seen away (put_places m at ps) ≡ put (seen away m) at (Some bytes)
  seen_first m at ps p bytes one is =
      ap (λ (qs : List (Option Page)). seen away (put_places m at qs)) one ∙ seen_put away m at (cell_of p) ∙ ap (λ (v : Option Cell). put (seen away m) at (shown (away at) v)) is
