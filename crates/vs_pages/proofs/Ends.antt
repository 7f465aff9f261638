-- The number after the last page, and that no number that was never worked comes to lie before a page.
use Rattle.std.proofs.Common.{◌≡◌, ℕ, ◌+◌, ◌-◌, ◌<◌, ◌≤◌, ◌⊎◌, List, [], ◌∷◌, ◌++◌, Option, None, Some, IsSome, is_some, false, length, refl, sym, ap, ◌∙◌, subst, inl, inr, arith}
use Rattle.std.proofs.lemmas.Bool.{cases_eq, cases_lt}
use Rattle.vs_pages.specs.Cells.{Blank, Away, Kept, Cell, Cells, put_cell, rewritten, seen, shown, AreThere, IsEndOf}
use Rattle.vs_pages.specs.Maps.{Map, numbers, one, total, IsVacant, lacks}
use Rattle.vs_pages.specs.Table.{cells_of}
use Rattle.vs_pages.specs.History.{first_of, numbers_in, numbers_of, put_places, undone, EachHasNoGap, HasNoGap}
use Rattle.vs_pages.specs.declared.page.Page.{Page}
use Rattle.vs_pages.specs.declared.change.Change.{Change}
use Rattle.vs_pages.proofs.CellLemmas.{cell-other, cell-same, not_there}
use Rattle.vs_pages.proofs.MapsLemmas.{span-below, span-most, span-within, total-append, total_numbers}
use Rattle.vs_pages.proofs.Places.{put_places-other}
use Rattle.vs_pages.proofs.TableLemmas.{cells_of-within}

-- ---- the number after the last page

pub end_from : (m : Cells) (end : ℕ) → ((k : ℕ) → end ≤ k → is_some (m k) ≡ false) → (0 < end → IsSome (m (end - 1))) → IsEndOf m end
unfolding IsEndOf
end_from m end past last = (past, last)

pub end_within : (places : List (Option Page)) (end : ℕ) → IsEndOf (cells_of places) end → end ≤ length places
unfolding IsEndOf
end_within places end is = elim (cases_lt (length places) end) [
  | inl lt ↦ absurd (omega (arith, lt, cells_of-within places (end - 1) (is.1 (omega (arith, lt)))))
  | inr le ↦ le
]

pub before_end : (m : Cells) (end k : ℕ) → IsEndOf m end → IsSome (m k) → k < end
unfolding IsEndOf
before_end m end k is there = elim (cases_lt k end) [ inl lt ↦ lt | inr past ↦ absurd (not_there (m k) (is.0 k past) there) ]

pub end_as : (m next : Cells) (end : ℕ) → next ≡ m → IsEndOf m end → IsEndOf next end
end_as m next end is ends = subst (λ (o : Cells). IsEndOf o end) (sym is) ends

there_patched : (kept : Option Cell) (from : ℕ) (bytes : List ℕ) → is_some (rewritten kept from bytes) ≡ is_some kept
there_patched None from bytes = refl
there_patched (Some Blank) from bytes = refl
there_patched (Some Away) from bytes = refl
there_patched (Some (Kept page)) from bytes = refl

-- a page whose bytes were written over is there still
still_there : (m next : Cells) (at from : ℕ) (bytes : List ℕ) → next ≡ put_cell m at (rewritten (m at) from bytes) → (k : ℕ) → is_some (next k) ≡ is_some (m k)
still_there m next at from bytes is k = elim (cases_eq k at) [
  | inl e ↦ ap (λ j. is_some (next j)) e ∙ ap (λ (o : Cells). is_some (o at)) is ∙ ap (λ o. is_some o) (cell-same m at (rewritten (m at) from bytes)) ∙ there_patched (m at) from bytes ∙ ap (λ j. is_some (m j)) (sym e)
  | inr ne ↦ ap (λ (o : Cells). is_some (o k)) is ∙ ap (λ o. is_some o) (cell-other m at (rewritten (m at) from bytes) k ne)
]

pub end_patched : (m next : Cells) (end at from : ℕ) (bytes : List ℕ) → next ≡ put_cell m at (rewritten (m at) from bytes) → IsEndOf m end → IsEndOf next end
unfolding IsEndOf
end_patched m next end at from bytes is ends =
    (λ k past. still_there m next at from bytes is k ∙ ends.0 k past, λ some. still_there m next at from bytes is (end - 1) ∙ ends.1 some)

-- nothing comes past the end and the places that were put
pub past_put : (m next : Cells) (end most at : ℕ) (ps : List (Option Page)) → next ≡ put_places m at ps → IsEndOf m end → end ≤ most → at + length ps ≤ most → (k : ℕ) → most ≤ k → is_some (next k) ≡ false
unfolding IsEndOf
past_put m next end most at ps is ends old new k past =
    ap (λ (o : Cells). is_some (o k)) is ∙ ap (λ o. is_some o) (put_places-other m at ps k (inr (omega (arith, new, past)))) ∙ ends.0 k (omega (arith, old, past))

pub end_none : (places : List (Option Page)) → places ≡ [] → IsEndOf (cells_of places) 0
unfolding IsEndOf
end_none places is = subst (λ (ps : List (Option Page)). IsEndOf (cells_of ps) 0) (sym is) ((λ k past. refl), (λ some. absurd (omega (arith, some))))

-- neighbouring pages begin before the end
pub begins_before : (kept : Cells) (end at n : ℕ) → IsEndOf kept end → AreThere kept at n → 0 < n → at ≤ end
begins_before kept end at n ends there some = omega (arith, before_end kept end (at + 0) ends (there 0 (omega (arith, some))))

-- and their numbers are small
pub ends_before : (places : List (Option Page)) (at n : ℕ) → AreThere (cells_of places) at n → 0 < n → at + n ≤ length places
ends_before places at n there some = omega (arith, some, cells_of-within places (at + (n - 1)) (there (n - 1) (omega (arith, some))))

-- ---- no gaps

pub now_has : (m : Cells) (cs : List Change) → EachHasNoGap m cs → HasNoGap (first_of m cs) m (numbers_in cs)
now_has m [] each k j le there free none = not_there (m j) (none j le) there
now_has m (c ∷ cs) each k j le there free none = each.0 k j le there free none

-- Each number at or before a page now was worked by the change, or lies at or before a page from before it.
abbrev pub IsNear : Cells → Cells → List ℕ → Type 0
IsNear was now worked = (k j : ℕ) → k ≤ j → IsSome (now j) → total (λ at. one at k) worked ≡ 0 → ((i : ℕ) → k ≤ i → IsSome (was i) → ⊥) → ⊥

-- after one change more
pub gaps_more : (m was : Cells) (c : Change) (all cs : List Change) → all ≡ c ∷ cs → undone c m ≡ was → EachHasNoGap was cs → IsNear was m (numbers_of c) → EachHasNoGap m all
gaps_more m was c all cs is map rest near =
    let before : EachHasNoGap (undone c m) cs = subst (λ (o : Cells). EachHasNoGap o cs) (sym map) rest in
    let now : HasNoGap (first_of (undone c m) cs) m (numbers_of c ++ numbers_in cs) = λ k j le there free none.
    let both : total (λ at. one at k) (numbers_of c) + total (λ at. one at k) (numbers_in cs) ≡ 0 = sym (total-append (λ at. one at k) (numbers_of c) (numbers_in cs)) ∙ free in
    near k j le there (omega (arith, both)) (λ i le_i there_i.
    now_has (undone c m) cs before k i le_i (subst (λ (o : Cells). IsSome (o i)) (sym map) there_i) (omega (arith, both)) none) in
    subst (λ (ds : List Change). EachHasNoGap m ds) (sym is) (now, before)

-- after the last change was taken back
pub gaps_rest : (m next : Cells) (c : Change) (all cs : List Change) → all ≡ c ∷ cs → next ≡ undone c m → EachHasNoGap m all → EachHasNoGap next cs
gaps_rest m next c all cs is map each =
    let both : EachHasNoGap m (c ∷ cs) = subst (λ (ds : List Change). EachHasNoGap m ds) is each in
    subst (λ (o : Cells). EachHasNoGap o cs) (sym map) both.1

-- the same, of an equal map
pub gaps_as : (m next : Cells) (cs : List Change) → next ≡ m → EachHasNoGap m cs → EachHasNoGap next cs
gaps_as m next cs is each = subst (λ (o : Cells). EachHasNoGap o cs) (sym is) each

-- neighbouring places, which begin at the end at the latest
pub near_places : (was now : Cells) (end at n : ℕ) (ps : List (Option Page)) → n ≡ length ps → now ≡ put_places was at ps → IsEndOf was end → (0 < length ps → at ≤ end) → IsNear was now (numbers at n)
unfolding IsEndOf
near_places was now end at n ps size is ends near k j le there free none =
    let same : (j < at) ⊎ (at + length ps ≤ j) → ⊥ = λ out. none j le (subst (λ o. IsSome o) (ap (λ (o : Cells). o j) is ∙ put_places-other was at ps j out) there) in
    elim (cases_lt j at) [
      | inl lt ↦ same (inl lt)
      | inr from ↦ elim (cases_lt j (at + length ps)) [
        | inr past ↦ same (inr past)
        | inl lt ↦ elim (cases_lt k at) [
          | inl before ↦
              let some : 0 < end = omega (arith, before, near (omega (arith, from, lt))) in
              none (end - 1) (omega (arith, before, near (omega (arith, from, lt)))) (ends.1 some)
          | inr inside ↦ omega (arith, free, total_numbers at n k, span-within at n k inside (omega (arith, le, lt, size)))
        ]
      ]
    ]

-- bytes of a page
pub near_patch : (was now : Cells) (at from : ℕ) (bytes : List ℕ) (worked : List ℕ) → now ≡ put_cell was at (rewritten (was at) from bytes) → IsNear was now worked
near_patch was now at from bytes worked is k j le there free none = none j le (sym (still_there was now at from bytes is j) ∙ there)

vacant_at : (away : Option (List ℕ)) (cell : Option Cell) → is_some cell ≡ false → lacks (shown away cell) ≡ 1
vacant_at away None gone = refl
vacant_at away (Some cell) gone = absurd (cc)

-- a number without a page is vacant, whatever stands in the place of pages that are away
pub lacks_seen : (away : Map) (m : Cells) (k : ℕ) → is_some (m k) ≡ false → lacks (seen away m k) ≡ 1
lacks_seen away m k gone = vacant_at (away k) (m k) gone

-- no page comes after the last one
pub end_vacant : (away : Map) (places : List (Option Page)) (end n : ℕ) → IsEndOf (cells_of places) end → IsVacant (seen away (cells_of places)) end n
unfolding IsEndOf
end_vacant away places end n ends k = elim (cases_lt k end) [
  | inl lt ↦ omega (arith, span-below end n k lt)
  | inr past ↦ omega (arith, span-most end n k, lacks_seen away (cells_of places) k (ends.0 k past))
]
