-- How marks follow the pages that are used.
use Rattle.std.proofs.Common.{◌≡◌, ℕ, zero, suc, ◌+◌, ◌-◌, ◌<◌, ◌≤◌, List, [], ◌∷◌, length, get_or, set, take, drop, replicate, Bool, true, false, refl, sym, ap, ◌∙◌, inl, inr, arith}
use Rattle.std.specs.Prelude.{nat_lt, if◌then◌else◌}
use Rattle.std.proofs.lemmas.Bool.{cases_eq, cases_lt}
use Rattle.std.proofs.lemmas.Bool.Decides.{nat_tests}
use Rattle.vs_pages.specs.Maps.{one, total, span}
use Rattle.vs_tree_shape.specs.declared.entries.Entry.{Entry}
use Rattle.vs_tree_shape.proofs.Sums.{total_more, total-append, cut_at}
use Rattle.vs_pages.proofs.MapsLemmas.{span-within, span-add, span-above, span-inside, span-most}
use Rattle.vs_recover.specs.Levels.{first_used, taken, are_wide}
use Rattle.vs_recover.specs.Marks.{used_in, free_in}

one-suc : (at k : ℕ) → one (suc at) (suc k) ≡ one at k
one-suc at k = elim (cases_eq k at) [ inl e ↦ grind (arith, nat_tests) | inr ne ↦ grind (arith, nat_tests) ]

pub used-set : (marks : List Bool) (at k : ℕ) → get_or marks at true ≡ false → used_in (set marks at true) k ≡ used_in marks k + one at k
used-set [] at k free = absurd (cc)
used-set (mark ∷ marks) zero zero free = let is : mark ≡ false = free in rw is (grind (arith, nat_tests))
used-set (mark ∷ marks) zero (suc k) free = grind (arith, nat_tests)
used-set (mark ∷ marks) (suc at) zero free = grind (arith, nat_tests)
used-set (mark ∷ marks) (suc at) (suc k) free = omega (arith, used-set marks at k free, one-suc at k)

pub free-set : (marks : List Bool) (at : ℕ) → get_or marks at true ≡ false → free_in (set marks at true) + 1 ≡ free_in marks
free-set [] at free = absurd (cc)
free-set (mark ∷ marks) zero free = let is : mark ≡ false = free in rw is (omega arith)
free-set (mark ∷ marks) (suc at) free = omega (arith, free-set marks at free)

pub used_where : (marks : List Bool) (at : ℕ) → get_or marks at true ≡ true → used_in marks at ≡ 1
used_where [] at is = refl
used_where (mark ∷ marks) zero is = let e : mark ≡ true = is in rw e refl
used_where (mark ∷ marks) (suc at) is = used_where marks at is

pub used_past : (marks : List Bool) (at : ℕ) → length marks ≤ at → used_in marks at ≡ 1
used_past [] at past = refl
used_past (mark ∷ marks) zero past = absurd (omega arith)
used_past (mark ∷ marks) (suc at) past = used_past marks at (omega arith)

pub none_used : (n k : ℕ) → used_in (replicate n false) k ≡ (if nat_lt k n then 0 else 1)
none_used zero k = grind (arith, nat_tests)
none_used (suc n) zero = grind (arith, nat_tests)
none_used (suc n) (suc k) = none_used n k ∙ grind (arith, nat_tests)

-- a page that one block and the marks both have
pub clash : (marks : List Bool) (at n k : ℕ) → used_in marks k ≡ 1 → at ≤ k → k < at + n → (j : ℕ) × (2 ≤ used_in marks j + span at n j)
clash marks at n k used le lt = (k, omega (arith, used, span-within at n k le lt))

-- the marks of a walk that begins
pub begun : (n k : ℕ) → 2 ≤ n → used_in (set (set (replicate n false) 0 true) 1 true) k ≡ first_used n k
begun zero k le = absurd (omega arith)
begun (suc zero) k le = absurd (omega arith)
begun (suc (suc n)) zero le = grind (arith, nat_tests)
begun (suc (suc n)) (suc zero) le = grind (arith, nat_tests)
begun (suc (suc n)) (suc (suc k)) le = none_used n k ∙ grind (arith, nat_tests)

-- one more page of a block is marked
pub mark_more : (marks now : List Bool) (at i k : ℕ) → get_or now (at + i) true ≡ false → used_in now k ≡ used_in marks k + span at i k → used_in (set now (at + i) true) k ≡ used_in marks k + span at (i + 1) k
mark_more marks now at i k free used = omega (arith, used-set now (at + i) k free, used, span-add at i 1 k)

-- one page more is not marked
pub still_free : (marks : List Bool) (at n : ℕ) → get_or marks (at + n) true ≡ false → ((i : ℕ) → i < n → get_or marks (at + i) true ≡ false) → (i : ℕ) → i < n + 1 → get_or marks (at + i) true ≡ false
still_free marks at n free before i lt = elim (cases_eq i n) [
  | inl e ↦ ap (λ j. get_or marks (at + j) true) e ∙ free
  | inr ne ↦ before i (omega arith)
]

unused : (marks : List Bool) (at : ℕ) → get_or marks at true ≡ false → used_in marks at ≡ 0
unused [] at is = absurd (cc)
unused (mark ∷ marks) zero is = let e : mark ≡ false = is in rw e refl
unused (mark ∷ marks) (suc at) is = unused marks at is

free_where : (marks : List Bool) (at : ℕ) → used_in marks at ≡ 0 → get_or marks at true ≡ false
free_where [] at is = absurd (omega (arith, is))
free_where (true ∷ marks) zero is = absurd (omega (arith, is))
free_where (false ∷ marks) zero is = refl
free_where (mark ∷ marks) (suc at) is = free_where marks at is

pub used_most : (marks : List Bool) (k : ℕ) → used_in marks k ≤ 1
used_most [] k = omega arith
used_most (true ∷ marks) zero = omega arith
used_most (false ∷ marks) zero = omega arith
used_most (mark ∷ marks) (suc k) = used_most marks k

-- none of a block's pages is marked
pub all_free : (marks : List Bool) (at n : ℕ) → ((i : ℕ) → i < n → get_or marks (at + i) true ≡ false) → (k : ℕ) → used_in marks k + span at n k ≤ 1
all_free marks at n free k = elim (cases_lt (span at n k) 1) [
  | inl none ↦ omega (arith, none, used_most marks k)
  | inr some ↦ (
      let within = span-inside at n k some in
      let i : ℕ = k - at in
      let here : at + i ≡ k = omega (arith, within.0) in
      let zero_here : used_in marks k ≡ 0 = ap (λ j. used_in marks j) (sym here) ∙ unused marks (at + i) (free i (omega (arith, here, within.1))) in
      omega (arith, zero_here, span-most at n k)
      )
]

-- the next page of such a block is not marked yet
pub free_next : (marks now : List Bool) (at n i : ℕ) → i < n → ((k : ℕ) → used_in marks k + span at n k ≤ 1) → ((k : ℕ) → used_in now k ≡ used_in marks k + span at i k) → get_or now (at + i) true ≡ false
free_next marks now at n i lt free used = free_where now (at + i) (omega (arith, free (at + i), used (at + i), span-above at i (at + i) (omega arith), span-within at n (at + i) (omega arith) (omega arith)))

-- ---- the blocks of several entries

pub wide_at : (es : List Entry) (i : ℕ) (d : Entry) → i < length es → are_wide es ≡ true → 1 ≤ (get_or es i d).pages
wide_at [] i d lt wide = absurd (omega arith)
wide_at (e ∷ es) zero d lt wide = elim (cases_lt 0 e.pages) [ inl some ↦ omega (arith, some) | inr none ↦ absurd (grind (arith, nat_tests)) ]
wide_at (e ∷ es) (suc i) d lt wide = wide_at es i d (omega arith) (grind (arith, nat_tests))

pub taken_more : (es : List Entry) (i k : ℕ) (d : Entry) → i < length es → taken (take (i + 1) es) k ≡ taken (take i es) k + span (get_or es i d).block (get_or es i d).pages k
taken_more es i k d lt = total_more (λ (e : Entry). span e.block e.pages k) es i d lt

-- one block takes no more than all
pub taken_part : (es : List Entry) (i k : ℕ) (d : Entry) → i < length es → taken (take i es) k + span (get_or es i d).block (get_or es i d).pages k ≤ taken es k
taken_part es i k d lt =
    let f : Entry → ℕ = λ e. span e.block e.pages k in
    omega (arith, ap (λ xs. total f xs) (cut_at es i d lt), total-append f (take i es) (get_or es i d ∷ drop (i + 1) es))
