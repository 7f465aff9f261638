-- The kept numbers below and above one are those before and after its place.
use Rattle.std.proofs.Common.{◌≡◌, ℕ, zero, suc, ◌+◌, ◌-◌, ◌<◌, ◌≤◌, ◌==◌, nat_lt, min, Bool, true, false, cond, if◌then◌else◌, List, [], ◌∷◌, ◌++◌, length, get_or, take, drop, Some, None, sym, ap, subst, ◌∙◌, arith, refl, append-nil, length-drop, length-append, is_some, inl, inr}
use Rattle.std.specs.List.{filter, AllPairs, AllZip}
use Rattle.std.specs.List.Sorted.{IsStrictlyIncreasing}
use Rattle.std.proofs.lemmas.Bool.Decides.{nat_tests}
use Rattle.std.proofs.Math.Seq.{split_at}
use Rattle.std.proofs.lemmas.List.{get_or-take, get_or-drop, length-take, get_or_push, get_or_append_left, length-map, get_or-map}
use Rattle.std.proofs.lemmas.List.Elements.{filter-append}
use Rattle.std.proofs.lemmas.List.Kept.{AllPairs-from_increasing}
use Rattle.vs_undo.specs.declared.parts.Node.{Node}
use Rattle.vs_undo.specs.Ways.{node_at, IsKept}
use Rattle.vs_undo.specs.Numbers.{numbers, below, above, nth_below, nth_above}

filter_pass : (p : ℕ → Bool) (xs : List ℕ) → ((k : ℕ) → k < length xs → p (get_or xs k 0) ≡ true) → filter p xs ≡ xs
filter_pass p [] h = refl
filter_pass p (x ∷ xs) h =
    ap (λ b. cond b (x ∷ filter p xs) (filter p xs)) (h 0 (omega arith)) ∙ ap (λ ys. x ∷ ys) (filter_pass p xs (λ k lt. h (suc k) (omega arith)))

filter_fail : (p : ℕ → Bool) (xs : List ℕ) → ((k : ℕ) → k < length xs → p (get_or xs k 0) ≡ false) → filter p xs ≡ []
filter_fail p [] h = refl
filter_fail p (x ∷ xs) h =
    ap (λ b. cond b (x ∷ filter p xs) (filter p xs)) (h 0 (omega arith)) ∙ filter_fail p xs (λ k lt. h (suc k) (omega arith))

module _ (kept : List ℕ) (j : ℕ) (within : j < length kept) (rising : IsStrictlyIncreasing kept) where
  pairs : AllPairs (λ x y. x < y) kept
  pairs = AllPairs-from_increasing kept rising

  before : (k : ℕ) → k < length (take j kept) → get_or (take j kept) k 0 < get_or kept j 0
  before k lt =
      let k_below : k < j = let h = simp length-take at lt in omega arith in
      subst (λ n. n < get_or kept j 0) (sym (get_or-take j kept k 0 k_below)) (pairs k j 0 k_below within)

  beyond : (k : ℕ) → k < length (drop (suc j) kept) → get_or kept j 0 < get_or (drop (suc j) kept) k 0
  beyond k lt =
      let h : suc j + k < length kept = omega (arith, length-drop (suc j) kept) in
      subst (λ n. get_or kept j 0 < n) (sym (get_or-drop (suc j) kept k 0)) (pairs j (suc j + k) 0 (omega arith) h)

  pub below_is : filter (λ n. nat_lt n (get_or kept j 0)) kept ≡ take j kept
  below_is =
      let p = λ (n : ℕ). nat_lt n (get_or kept j 0) in
      let front = filter_pass p (take j kept) (λ k lt. let h = before k lt in grind (arith, nat_tests)) in
      let back = filter_fail p (get_or kept j 0 ∷ drop (suc j) kept) (λ k lt. back_fails k lt) in
      ap (filter p) (split_at kept j 0 within) ∙ (filter-append p (take j kept) (get_or kept j 0 ∷ drop (suc j) kept) ∙ (ap (λ xs. xs ++ filter p (get_or kept j 0 ∷ drop (suc j) kept)) front ∙ (ap (λ xs. take j kept ++ xs) back ∙ append-nil (take j kept))))
    where
      back_fails : (k : ℕ) → k < length (get_or kept j 0 ∷ drop (suc j) kept) → nat_lt (get_or (get_or kept j 0 ∷ drop (suc j) kept) k 0) (get_or kept j 0) ≡ false
      back_fails zero lt = grind (arith, nat_tests)
      back_fails (suc k) lt = let h = beyond k (omega arith) in grind (arith, nat_tests)

  pub above_is : filter (λ n. nat_lt (get_or kept j 0) n) kept ≡ drop (suc j) kept
  above_is =
      let p = λ (n : ℕ). nat_lt (get_or kept j 0) n in
      let front = filter_fail p (take j kept) (λ k lt. let h = before k lt in grind (arith, nat_tests)) in
      let here : nat_lt (get_or kept j 0) (get_or kept j 0) ≡ false = grind (arith, nat_tests) in
      let back = filter_pass p (drop (suc j) kept) (λ k lt. let h = beyond k lt in grind (arith, nat_tests)) in
      ap (filter p) (split_at kept j 0 within) ∙ (filter-append p (take j kept) (get_or kept j 0 ∷ drop (suc j) kept) ∙ (ap (λ xs. xs ++ filter p (get_or kept j 0 ∷ drop (suc j) kept)) front ∙
      (ap (λ b. cond b (get_or kept j 0 ∷ filter p (drop (suc j) kept)) (filter p (drop (suc j) kept))) here ∙ back)))

-- one more number above all
pub increasing_push : (xs : List ℕ) (n last : ℕ) → IsStrictlyIncreasing xs → ((k : ℕ) → k < length xs → get_or xs k 0 ≤ last) → last < n → IsStrictlyIncreasing (xs ++ n ∷ [])
increasing_push xs n last rising bound more k within =
    let count = simp length-append at within in
    elim (nat_lt (k + 1) (length xs)) as (λ b. b ≡ nat_lt (k + 1) (length xs) → get_or (xs ++ n ∷ []) k 0 < get_or (xs ++ n ∷ []) (k + 1) 0) [
      | true ↦ λ t.
          let inside : k + 1 < length xs = grind (arith, nat_tests) in
          let a = get_or_append_left xs (n ∷ []) 0 k (omega arith) in
          let b = get_or_append_left xs (n ∷ []) 0 (k + 1) inside in
          omega (arith, rising k inside)
      | false ↦ λ t.
          let end : length xs ≡ k + 1 = grind (arith, nat_tests) in
          let a = get_or_append_left xs (n ∷ []) 0 k (omega arith) in
          let b = get_or_push xs n 0 (k + 1) end in
          omega (arith, bound k (omega arith))
    ] refl

pub number_at : (nodes : List Node) (i : ℕ) (d : Node) → i < length nodes → get_or (numbers nodes) (suc i) 0 ≡ (get_or nodes i d).number
number_at nodes i d within = get_or-map (λ (n : Node). n.number) nodes i d 0 within

pub length_numbers : (nodes : List Node) → length (numbers nodes) ≡ suc (length nodes)
length_numbers nodes = simp length-map

module _ (nodes : List Node) (number j : ℕ) (rising : IsStrictlyIncreasing (numbers nodes)) (within : j ≤ length nodes) (here : get_or (numbers nodes) j 0 ≡ number) where
  inside : j < length (numbers nodes)
  inside = omega (arith, length_numbers nodes)

  below_take : below nodes number ≡ take j (numbers nodes)
  below_take = ap (below nodes) (sym here) ∙ below_is (numbers nodes) j inside rising

  above_drop : above nodes number ≡ drop (suc j) (numbers nodes)
  above_drop = ap (above nodes) (sym here) ∙ above_is (numbers nodes) j inside rising

  pub length_below : length (below nodes number) ≡ j
  length_below = ap length below_take ∙ simp length-take (omega (arith, inside))

  pub length_above : length (above nodes number) ≡ length nodes - j
  length_above = ap length above_drop ∙ (length-drop (suc j) (numbers nodes) ∙ omega (arith, length_numbers nodes))

  pub nth_below_is : (by : ℕ) → 1 ≤ by → 0 < j → nth_below nodes number by ≡ get_or (numbers nodes) (j - by) 0
  nth_below_is by some more =
      ap (λ k. get_or (below nodes number) (k - by) 0) length_below ∙ (ap (λ xs. get_or xs (j - by) 0) below_take ∙ get_or-take j (numbers nodes) (j - by) 0 (omega arith))

  pub nth_above_is : (by : ℕ) → nth_above nodes number by ≡ get_or (numbers nodes) (suc j + (min by (length nodes - j) - 1)) 0
  nth_above_is by =
      ap (λ k. get_or (above nodes number) (min by k - 1) 0) length_above ∙ (ap (λ xs. get_or xs (min by (length nodes - j) - 1) 0) above_drop ∙ get_or-drop (suc j) (numbers nodes) (min by (length nodes - j) - 1) 0)

pub not_kept : (nodes : List Node) (number : ℕ) → IsKept nodes number → node_at nodes number ≡ None → number ≡ 0
not_kept nodes number kept none = elim kept [ inl at_root ↦ at_root | inr some ↦ absurd (let e : false ≡ true = sym (ap is_some none) ∙ some in cc) ]

-- the number of a change is kept
pub index_some : (nodes : List Node) (i : ℕ) (d : Node) → i < length nodes → is_some (node_at nodes (get_or nodes i d).number) ≡ true
index_some [] i d within = absurd (omega arith)
index_some (node ∷ nodes) zero d within = let e : (node.number == node.number) ≡ true = grind (arith, nat_tests) in ap (λ b. is_some (if b then Some node else node_at nodes node.number)) e
index_some (node ∷ nodes) (suc i) d within =
    elim (node.number == (get_or nodes i d).number) as (λ b. is_some (if b then Some node else node_at nodes (get_or nodes i d).number) ≡ true) [
      | true ↦ refl
      | false ↦ index_some nodes i d (omega arith)
    ]

pub index_kept : (nodes : List Node) (i : ℕ) (d : Node) → i < length nodes → IsKept nodes (get_or nodes i d).number
index_kept nodes i d within = inr (index_some nodes i d within)

-- two lists grow by one element each
pub zip_push : {A B : Type 0} (R : A → B → Type 0) (xs : List A) (ys : List B) (x : A) (y : B) → AllZip R xs ys → R x y → AllZip R (xs ++ x ∷ []) (ys ++ y ∷ [])
zip_push R [] [] x y zip r = (r, tt)
zip_push R [] (b ∷ ys) x y zip r = absurd zip
zip_push R (a ∷ xs) [] x y zip r = absurd zip
zip_push R (a ∷ xs) (b ∷ ys) x y zip r = (zip.0, zip_push R xs ys x y zip.1 r)
