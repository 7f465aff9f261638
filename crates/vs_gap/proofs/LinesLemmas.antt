-- A list whose first part has gaps, and whose second part is bytes.
use Rattle.std.proofs.Common.{◌≡◌, ◌∙◌, ◌⊎◌, inl, inr, ◌+◌, ◌-◌, ◌<◌, ◌≤◌, ℕ, zero, suc, List, [], ◌∷◌, ◌++◌, length, take, drop, get_or, min, ap, sym, arith, refl, append_assoc, length-drop}
use Rattle.std.proofs.lemmas.Bool.{cases_lt}
use Rattle.std.proofs.lemmas.List.{append-nil, drop-append-le, drop_all, take-append-le, take_all}
use Rattle.vs_edit.specs.Splices.{cut_out, splice}
use Rattle.vs_gap.proofs.GapLemmas.{cut-last}

drop-both : {X : Type 0} (n : ℕ) (xs ys : List X) → drop n (xs ++ ys) ≡ drop n xs ++ drop (n - length xs) ys
drop-both {X} n [] ys =
    let same : n ≡ n - 0 = omega arith in
    let empty : List X = [] in
    let none : drop n empty ≡ empty = drop_all n empty (omega arith) in
    ap (λ k. drop k ys) same ∙ ap (λ l. l ++ drop (n - 0) ys) (sym none)
drop-both zero (x ∷ xs) ys =
    let none : 0 ≡ 0 - length (x ∷ xs) = omega arith in
    ap (λ k. (x ∷ xs) ++ drop k ys) none
drop-both (suc n) (x ∷ xs) ys =
    let same : n - length xs ≡ suc n - length (x ∷ xs) = omega arith in
    drop-both n xs ys ∙ ap (λ k. drop n xs ++ drop k ys) same

take-both : {X : Type 0} (n : ℕ) (xs ys : List X) → take n (xs ++ ys) ≡ take n xs ++ take (n - length xs) ys
take-both {X} n [] ys =
    let same : n ≡ n - 0 = omega arith in
    let empty : List X = [] in
    let none : take n empty ≡ empty = take_all n empty (omega arith) in
    ap (λ k. take k ys) same ∙ ap (λ l. l ++ take (n - 0) ys) (sym none)
take-both zero (x ∷ xs) ys =
    let none : 0 ≡ 0 - length (x ∷ xs) = omega arith in
    ap (λ k. take k ys) none
take-both (suc n) (x ∷ xs) ys =
    let same : n - length xs ≡ suc n - length (x ∷ xs) = omega arith in
    ap (λ l. x ∷ l) (take-both n xs ys ∙ ap (λ k. take n xs ++ take k ys) same)

-- the first line goes from the second part to the first
pub first-moved : {X : Type 0} (a b : List X) (x d : X) → 0 < length b → x ≡ get_or b 0 d → (a ++ x ∷ []) ++ drop 1 b ≡ a ++ b
first-moved a [] x d some is = absurd (omega (arith, some))
first-moved a (y ∷ b) x d some is = append_assoc a (x ∷ []) b ∙ ap (λ z. a ++ (z ∷ b)) is

module _ {X : Type 0} (xs ys : List X) (at old first : ℕ) (within : at ≤ length xs) (is : first ≡ min old (length xs - at)) where
  left : at + old - length xs ≡ old - first
  left = omega (arith, within, is)

  back : drop (at + old) xs ≡ drop (at + first) xs
  back =
      let cases : (old < length xs - at) ⊎ (length xs - at ≤ old) = cases_lt old (length xs - at) in
      by cases where
        by : (old < length xs - at) ⊎ (length xs - at ≤ old) → drop (at + old) xs ≡ drop (at + first) xs
        by (inl short) = let same : old ≡ first = omega (arith, is, short) in ap (λ k. drop (at + k) xs) same
        by (inr long) = drop_all (at + old) xs (omega (arith, long, within)) ∙ sym (drop_all (at + first) xs (omega (arith, is, long, within)))

  front : take old (drop at xs) ≡ take first (drop at xs)
  front =
      let size = length-drop at xs in
      let cases : (old < length xs - at) ⊎ (length xs - at ≤ old) = cases_lt old (length xs - at) in
      by cases where
        by : (old < length xs - at) ⊎ (length xs - at ≤ old) → take old (drop at xs) ≡ take first (drop at xs)
        by (inl short) = let same : old ≡ first = omega (arith, is, short) in ap (λ k. take k (drop at xs)) same
        by (inr long) = take_all old (drop at xs) (omega (arith, long, length-drop at xs)) ∙ sym (take_all first (drop at xs) (omega (arith, is, long, length-drop at xs)))

  -- a change in the first part, which may reach into the second
  pub splice-both : (new : List X) → splice xs at first new ++ drop (old - first) ys ≡ splice (xs ++ ys) at old new
  splice-both new =
      append_assoc (take at xs ++ new) (drop (at + first) xs) (drop (old - first) ys)
      ∙ ap (λ l. (take at xs ++ new) ++ (l ++ drop (old - first) ys)) (sym back) ∙ ap (λ k. (take at xs ++ new) ++ (drop (at + old) xs ++ drop k ys)) (sym left)
      ∙ ap (λ l. (take at xs ++ new) ++ l) (sym (drop-both (at + old) xs ys)) ∙ ap (λ l. (l ++ new) ++ drop (at + old) (xs ++ ys)) (sym (take-append-le at xs ys within))

  pub cut-both : cut_out (xs ++ ys) at old ≡ cut_out xs at first ++ take (old - first) ys
  cut-both =
      let rest : old - length (drop at xs) ≡ old - first = omega (arith, length-drop at xs, is) in
      ap (take old) (drop-append-le at xs ys within) ∙ take-both old (drop at xs) ys ∙ ap (λ l. l ++ take (old - length (drop at xs)) ys) front
      ∙ ap (λ k. take first (drop at xs) ++ take k ys) rest

-- lines of both parts
pub cut-parts : {X : Type 0} (xs ys : List X) (at count first before : ℕ) → first ≡ min at (length xs) → before ≡ min count (length xs - first)
    → cut_out (xs ++ ys) at count ≡ cut_out xs first before ++ cut_out ys (at - first) (count - before)
cut-parts xs ys at count first before first_is before_is =
    let cases : (at < length xs) ⊎ (length xs ≤ at) = cases_lt at (length xs) in
    by cases where
      by : (at < length xs) ⊎ (length xs ≤ at) → cut_out (xs ++ ys) at count ≡ cut_out xs first before ++ cut_out ys (at - first) (count - before)
      by (inl below) =
          let same : first ≡ at = omega (arith, first_is, below) in
          let start : 0 ≡ at - first = omega (arith, same) in
          cut-both xs ys at count before (omega (arith, below)) (before_is ∙ ap (λ k. min count (length xs - k)) same)
          ∙ ap (λ k. cut_out xs k before ++ take (count - before) ys) (sym same)
          ∙ ap (λ k. cut_out xs first before ++ take (count - before) (drop k ys)) start
      by (inr past) =
          let none : before ≡ 0 = omega (arith, first_is, before_is, past) in
          let all : count ≡ count - before = omega (arith, none) in
          cut-last xs ys at (at - first) count (omega (arith, first_is, past))
          ∙ ap (λ k. cut_out ys (at - first) k) all ∙ ap (λ k. cut_out xs first k ++ cut_out ys (at - first) (count - before)) (sym none)
