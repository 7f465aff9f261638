-- Numbers of a list by their places, where no two are the same.
use Rattle.std.proofs.Common.{◌≡◌, ◌≢◌, inl, inr, ℕ, ◌+◌, ◌<◌, ◌==◌, nat_lt, true, false, cond, List, ◌∷◌, length, get_or, Some, None, unwrap_or, ap, ◌∙◌, arith}
use Rattle.std.specs.List.{AllPairs, position_or_len}
use Rattle.std.proofs.lemmas.Bool.Decides.{eqb_tells, nat_tests}
use Rattle.std.proofs.lemmas.List.Sums.{position_or_len_is}
use Rattle.vs_ubind.specs.Unbound.{after_in, before_in, place_in}

abbrev pub AreApart : List ℕ → Type 0
AreApart numbers = AllPairs (λ m n. m ≢ n) numbers

pub not_equal : (m n : ℕ) → m ≢ n → (m == n) ≡ false
not_equal m n differ = elim (eqb_tells m n) [
  | inl same ↦ absurd (differ same.1)
  | inr other ↦ other.0
]

pub is_equal : (n : ℕ) → (n == n) ≡ true
is_equal n = grind (arith, nat_tests)

pub place_at : (c : List ℕ) → AreApart c → (i : ℕ) → i < length c → place_in c (get_or c i 0) ≡ i
place_at c apart i within =
    let n = get_or c i 0 in
    let p = λ (m : ℕ). m == n in
    let at : position_or_len p c ≡ i = position_or_len_is p c i 0 (omega (arith, within)) (λ k lt. not_equal (get_or c k 0) n (apart k i 0 lt within)) (λ _. is_equal n) in
    let inside : nat_lt i (length c) ≡ true = grind (arith, nat_tests) in
    ap (λ k. unwrap_or (cond (nat_lt k (length c)) (Some k) None) (length c)) at ∙ ap (λ b. unwrap_or (cond b (Some i) None) (length c)) inside

pub after_at : (c : List ℕ) → AreApart c → (i : ℕ) → i < length c → after_in c (get_or c i 0) ≡ get_or c (i + 1) 0
after_at c apart i within = ap (λ k. get_or c (k + 1) 0) (place_at c apart i within)

pub before_at : (c : List ℕ) → AreApart c → (i : ℕ) → i < length c → before_in c (get_or c i 0) ≡ get_or (0 ∷ c) i 0
before_at c apart i within = ap (λ k. get_or (0 ∷ c) k 0) (place_at c apart i within)
