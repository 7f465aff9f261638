-- A binary search by rising numbers ends at the change with the number.
use Rattle.std.proofs.Common.{◌≡◌, ℕ, suc, ◌<◌, ◌≤◌, ◌==◌, nat_lt, cond, true, false, List, [], length, get_or, Result, Ok, Err, Some, None, sym, ap, ◌∙◌, arith, refl}
use Rattle.std.specs.List.{position}
use Rattle.std.specs.List.Sorted.{IsStrictlyIncreasing, IsSearchInRange, IsBinarySearchResult, IsNonDecreasingBy}
use Rattle.std.specs.Ordering.{nat_cmp, ordering_index}
use Rattle.std.specs.Result.{result_ok}
use Rattle.std.proofs.lemmas.Bool.Decides.{nat_tests}
use Rattle.std.proofs.lemmas.Cmp.{ranked}
use Rattle.std.proofs.lemmas.List.{get_or_default}
use Rattle.std.proofs.lemmas.List.Kept.{AllPairs-from_increasing}
use Rattle.std.proofs.lemmas.List.Sorted.{IsNonDecreasingBy-from_default}
use Rattle.std.proofs.lemmas.List.Sums.{position_or_len_is}
use Rattle.vs_undo.specs.declared.parts.Node.{Node}
use Rattle.vs_undo.specs.Numbers.{numbers}
use Rattle.vs_undo.specs.Ways.{node_at}
use Rattle.vs_undo.proofs.NodeLemmas.{found_at}
use Rattle.vs_undo.proofs.NumberLemmas.{number_at, length_numbers}

module _ (nodes : List Node) (rising : IsStrictlyIncreasing (numbers nodes)) (number : ℕ) where
  abbrev none : Node
  none = record { number = 0; parent = 0; last_child = 0; time = 0; save = 0; entries = [] }

  ascending : (i j : ℕ) → i < j → j < length nodes → (get_or nodes i none).number < (get_or nodes j none).number
  ascending i j lt within =
      let pair = AllPairs-from_increasing (numbers nodes) rising (suc i) (suc j) 0 (omega arith) (omega (arith, length_numbers nodes)) in
      omega (arith, pair, number_at nodes i none (omega arith), number_at nodes j none within)

  comparisons_rise : IsNonDecreasingBy (λ (n : Node). ordering_index (nat_cmp n.number number)) nodes
  comparisons_rise = IsNonDecreasingBy-from_default (λ (n : Node). ordering_index (nat_cmp n.number number)) nodes none (λ i j le within.
      let up : (get_or nodes i none).number ≤ (get_or nodes j none).number = grind (arith, ascending i j, λ (same : i ≡ j). ap (λ k. (get_or nodes k none).number) same) in
      grind (arith, nat_tests))

  placed : (at : ℕ) → at ≤ length nodes → ((k : ℕ) → k < at → ((get_or nodes k none).number == number) ≡ false) → (at < length nodes → ((get_or nodes at none).number == number) ≡ true)
      → position (λ (n : Node). n.number == number) nodes ≡ cond (nat_lt at (length nodes)) (Some at) None
  placed at within before here =
      ap (λ k. cond (nat_lt k (length nodes)) (Some k) None) (position_or_len_is (λ (n : Node). n.number == number) nodes at none within before here)

  pub searched : (r : Result ℕ ℕ) → IsSearchInRange r (length nodes) → IsBinarySearchResult (λ (n : Node). nat_cmp n.number number) nodes r → result_ok r ≡ position (λ (n : Node). n.number == number) nodes
  searched (Ok at) within equal =
      let is : (get_or nodes at none).number ≡ number = ranked _ number _ (sym (equal none)) in
      let inside : nat_lt at (length nodes) ≡ true = grind (arith, nat_tests) in
      sym (placed at (omega arith) (λ k lt. let up = ascending k at lt within in grind (arith, nat_tests)) (λ _. grind (arith, nat_tests)) ∙ ap (λ b. cond b (Some at) None) inside)
  searched (Err at) within parted =
      let less : (k : ℕ) → k < at → (get_or nodes k none).number < number = λ k lt. ranked _ number _ (sym ((parted comparisons_rise).0 k none (omega arith) lt)) in
      let more : (k : ℕ) → at ≤ k → k < length nodes → number < (get_or nodes k none).number = λ k le lt. ranked _ number _ (sym ((parted comparisons_rise).1 k none le lt)) in
      let past : nat_lt (length nodes) (length nodes) ≡ false = grind (arith, nat_tests) in
      sym (placed (length nodes) (omega arith) (λ k lt. other k lt (less k) (more k)) (λ lt. absurd (omega arith)) ∙ ap (λ b. cond b (Some (length nodes)) None) past)
    where
      other : (k : ℕ) → k < length nodes → (k < at → (get_or nodes k none).number < number) → (at ≤ k → k < length nodes → number < (get_or nodes k none).number) → ((get_or nodes k none).number == number) ≡ false
      other k lt a b =
          elim (nat_lt k at) as (λ t. t ≡ nat_lt k at → ((get_or nodes k none).number == number) ≡ false) [
            | true ↦ λ t. let h = a (grind (arith, nat_tests)) in grind (arith, nat_tests)
            | false ↦ λ t. let h = b (grind (arith, nat_tests)) lt in grind (arith, nat_tests)
          ] refl

-- the change at an index is the one with its number
pub index_found : (nodes : List Node) (k : ℕ) (d : Node) → IsStrictlyIncreasing (numbers nodes) → k < length nodes → node_at nodes (get_or nodes k d).number ≡ Some (get_or nodes k d)
index_found nodes k d rising within =
    let number = (get_or nodes k d).number in
    let none : Node = record { number = 0; parent = 0; last_child = 0; time = 0; save = 0; entries = [] } in
    let same : number ≡ (get_or nodes k none).number = ap (λ (n : Node). n.number) (get_or_default nodes k d none within) in
    let inside : nat_lt k (length nodes) ≡ true = grind (arith, nat_tests) in
    let at = placed nodes rising number k (omega arith) (λ j lt. let up = ascending nodes rising number j k lt within in grind (arith, nat_tests)) (λ _. grind (arith, nat_tests)) in
    found_at (λ (n : Node). n.number == number) nodes k d (at ∙ ap (λ b. cond b (Some k) None) inside)

-- the place of a number is where a change has it
pub place_is : (nodes : List Node) (number k : ℕ) (d : Node) → IsStrictlyIncreasing (numbers nodes) → k < length nodes → (get_or nodes k d).number ≡ number → Some k ≡ position (λ (n : Node). n.number == number) nodes
place_is nodes number k d rising within is =
    let none : Node = record { number = 0; parent = 0; last_child = 0; time = 0; save = 0; entries = [] } in
    let same : number ≡ (get_or nodes k none).number = sym is ∙ ap (λ (n : Node). n.number) (get_or_default nodes k d none within) in
    let inside : nat_lt k (length nodes) ≡ true = grind (arith, nat_tests) in
    sym (placed nodes rising number k (omega arith) (λ j lt. let up = ascending nodes rising number j k lt within in grind (arith, nat_tests)) (λ _. grind (arith, nat_tests)) ∙ ap (λ b. cond b (Some k) None) inside)
