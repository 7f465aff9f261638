-- A way passes each change at most once, so it is no longer than the list of changes.
use Rattle.std.proofs.Common.{◌≡◌, ℕ, zero, suc, ◌≤◌, ◌==◌, ◌||◌, if◌then◌else◌, nat_eq, true, false, List, [], ◌∷◌, length, map, Option, Some, None, option_map, IsSome, unwrap_or, sym, ap, subst, ◌∙◌, arith, refl, length-append}
use Rattle.std.specs.List.{IsDistinct, AllByRecursion, list_any}
use Rattle.std.proofs.lemmas.Bool.Decides.{nat_tests}
use Rattle.std.proofs.lemmas.Cmp.{nat_eq_equiv}
use Rattle.std.proofs.lemmas.List.{length-map}
use Rattle.std.proofs.lemmas.Map.Made.{length-le_from_is_member}
use Rattle.vs_undo.specs.declared.parts.Node.{Node}
use Rattle.vs_undo.specs.Ways.{node_at, parent_at, start, IsWay, IsWayOf, is_on, IsTree, way_within, way_of}
use Rattle.vs_undo.proofs.WayLemmas.{cut_at, one_way, way_after}

module _ (parent : ℕ → Option ℕ) (root : parent 0 ≡ None) where
  once : (n : ℕ) (way : List ℕ) → IsWay parent (n ∷ way) → is_on way n ≡ true → ⊥
  once n way is on =
      let cut = cut_at way n on in
      let after = cut.1.0 in
      let tail : IsWay parent (n ∷ after) = way_after parent root cut.0 (n ∷ after) (subst (IsWay parent) cut.1.1 is.1) in
      let same : n ∷ way ≡ n ∷ after = one_way parent root (n ∷ way) (n ∷ after) is tail refl in
      omega (arith, ap length same, ap length cut.1.1, length-append cut.0 (n ∷ after))

  others : (n : ℕ) (rest : List ℕ) → (is_on rest n ≡ true → ⊥) → AllByRecursion (λ y. nat_eq n y ≡ false) rest
  others n [] h = tt
  others n (m ∷ rest) h =
      elim (m == n) as (λ b. b ≡ (m == n) → ((b || is_on rest n) ≡ true → ⊥) → (nat_eq n m ≡ false) × AllByRecursion (λ y. nat_eq n y ≡ false) rest) [
        | true ↦ λ t k. absurd (k refl)
        | false ↦ λ t k. (grind (arith, nat_tests), others n rest k)
      ] refl h

  distinct : (way : List ℕ) → IsWay parent way → IsDistinct nat_eq way
  unfolding IsDistinct
  distinct [] is = tt
  distinct (n ∷ way) is = (others n way (λ on. once n way is on), distinct way is.1)

-- a change with a parent is there
numbered : (nodes : List Node) (number : ℕ) → IsSome (node_at nodes number) → list_any (nat_eq number) (map (λ (n : Node). n.number) nodes) ≡ true
numbered [] number some = absurd (cc)
numbered (node ∷ nodes) number some =
    elim (node.number == number) as (λ b. b ≡ (node.number == number) → IsSome (if b then Some node else node_at nodes number) → (nat_eq number node.number || list_any (nat_eq number) (map (λ (n : Node). n.number) nodes)) ≡ true) [
      | true ↦ λ t h. let e : nat_eq number node.number ≡ true = grind (arith, nat_tests) in ap (λ b. b || list_any (nat_eq number) (map (λ (n : Node). n.number) nodes)) e
      | false ↦ λ t h. let e : nat_eq number node.number ≡ false = grind (arith, nat_tests) in ap (λ b. b || list_any (nat_eq number) (map (λ (n : Node). n.number) nodes)) e ∙ numbered nodes number h
    ] refl some

some_parent : (o : Option Node) (p : ℕ) → option_map (λ (n : Node). n.parent) o ≡ Some p → IsSome o
some_parent None p e = absurd (cc)
some_parent (Some x) p e = refl

members : (nodes : List Node) (way : List ℕ) → IsWay (λ k. parent_at nodes k) way → (q : ℕ) → list_any (nat_eq q) way ≡ true → list_any (nat_eq q) (map (λ (n : Node). n.number) nodes) ≡ true
members nodes [] is q on = absurd (cc)
members nodes (n ∷ way) is q on =
    elim (nat_eq q n) as (λ b. b ≡ nat_eq q n → (b || list_any (nat_eq q) way) ≡ true → list_any (nat_eq q) (map (λ (m : Node). m.number) nodes) ≡ true) [
      | true ↦ λ t h. let same : n ≡ q = grind (arith, nat_tests) in
          subst (λ k. list_any (nat_eq k) (map (λ (m : Node). m.number) nodes) ≡ true) same (numbered nodes n (some_parent (node_at nodes n) (start way) is.0))
      | false ↦ λ t h. members nodes way is.1 q h
    ] refl on

pub way_short : (nodes : List Node) (way : List ℕ) → IsTree nodes → IsWay (λ k. parent_at nodes k) way → length way ≤ length nodes
way_short nodes way tree is =
    let root : parent_at nodes 0 ≡ None = ap (option_map (λ (n : Node). n.parent)) tree.root in
    let d = distinct (λ k. parent_at nodes k) root way is in
    let most = length-le_from_is_member nat_eq_equiv way (map (λ (n : Node). n.number) nodes) d (λ q h. members nodes way is q h) in
    omega (arith, most, length-map nodes (λ (n : Node). n.number))

within_is : (most : ℕ) (nodes : List Node) (way : List ℕ) → parent_at nodes 0 ≡ None → IsWay (λ k. parent_at nodes k) way → length way ≤ most → way_within most nodes (start way) ≡ way
within_is zero nodes [] root is short = refl
within_is zero nodes (number ∷ way) root is short = absurd (omega (arith, short))
within_is (suc most) nodes [] root is short = ap (λ o. unwrap_or (option_map (λ p. 0 ∷ way_within most nodes p) o) []) root
within_is (suc most) nodes (number ∷ way) root is short =
    ap (λ o. unwrap_or (option_map (λ p. number ∷ way_within most nodes p) o) []) is.0 ∙ ap (λ (w : List ℕ). number ∷ w) (within_is most nodes way root is.1 (omega (arith, short)))

-- a state has no other way than the one that is computed
pub way_is : (nodes : List Node) (number : ℕ) (way : List ℕ) → IsTree nodes → IsWayOf nodes number way → way_of nodes number ≡ way
way_is nodes number way tree is =
    ap (way_of nodes) (sym is.starts) ∙ within_is (length nodes) nodes way (ap (option_map (λ (n : Node). n.parent)) tree.root) is.is_way (way_short nodes way tree is.is_way)
