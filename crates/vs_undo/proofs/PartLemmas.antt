-- Some changes are left out by their numbers: what is found at a number is then found where the test passes.
use Rattle.std.proofs.Common.{◌≡◌, ℕ, suc, ◌<◌, ◌≤◌, ◌==◌, ◌||◌, if◌then◌else◌, cond, Bool, true, false, List, [], ◌∷◌, length, get_or, map, Option, Some, None, option_map, unwrap_or, IsSome, ◌⊎◌, inl, inr, sym, ap, subst, ◌∙◌, arith, refl}
use Rattle.std.specs.List.{filter}
use Rattle.std.specs.List.Sorted.{IsStrictlyIncreasing}
use Rattle.std.proofs.lemmas.Bool.Decides.{nat_tests}
use Rattle.std.proofs.lemmas.List.Kept.{IsStrictlyIncreasing-filter, AllPairs-from_increasing}
use Rattle.vs_undo.specs.declared.parts.Node.{Node}
use Rattle.vs_undo.specs.Ways.{node_at, parent_at, save_at}
use Rattle.vs_undo.specs.Numbers.{numbers}

none_both : (b : Bool) → ◌≡◌ {A = Option Node} None (if b then None else None)
none_both true = refl
none_both false = refl

module _ (t : ℕ → Bool) where
  abbrev pub only : List Node → List Node
  only nodes = filter (λ (n : Node). t n.number) nodes

  pub at_only : (nodes : List Node) (k : ℕ) → node_at (only nodes) k ≡ (if t k then node_at nodes k else None)
  at_only [] k = none_both (t k)
  at_only (node ∷ nodes) k =
      elim (node.number == k) as (λ b. b ≡ (node.number == k) → node_at (cond (t node.number) (node ∷ only nodes) (only nodes)) k ≡ (if t k then (if b then Some node else node_at nodes k) else None)) [
        | true ↦ λ is.
            let e : node.number ≡ k = grind (arith, nat_tests) in
            elim (t k) as (λ b. t k ≡ b → node_at (cond (t node.number) (node ∷ only nodes) (only nodes)) k ≡ (if b then Some node else None)) [
              | true ↦ λ h. ap (λ b. node_at (cond b (node ∷ only nodes) (only nodes)) k) (ap t e ∙ h) ∙ ap (λ b. if b then Some node else node_at (only nodes) k) (sym is)
              | false ↦ λ h. ap (λ b. node_at (cond b (node ∷ only nodes) (only nodes)) k) (ap t e ∙ h) ∙ (at_only nodes k ∙ ap (λ b. if b then node_at nodes k else None) h)
            ] refl
        | false ↦ λ is.
            elim (t node.number) as (λ b. node_at (cond b (node ∷ only nodes) (only nodes)) k ≡ (if t k then node_at nodes k else None)) [
              | true ↦ ap (λ b. if b then Some node else node_at (only nodes) k) (sym is) ∙ at_only nodes k
              | false ↦ at_only nodes k
            ]
      ] refl

  pub at_only_yes : (nodes : List Node) (k : ℕ) → t k ≡ true → node_at (only nodes) k ≡ node_at nodes k
  at_only_yes nodes k is = at_only nodes k ∙ ap (λ b. if b then node_at nodes k else None) is

  pub at_only_no : (nodes : List Node) (k : ℕ) → t k ≡ false → node_at (only nodes) k ≡ None
  at_only_no nodes k is = at_only nodes k ∙ ap (λ b. if b then node_at nodes k else None) is

  -- what is found there was there
  pub only_was : (nodes : List Node) (k : ℕ) (node : Node) → node_at (only nodes) k ≡ Some node → (t k ≡ true) × (node_at nodes k ≡ Some node)
  only_was nodes k node is =
      elim (t k) as (λ b. t k ≡ b → (t k ≡ true) × (node_at nodes k ≡ Some node)) [
        | true ↦ λ h. (h, sym (at_only_yes nodes k h) ∙ is)
        | false ↦ λ h. absurd (let e : None ≡ Some node = sym (at_only_no nodes k h) ∙ is in cc)
      ] refl

  pub only_parent : (nodes : List Node) (k : ℕ) → t k ≡ true → parent_at (only nodes) k ≡ parent_at nodes k
  only_parent nodes k is = ap (option_map (λ (n : Node). n.parent)) (at_only_yes nodes k is)

  pub only_parent_was : (nodes : List Node) (k p : ℕ) → parent_at (only nodes) k ≡ Some p → (t k ≡ true) × (parent_at nodes k ≡ Some p)
  only_parent_was nodes k p is =
      elim (t k) as (λ b. t k ≡ b → (t k ≡ true) × (parent_at nodes k ≡ Some p)) [
        | true ↦ λ h. (h, sym (only_parent nodes k h) ∙ is)
        | false ↦ λ h. absurd (let e : None ≡ Some p = sym (ap (option_map (λ (n : Node). n.parent)) (at_only_no nodes k h)) ∙ is in cc)
      ] refl

  pub only_some : (nodes : List Node) (k : ℕ) → IsSome (node_at (only nodes) k) → (t k ≡ true) × IsSome (node_at nodes k)
  only_some nodes k some =
      elim (t k) as (λ b. t k ≡ b → (t k ≡ true) × IsSome (node_at nodes k)) [
        | true ↦ λ h. (h, subst IsSome (at_only_yes nodes k h) some)
        | false ↦ λ h. absurd (let e = subst IsSome (at_only_no nodes k h) some in cc)
      ] refl

  pub only_save : (nodes : List Node) (k : ℕ) → (save_at (only nodes) k ≡ save_at nodes k) ⊎ (save_at (only nodes) k ≡ 0)
  only_save nodes k =
      elim (t k) as (λ b. t k ≡ b → (save_at (only nodes) k ≡ save_at nodes k) ⊎ (save_at (only nodes) k ≡ 0)) [
        | true ↦ λ h. inl (ap (λ o. unwrap_or (option_map (λ (n : Node). n.save) o) 0) (at_only_yes nodes k h))
        | false ↦ λ h. inr (ap (λ o. unwrap_or (option_map (λ (n : Node). n.save) o) 0) (at_only_no nodes k h))
      ] refl

  map_only : (nodes : List Node) → map (λ (n : Node). n.number) (only nodes) ≡ filter t (map (λ (n : Node). n.number) nodes)
  map_only [] = refl
  map_only (node ∷ nodes) =
      elim (t node.number) as (λ b. map (λ (n : Node). n.number) (cond b (node ∷ only nodes) (only nodes)) ≡ cond b (node.number ∷ filter t (map (λ (n : Node). n.number) nodes)) (filter t (map (λ (n : Node). n.number) nodes))) [
        | true ↦ ap (λ ns. node.number ∷ ns) (map_only nodes)
        | false ↦ map_only nodes
      ]

  abbrev or_root : ℕ → Bool
  or_root k = (k == 0) || t k

  same_below : (xs : List ℕ) → ((k : ℕ) → k < length xs → 0 < get_or xs k 0) → filter or_root xs ≡ filter t xs
  same_below [] some = refl
  same_below (x ∷ xs) some =
      let more : 0 < x = some 0 (omega arith) in
      let e : (x == 0) ≡ false = grind (arith, nat_tests) in
      ap (λ b. cond (b || t x) (x ∷ filter or_root xs) (filter or_root xs)) e ∙ ap (λ ys. cond (t x) (x ∷ ys) ys) (same_below xs (λ k within. some (suc k) (omega arith)))

  pub only_rising : (nodes : List Node) → IsStrictlyIncreasing (numbers nodes) → IsStrictlyIncreasing (numbers (only nodes))
  only_rising nodes rising =
      let xs = map (λ (n : Node). n.number) nodes in
      let some : (k : ℕ) → k < length xs → 0 < get_or xs k 0 = λ k within. AllPairs-from_increasing (0 ∷ xs) rising 0 (suc k) 0 (omega arith) (omega arith) in
      subst (λ ns. IsStrictlyIncreasing (0 ∷ ns)) (same_below xs some ∙ sym (map_only nodes)) (IsStrictlyIncreasing-filter or_root (0 ∷ xs) rising)

  length_only : (nodes : List Node) → length (only nodes) ≤ length nodes
  length_only [] = omega arith
  length_only (node ∷ nodes) =
      let rest = length_only nodes in
      elim (t node.number) as (λ b. length (cond b (node ∷ only nodes) (only nodes)) ≤ suc (length nodes)) [ true ↦ omega arith | false ↦ omega arith ]

  -- where a change is left out, fewer are left
  pub only_fewer : (nodes : List Node) (k : ℕ) → IsSome (node_at nodes k) → t k ≡ false → length (only nodes) < length nodes
  only_fewer [] k some fails = absurd (cc)
  only_fewer (node ∷ nodes) k some fails =
      elim (node.number == k) as (λ b. b ≡ (node.number == k) → IsSome (if b then Some node else node_at nodes k) → length (cond (t node.number) (node ∷ only nodes) (only nodes)) < suc (length nodes)) [
        | true ↦ λ is h.
            let e : node.number ≡ k = grind (arith, nat_tests) in
            let rest = length_only nodes in
            subst (λ b. length (cond b (node ∷ only nodes) (only nodes)) < suc (length nodes)) (sym (ap t e ∙ fails)) (omega arith)
        | false ↦ λ is h.
            let rest = only_fewer nodes k h fails in
            elim (t node.number) as (λ b. length (cond b (node ∷ only nodes) (only nodes)) < suc (length nodes)) [ true ↦ omega arith | false ↦ omega arith ]
      ] refl some
