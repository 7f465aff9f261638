-- The chain of a state has its children, each once.
use Rattle.std.proofs.Common.{◌≡◌, ◌≢◌, inl, inr, ℕ, zero, suc, ◌-◌, ◌<◌, ◌==◌, ◌&&◌, not, if◌then◌else◌, Bool, true, false, List, [], ◌∷◌, length, get_or, map, reverse, Some, option_map, refl, sym, ap, subst, ◌∙◌, arith}
use Rattle.std.specs.List.{filter}
use Rattle.std.specs.List.Sorted.{IsStrictlyIncreasing}
use Rattle.std.proofs.lemmas.Bool.{true≢false}
use Rattle.std.proofs.lemmas.Bool.Decides.{eqb_tells}
use Rattle.std.proofs.lemmas.Grind.{get_or_default_zero}
use Rattle.std.proofs.lemmas.List.{get_or-reverse, length-reverse}
use Rattle.vs_undo.specs.declared.parts.Node.{Node}
use Rattle.vs_undo.specs.declared.parts.Parts.{Parts}
use Rattle.vs_undo.specs.Ways.{node_at, parent_at}
use Rattle.vs_undo.specs.Sound.{child_of, IsSound}
use Rattle.vs_undo.specs.Numbers.{numbers}
use Rattle.vs_undo.proofs.SearchLemmas.{index_found}
use Rattle.vs_ubind.specs.Unbound.{chain_of, other_children}
use Rattle.vs_ubind.proofs.Marked.{Rises, rises_from}
use Rattle.vs_ubind.proofs.Places.{AreApart, not_equal}

-- ---- the children of a state but one
module _ (parent first : ℕ) where
  abbrev test : Node → Bool
  test node = (node.parent == parent) && not (node.number == first)

  test_true : (node : Node) → test node ≡ true → (node.parent ≡ parent) × (node.number ≢ first)
  test_true node is = elim (eqb_tells node.parent parent) [
    | inl same ↦ elim (eqb_tells node.number first) [
      | inl first_one ↦ absurd (true≢false (sym is ∙ (λ i. same.0 i && not (first_one.0 i))))
      | inr other ↦ (same.1, other.1)
    ]
    | inr not_child ↦ absurd (true≢false (sym is ∙ (λ i. not_child.0 i && not (node.number == first))))
  ]

  equal_child : (node : Node) → node.parent ≡ parent → (node.parent == parent) ≡ true
  equal_child node child = elim (eqb_tells node.parent parent) [
    | inl same ↦ same.0
    | inr other ↦ absurd (other.1 child)
  ]

  others_above : (nodes : List Node) (below : ℕ) → Rises below nodes → (k : ℕ) → k < length (other_children nodes parent first) → below < get_or (other_children nodes parent first) k 0
  others_above [] below rises k within = absurd (omega (arith, within))
  others_above (node ∷ nodes) below rises k within =
      elim (test node) as (λ b. k < length (map (λ (n : Node). n.number) (if b then node ∷ filter test nodes else filter test nodes)) → below < get_or (map (λ (n : Node). n.number) (if b then node ∷ filter test nodes else filter test nodes)) k 0) [
        | true ↦ λ lt. above (λ j le. others_above nodes node.number rises.1 j le) k lt
        | false ↦ λ lt. let more = others_above nodes node.number rises.1 k lt in omega (arith, rises.0, more)
      ] within
    where
      above : ((j : ℕ) → j < length (other_children nodes parent first) → node.number < get_or (other_children nodes parent first) j 0) → (k : ℕ) → k < length (node.number ∷ other_children nodes parent first) → below < get_or (node.number ∷ other_children nodes parent first) k 0
      above ih zero lt = rises.0
      above ih (suc k) lt = let more = ih k (omega (arith, lt)) in omega (arith, rises.0, more)

  others_rise : (nodes : List Node) (below : ℕ) → Rises below nodes → (i j : ℕ) → i < j → j < length (other_children nodes parent first) → get_or (other_children nodes parent first) i 0 < get_or (other_children nodes parent first) j 0
  others_rise [] below rises i j lt within = absurd (omega (arith, within))
  others_rise (node ∷ nodes) below rises i j lt within =
      elim (test node) as (λ b. j < length (map (λ (n : Node). n.number) (if b then node ∷ filter test nodes else filter test nodes))
      → get_or (map (λ (n : Node). n.number) (if b then node ∷ filter test nodes else filter test nodes)) i 0 < get_or (map (λ (n : Node). n.number) (if b then node ∷ filter test nodes else filter test nodes)) j 0) [
        | true ↦ λ here. rise (λ a b le in_list. others_rise nodes node.number rises.1 a b le in_list) i j lt here
        | false ↦ λ here. others_rise nodes node.number rises.1 i j lt here
      ] within
    where
      rise : ((i j : ℕ) → i < j → j < length (other_children nodes parent first) → get_or (other_children nodes parent first) i 0 < get_or (other_children nodes parent first) j 0)
          → (i j : ℕ) → i < j → j < length (node.number ∷ other_children nodes parent first) → get_or (node.number ∷ other_children nodes parent first) i 0 < get_or (node.number ∷ other_children nodes parent first) j 0
      rise ih i zero lt within = absurd (omega (arith, lt))
      rise ih zero (suc j) lt within = others_above nodes node.number rises.1 j (omega (arith, within))
      rise ih (suc i) (suc j) lt within = ih i j (omega (arith, lt)) (omega (arith, within))

  -- each is the number of a change with this parent
  other_is : (nodes : List Node) (k : ℕ) → k < length (other_children nodes parent first)
      → (j : ℕ) × (j < length nodes) × ((d : Node) → ((get_or nodes j d).number ≡ get_or (other_children nodes parent first) k 0) × ((get_or nodes j d).parent ≡ parent)) × (get_or (other_children nodes parent first) k 0 ≢ first)
  other_is [] k within = absurd (omega (arith, within))
  other_is (node ∷ nodes) k within =
      elim (test node) as (λ b. b ≡ test node → (let xs = map (λ (n : Node). n.number) (if b then node ∷ filter test nodes else filter test nodes) in
      k < length xs → (j : ℕ) × (j < length (node ∷ nodes)) × ((d : Node) → ((get_or (node ∷ nodes) j d).number ≡ get_or xs k 0) × ((get_or (node ∷ nodes) j d).parent ≡ parent)) × (get_or xs k 0 ≢ first))) [
        | true ↦ λ is lt. this (λ j le. other_is nodes j le) k (sym is) lt
        | false ↦ λ is lt. let more = other_is nodes k lt in (suc more.0, omega (arith, more.1), more.2, more.3)
      ] refl within
    where
      this : ((k : ℕ) → k < length (other_children nodes parent first)
          → (j : ℕ) × (j < length nodes) × ((d : Node) → ((get_or nodes j d).number ≡ get_or (other_children nodes parent first) k 0) × ((get_or nodes j d).parent ≡ parent)) × (get_or (other_children nodes parent first) k 0 ≢ first))
          → (k : ℕ) → test node ≡ true → k < length (node.number ∷ other_children nodes parent first)
          → (j : ℕ) × (j < length (node ∷ nodes)) × ((d : Node) → ((get_or (node ∷ nodes) j d).number ≡ get_or (node.number ∷ other_children nodes parent first) k 0) × ((get_or (node ∷ nodes) j d).parent ≡ parent)) × (get_or (node.number ∷ other_children nodes parent first) k 0 ≢ first)
      this ih zero is lt = let both = test_true node is in (0, omega arith, λ d. (refl, both.0), both.1)
      this ih (suc k) is lt = let more = ih k (omega (arith, lt)) in (suc more.0, omega (arith, more.1), more.2, more.3)

  -- each change with this parent is there
  other_found : (nodes : List Node) (j : ℕ) (d : Node) → j < length nodes → (get_or nodes j d).parent ≡ parent → (get_or nodes j d).number ≢ first
      → (k : ℕ) × (k < length (other_children nodes parent first)) × (get_or (other_children nodes parent first) k 0 ≡ (get_or nodes j d).number)
  other_found [] j d within child other = absurd (omega (arith, within))
  other_found (node ∷ nodes) zero d within child other =
      let is : test node ≡ true = λ i. equal_child node child i && not (not_equal node.number first other i) in
      subst (λ b. (let xs = map (λ (n : Node). n.number) (if b then node ∷ filter test nodes else filter test nodes) in (k : ℕ) × (k < length xs) × (get_or xs k 0 ≡ node.number))) (sym is) (0, omega arith, refl)
  other_found (node ∷ nodes) (suc j) d within child other =
      let more = other_found nodes j d (omega (arith, within)) child other in
      elim (test node) as (λ b. (let xs = map (λ (n : Node). n.number) (if b then node ∷ filter test nodes else filter test nodes) in (k : ℕ) × (k < length xs) × (get_or xs k 0 ≡ (get_or nodes j d).number))) [
        | true ↦ (suc more.0, omega (arith, more.1), more.2)
        | false ↦ more
      ]

-- ---- the chain
abbrev pub IsChild : Parts → ℕ → ℕ → Type 0
IsChild parts parent number = parent_at parts.nodes number ≡ Some parent

-- the number stands at this place of the chain of its parent
pub record IsAt (parts : Parts) (parent place number : ℕ) : Type 0 where
  pub child : IsChild parts parent number
  pub within : place < length (chain_of parts parent)
  pub is : get_or (chain_of parts parent) place 0 ≡ number

pub none : Node
none = record { number = 0; parent = 0; last_child = 0; time = 0; save = 0; entries = [] }

-- a child is a change at some index
pub child_index : (nodes : List Node) (number parent : ℕ) → parent_at nodes number ≡ Some parent
    → (j : ℕ) × (j < length nodes) × ((get_or nodes j none).number ≡ number) × ((get_or nodes j none).parent ≡ parent)
child_index [] number parent child = absurd (cc)
child_index (node ∷ nodes) number parent child = elim (eqb_tells node.number number) [
  | inl same ↦
      let is : Some node.parent ≡ Some parent = sym (ap (λ b. option_map (λ (n : Node). n.parent) (if b then Some node else node_at nodes number)) same.0) ∙ child in
      (0, omega arith, same.1, some_same node.parent parent is)
  | inr other ↦
      let later = child_index nodes number parent (sym (ap (λ b. option_map (λ (n : Node). n.parent) (if b then Some node else node_at nodes number)) other.0) ∙ child) in
      (suc later.0, omega (arith, later.1), later.2, later.3)
]
  where
    some_same : (a b : ℕ) → Some a ≡ Some b → a ≡ b
    some_same a b e = cc

module _ (parts : Parts) (rising : IsStrictlyIncreasing (numbers parts.nodes)) where
  rises : Rises 0 parts.nodes
  rises = rises_from parts.nodes 0 rising

  -- the place of the others in the chain
  turned : (parent k : ℕ) → k < length (other_children parts.nodes parent (child_of parts parent))
      → get_or (reverse (other_children parts.nodes parent (child_of parts parent))) k 0 ≡ get_or (other_children parts.nodes parent (child_of parts parent)) (length (other_children parts.nodes parent (child_of parts parent)) - 1 - k) 0
  turned parent k within = get_or-reverse (other_children parts.nodes parent (child_of parts parent)) k 0 within

  count : (parent : ℕ) → length (reverse (other_children parts.nodes parent (child_of parts parent))) ≡ length (other_children parts.nodes parent (child_of parts parent))
  count parent = length-reverse (other_children parts.nodes parent (child_of parts parent))

  -- a place past the first in the chain, among the others
  placed : (parent j : ℕ) → suc j < length (chain_of parts parent) → j < length (other_children parts.nodes parent (child_of parts parent))
  placed parent j within = omega (arith, within, count parent)

  pub chain_apart : (parent : ℕ) → AreApart (chain_of parts parent)
  chain_apart parent i zero d lt within = absurd (omega (arith, lt))
  chain_apart parent zero (suc j) d lt within = λ same.
      let first = child_of parts parent in
      let others = other_children parts.nodes parent first in
      let inside = placed parent j within in
      let at : length others - 1 - j < length others = omega (arith, inside) in
      let here : get_or (reverse others) j d ≡ get_or others (length others - 1 - j) 0 = get_or_default_zero (reverse others) j d (omega (arith, inside, count parent)) ∙ turned parent j inside in
      (other_is parent first parts.nodes (length others - 1 - j) at).3 (sym here ∙ sym same)
  chain_apart parent (suc i) (suc j) d lt within = λ same.
      let first = child_of parts parent in
      let others = other_children parts.nodes parent first in
      let inside = placed parent j within in
      let before : i < length others = omega (arith, inside, lt) in
      let one : get_or (reverse others) i d ≡ get_or others (length others - 1 - i) 0 = get_or_default_zero (reverse others) i d (omega (arith, before, count parent)) ∙ turned parent i before in
      let two : get_or (reverse others) j d ≡ get_or others (length others - 1 - j) 0 = get_or_default_zero (reverse others) j d (omega (arith, inside, count parent)) ∙ turned parent j inside in
      let up = others_rise parent first parts.nodes 0 rises (length others - 1 - j) (length others - 1 - i) (omega (arith, lt, inside)) (omega (arith, before)) in
      omega (arith, up, one, two, same)

module _ (parts : Parts) (sound : IsSound parts) where
  -- each number of the chain is a child
  pub chain_child : (parent i : ℕ) → child_of parts parent ≢ 0 → i < length (chain_of parts parent) → IsChild parts parent (get_or (chain_of parts parent) i 0)
  chain_child parent zero some within = sound.children.each parent some
  chain_child parent (suc j) some within =
      let first = child_of parts parent in
      let others = other_children parts.nodes parent first in
      let inside = placed parts sound.numbers.rising parent j within in
      let at : length others - 1 - j < length others = omega (arith, inside) in
      let found = other_is parent first parts.nodes (length others - 1 - j) at in
      let node = get_or parts.nodes found.0 none in
      let there : node_at parts.nodes node.number ≡ Some node = index_found parts.nodes found.0 none sound.numbers.rising found.1 in
      let number : node.number ≡ get_or (reverse others) j 0 = (found.2 none).0 ∙ sym (turned parts sound.numbers.rising parent j inside) in
      subst (IsChild parts parent) number (ap (λ o. option_map (λ (n : Node). n.parent) o) there ∙ ap Some (found.2 none).1)

  -- each child is at a place of the chain
  pub chain_place : (parent number : ℕ) → IsChild parts parent number → (i : ℕ) × IsAt parts parent i number
  chain_place parent number child = elim (eqb_tells number (child_of parts parent)) [
    | inl same ↦ (0, record { child = child; within = omega arith; is = sym same.1 })
    | inr other ↦
        let first = child_of parts parent in
        let others = other_children parts.nodes parent first in
        let at = child_index parts.nodes number parent child in
        let found = other_found parent first parts.nodes at.0 none at.1 at.3 (λ e. other.1 (sym at.2 ∙ e)) in
        let inside : length others - 1 - found.0 < length others = omega (arith, found.1) in
        let back : length others - 1 - (length others - 1 - found.0) ≡ found.0 = omega (arith, found.1) in (
          suc (length others - 1 - found.0),
          record {
            child = child;
            within = omega (arith, inside, count parts sound.numbers.rising parent);
            is = turned parts sound.numbers.rising parent (length others - 1 - found.0) inside ∙ (ap (λ k. get_or others k 0) back ∙ (found.2 ∙ at.2));
          },
        )
  ]
