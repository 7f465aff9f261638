-- A change has no child exactly where its child last used is 0.
use Rattle.std.proofs.Common.{◌≡◌, ◌≢◌, ℕ, zero, suc, ◌<◌, ◌==◌, ◌||◌, not, if◌then◌else◌, cond, Bool, true, false, List, [], ◌∷◌, length, get_or, map, Option, Some, None, option_map, unwrap_or, sym, ap, ◌∙◌, arith, refl}
use Rattle.std.specs.List.{filter, list_any, AllZip}
use Rattle.std.proofs.lemmas.List.{length-map}
use Rattle.std.proofs.lemmas.Bool.Decides.{nat_tests}
use Rattle.vs_undo.specs.declared.parts.Node.{Node}
use Rattle.vs_undo.specs.declared.parts.Parts.{Parts}
use Rattle.vs_undo.specs.Ways.{node_at, parent_at, IsTree, way_within, way_of}
use Rattle.vs_undo.specs.History.{without_entries}
use Rattle.vs_undo.specs.Sound.{child_of, IsSound}
use Rattle.vs_undo.specs.Leaves.{has_child, leaf_of, leaves_of, AreLeaves, IsLeaf}
use Rattle.vs_undo.specs.declared.leaves.Leaf.{Leaf}
use Rattle.vs_undo.proofs.NodeLemmas.{parent_at-links_of}
use Rattle.vs_undo.proofs.ShortWays.{way_is}
use Rattle.vs_undo.proofs.ChangeLemmas.{was_there}
use Rattle.vs_undo.proofs.SearchLemmas.{index_found}

-- a change that is there and passes a test
pub any_there : (p : Node → Bool) (nodes : List Node) (k : ℕ) (node : Node) → node_at nodes k ≡ Some node → p node ≡ true → list_any p nodes ≡ true
any_there p [] k node is passes = absurd (cc)
any_there p (first ∷ nodes) k node is passes =
    elim (first.number == k) as (λ b. (if b then Some first else node_at nodes k) ≡ Some node → (p first || list_any p nodes) ≡ true) [
      | true ↦ λ e. let same : first ≡ node = cc in ap (λ b. b || list_any p nodes) (ap p same ∙ passes)
      | false ↦ λ e. let rest = any_there p nodes k node e passes in elim (p first) as (λ b. (b || list_any p nodes) ≡ true) [ true ↦ refl | false ↦ rest ]
    ] is

-- where a change that passes a test stands
pub any_at : (p : Node → Bool) (nodes : List Node) (d : Node) → list_any p nodes ≡ true → (k : ℕ) × ((k < length nodes) × (p (get_or nodes k d) ≡ true))
any_at p [] d passes = absurd (cc)
any_at p (node ∷ nodes) d passes =
    elim (p node) as (λ b. p node ≡ b → (b || list_any p nodes) ≡ true → (k : ℕ) × ((k < length (node ∷ nodes)) × (p (get_or (node ∷ nodes) k d) ≡ true))) [
      | true ↦ λ is e. (0, (omega arith, is))
      | false ↦ λ is e. let rest = any_at p nodes d e in (suc rest.0, (omega (arith, rest.1.0), rest.1.1))
    ] refl passes

module _ (parts : Parts) (sound : IsSound parts) (number : ℕ) (node : Node) (here : node_at parts.nodes number ≡ Some node) where
  not_root : (number == 0) ≡ false
  not_root = elim (number == 0) as (λ b. b ≡ (number == 0) → b ≡ false) [
    | true ↦ λ t. let is : number ≡ 0 = grind (arith, nat_tests) in absurd (let e : None ≡ Some node = sym sound.tree.root ∙ (ap (node_at parts.nodes) (sym is) ∙ here) in cc)
    | false ↦ λ t. refl
  ] refl

  child_is : child_of parts number ≡ node.last_child
  child_is = ap (λ b. if b then parts.root_child else unwrap_or (option_map (λ (n : Node). n.last_child) (node_at parts.nodes number)) 0) not_root ∙ ap (λ o. unwrap_or (option_map (λ (n : Node). n.last_child) o) 0) here

  no_child : has_child parts.nodes number ≡ false → node.last_child ≡ 0
  no_child none =
      elim (node.last_child == 0) as (λ b. b ≡ (node.last_child == 0) → node.last_child ≡ 0) [
        | true ↦ λ t. grind (arith, nat_tests)
        | false ↦ λ t.
            let some : child_of parts number ≢ 0 = λ e. let z : node.last_child ≡ 0 = sym child_is ∙ e in absurd (grind (arith, nat_tests)) in
            let child = was_there (λ (n : Node). n.parent) (node_at parts.nodes (child_of parts number)) number (sound.children.each number some) in
            let passes : (child.0.parent == number) ≡ true = let e = child.1.1 in grind (arith, nat_tests) in
            absurd (let e : false ≡ true = sym none ∙ any_there (λ (n : Node). n.parent == number) parts.nodes (child_of parts number) child.0 child.1.0 passes in cc)
      ] refl

  some_child : has_child parts.nodes number ≡ true → node.last_child ≢ 0
  some_child passes = λ none.
      let at = any_at (λ (n : Node). n.parent == number) parts.nodes node passes in
      let child = get_or parts.nodes at.0 node in
      let there = index_found parts.nodes at.0 node sound.numbers.rising at.1.0 in
      let test = at.1.1 in
      let is : child.parent ≡ number = grind (arith, nat_tests) in
      sound.children.some number child.number (ap (option_map (λ (n : Node). n.parent)) there ∙ ap Some is) (child_is ∙ none)

  leaf_test : (node.last_child == 0) ≡ not (has_child parts.nodes number)
  leaf_test = elim (has_child parts.nodes number) as (λ b. has_child parts.nodes number ≡ b → (node.last_child == 0) ≡ not b) [
    | true ↦ λ is. let h = some_child is in grind (arith, nat_tests)
    | false ↦ λ is. let h = no_child is in grind (arith, nat_tests)
  ] refl

filter_same : (p q : Node → Bool) (nodes : List Node) (d : Node) → ((k : ℕ) → k < length nodes → p (get_or nodes k d) ≡ q (get_or nodes k d)) → filter p nodes ≡ filter q nodes
filter_same p q [] d same = refl
filter_same p q (node ∷ nodes) d same =
    ap (λ b. cond b (node ∷ filter p nodes) (filter p nodes)) (same 0 (omega arith)) ∙ ap (λ ns. cond (q node) (node ∷ ns) ns) (filter_same p q nodes d (λ k within. same (suc k) (omega arith)))

pub leaves_are : (parts : Parts) → IsSound parts → filter (λ (n : Node). n.last_child == 0) parts.nodes ≡ filter (λ (n : Node). not (has_child parts.nodes n.number)) parts.nodes
leaves_are parts sound =
    let none : Node = record { number = 0; parent = 0; last_child = 0; time = 0; save = 0; entries = [] } in
    filter_same (λ (n : Node). n.last_child == 0) (λ (n : Node). not (has_child parts.nodes n.number)) parts.nodes none (λ k within.
    leaf_test parts sound (get_or parts.nodes k none).number (get_or parts.nodes k none) (index_found parts.nodes k none sound.numbers.rising within))

-- a leaf is the one that is computed
leaf_is : (nodes : List Node) (node : Node) (leaf : Leaf) → IsTree nodes → IsLeaf nodes node leaf → leaf ≡ leaf_of nodes node
leaf_is nodes node leaf tree is =
    let changes : leaf.changes ≡ length (way_of nodes node.number) = is.depth.changes ∙ ap length (sym (way_is nodes node.number is.depth.way tree is.depth.is_way)) in
    λ i. record { number = is.number i; changes = changes i; save = is.save i }

zip_is : (nodes changes : List Node) (leaves : List Leaf) → IsTree nodes → AllZip (IsLeaf nodes) changes leaves → leaves ≡ map (leaf_of nodes) changes
zip_is nodes [] [] tree zip = refl
zip_is nodes [] (leaf ∷ leaves) tree zip = absurd zip
zip_is nodes (node ∷ changes) [] tree zip = absurd zip
zip_is nodes (node ∷ changes) (leaf ∷ leaves) tree zip = ap (λ l. l ∷ leaves) (leaf_is nodes node leaf tree zip.0) ∙ ap (λ ls. leaf_of nodes node ∷ ls) (zip_is nodes changes leaves tree zip.1)

pub are_leaves_of : (nodes : List Node) (leaves : List Leaf) → IsTree nodes → AreLeaves nodes leaves → leaves ≡ leaves_of nodes
are_leaves_of nodes leaves tree are = zip_is nodes (filter (λ (n : Node). not (has_child nodes n.number)) nodes) leaves tree are

has_child-links_of : (nodes : List Node) (number : ℕ) → has_child (map without_entries nodes) number ≡ has_child nodes number
has_child-links_of [] number = refl
has_child-links_of (node ∷ nodes) number = ap (λ b. (node.parent == number) || b) (has_child-links_of nodes number)

way_within-links_of : (most : ℕ) (nodes : List Node) (number : ℕ) → way_within most (map without_entries nodes) number ≡ way_within most nodes number
way_within-links_of zero nodes number = refl
way_within-links_of (suc most) nodes number =
    ap (λ o. unwrap_or (option_map (λ p. number ∷ way_within most (map without_entries nodes) p) o) []) (parent_at-links_of nodes number) ∙
    same (parent_at nodes number) (way_within-links_of most nodes)
  where
    same : (o : Option ℕ) → ((p : ℕ) → way_within most (map without_entries nodes) p ≡ way_within most nodes p)
        → unwrap_or (option_map (λ p. number ∷ way_within most (map without_entries nodes) p) o) [] ≡ unwrap_or (option_map (λ p. number ∷ way_within most nodes p) o) []
    same None each = refl
    same (Some p) each = ap (λ (way : List ℕ). number ∷ way) (each p)

-- entries have no part in ways
pub way_of-links_of : (nodes : List Node) (number : ℕ) → way_of (map without_entries nodes) number ≡ way_of nodes number
way_of-links_of nodes number =
    ap (λ most. way_within most (map without_entries nodes) number) (length-map nodes without_entries) ∙ way_within-links_of (length nodes) nodes number

leaf_of-links_of : (nodes : List Node) (node : Node) → leaf_of (map without_entries nodes) (without_entries node) ≡ leaf_of nodes node
leaf_of-links_of nodes node = ap (λ (way : List ℕ). record { number = node.number; changes = length way; save = node.save }) (way_of-links_of nodes node.number)

leaf_list : (nodes changes : List Node) → map (leaf_of (map without_entries nodes)) (filter (λ (n : Node). not (has_child (map without_entries nodes) n.number)) (map without_entries changes))
    ≡ map (leaf_of nodes) (filter (λ (n : Node). not (has_child nodes n.number)) changes)
leaf_list nodes [] = refl
leaf_list nodes (node ∷ changes) =
    let bare = map without_entries nodes in
    let rest = filter (λ (n : Node). not (has_child bare n.number)) (map without_entries changes) in
    let after = filter (λ (n : Node). not (has_child nodes n.number)) changes in
    ap (λ b. map (leaf_of bare) (cond (not b) (without_entries node ∷ rest) rest)) (has_child-links_of nodes node.number) ∙
    elim (not (has_child nodes node.number)) as (λ b. map (leaf_of bare) (cond b (without_entries node ∷ rest) rest) ≡ map (leaf_of nodes) (cond b (node ∷ after) after)) [
      | true ↦ ap (λ (leaf : Leaf). leaf ∷ map (leaf_of bare) rest) (leaf_of-links_of nodes node) ∙ ap (λ (leaves : List Leaf). leaf_of nodes node ∷ leaves) (leaf_list nodes changes)
      | false ↦ leaf_list nodes changes
    ]

-- entries have no part in the leaves
pub leaves_of-links_of : (nodes : List Node) → leaves_of (map without_entries nodes) ≡ leaves_of nodes
leaves_of-links_of nodes = leaf_list nodes nodes
