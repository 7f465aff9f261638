-- The changes of a file that is written for a sound tree make a tree.
use Rattle.std.proofs.Common.{◌≡◌, ◌≢◌, ◌⊎◌, inl, inr, ℕ, zero, suc, ◌+◌, ◌-◌, ◌<◌, ◌≤◌, if◌then◌else◌, List, [], ◌∷◌, length, get_or, map, Option, Some, None, option_map, refl, sym, ap, subst, ◌∙◌, arith}
use Rattle.std.proofs.lemmas.Option.{same_Some}
use Rattle.std.proofs.lemmas.Bool.Decides.{eqb_tells, leb_tells}
use Rattle.std.proofs.lemmas.Grind.{get_or_tail}
use Rattle.std.proofs.lemmas.List.{get_or_past}
use Rattle.vs_undo.specs.declared.parts.Node.{Node}
use Rattle.vs_undo.specs.declared.parts.Parts.{Parts}
use Rattle.vs_undo.specs.Ways.{node_at, parent_at, start, IsKept, IsWay}
use Rattle.vs_undo.specs.Sound.{child_of, IsSound}
use Rattle.vs_undo.proofs.DepthLemmas.{number_of}
use Rattle.vs_undo.proofs.NumberLemmas.{index_kept}
use Rattle.vs_undo.proofs.SearchLemmas.{index_found}
use Rattle.vs_ufile.specs.Values as file
use Rattle.vs_ufile.specs.Tree.{after, before, link, numbers, AreAncestors, FailsInChain, FailsInTree, HasChains, IsChange, IsFirst, IsParent, IsTree, SharesParent}
use Rattle.vs_ufile.specs.Walks.{walk}
use Rattle.vs_ubind.specs.Unbound.{after_in, before_in, chain_of, filed_change}
use Rattle.vs_ubind.proofs.Places.{after_at, before_at}
use Rattle.vs_ubind.proofs.Chains.{IsAt, IsChild, chain_apart, chain_child, chain_place, child_index, none}

-- the change of a child
at_child : (found : Option Node) (parent : ℕ) → option_map (λ (n : Node). n.parent) found ≡ Some parent → (node : Node) × (found ≡ Some node) × (node.parent ≡ parent)
at_child None parent is = absurd (cc)
at_child (Some node) parent is = (node, refl, same_Some node.parent parent is)

-- the numbers of a file's changes
pub number_filed : (parts : Parts) (nodes : List Node) (k d : ℕ) → k < length nodes → get_or (numbers (map (filed_change parts) nodes)) k d ≡ (get_or nodes k none).number
number_filed parts [] k d within = absurd (omega (arith, within))
number_filed parts (node ∷ nodes) zero d within = refl
number_filed parts (node ∷ nodes) (suc k) d within = number_filed parts nodes k d (omega (arith, within))

pub count_filed : (parts : Parts) (nodes : List Node) → length (numbers (map (filed_change parts) nodes)) ≡ length nodes
count_filed parts [] = refl
count_filed parts (node ∷ nodes) = ap suc (count_filed parts nodes)

-- a link of a change, by the change of the tree
link_is : (parts : Parts) (f : file.Change → ℕ) (nodes : List Node) (n : ℕ) (node : Node) → node_at nodes n ≡ Some node → link f (map (filed_change parts) nodes) n ≡ f (filed_change parts node)
link_is parts f [] n node is = absurd (cc)
link_is parts f (m ∷ nodes) n node is = elim (eqb_tells m.number n) [
  | inl same ↦
      let here : m ≡ node = same_Some m node (sym (ap (λ b. if b then Some m else node_at nodes n) same.0) ∙ is) in
      ap (λ b. if b then f (filed_change parts m) else link f (map (filed_change parts) nodes) n) same.0 ∙ ap (λ x. f (filed_change parts x)) here
  | inr other ↦
      ap (λ b. if b then f (filed_change parts m) else link f (map (filed_change parts) nodes) n) other.0
      ∙ link_is parts f nodes n node (sym (ap (λ b. if b then Some m else node_at nodes n) other.0) ∙ is)
]

link_none : (parts : Parts) (f : file.Change → ℕ) (nodes : List Node) (n : ℕ) → node_at nodes n ≡ None → link f (map (filed_change parts) nodes) n ≡ 0
link_none parts f [] n is = refl
link_none parts f (m ∷ nodes) n is = elim (eqb_tells m.number n) [
  | inl same ↦ absurd (let e : Some m ≡ None = sym (ap (λ b. if b then Some m else node_at nodes n) same.0) ∙ is in cc)
  | inr other ↦
      ap (λ b. if b then f (filed_change parts m) else link f (map (filed_change parts) nodes) n) other.0
      ∙ link_none parts f nodes n (sym (ap (λ b. if b then Some m else node_at nodes n) other.0) ∙ is)
]

module _ (parts : Parts) (sound : IsSound parts) where
  abbrev changes : List file.Change
  changes = map (filed_change parts) parts.nodes

  pub not_zero : (p n : ℕ) → IsChild parts p n → n ≢ 0
  not_zero p n child same =
      let here : Some p ≡ None = sym child ∙ (ap (λ k. parent_at parts.nodes k) same ∙ ap (λ o. option_map (λ (m : Node). m.parent) o) sound.tree.root) in
      absurd (cc)

  pub child_change : (p n : ℕ) → IsChild parts p n → IsChange changes n
  child_change p n child =
      let at = child_index parts.nodes n p child in
      (at.0, omega (arith, at.1, count_filed parts parts.nodes), number_filed parts parts.nodes at.0 n at.1 ∙ at.2)

  pub change_child : (n : ℕ) → IsChange changes n → (p : ℕ) × IsChild parts p n
  change_child n change =
      let within : change.0 < length parts.nodes = omega (arith, change.1, count_filed parts parts.nodes) in
      let node = get_or parts.nodes change.0 none in
      let number : node.number ≡ n = sym (number_filed parts parts.nodes change.0 n within) ∙ change.2 in
      (node.parent, ap (λ k. parent_at parts.nodes k) (sym number) ∙ ap (λ o. option_map (λ (m : Node). m.parent) o) (index_found parts.nodes change.0 none sound.numbers.rising within))

  pub some_child : (p n : ℕ) → IsChild parts p n → child_of parts p ≢ 0
  some_child p n child = sound.children.some p n child

  -- ---- links by places
  after_is : (p i n : ℕ) → IsAt parts p i n → after changes n ≡ get_or (chain_of parts p) (i + 1) 0
  after_is p i n at =
      let node = at_child (node_at parts.nodes n) p at.child in
      link_is parts (λ c. c.alt_next) parts.nodes n node.0 node.1
      ∙ (ap (λ q. after_in (chain_of parts q) node.0.number) node.2
      ∙ (ap (λ m. after_in (chain_of parts p) m) (number_of parts.nodes n node.0 node.1 ∙ sym at.is) ∙ after_at (chain_of parts p) (chain_apart parts sound.numbers.rising p) i at.within))

  before_is : (p i n : ℕ) → IsAt parts p i n → before changes n ≡ get_or (0 ∷ chain_of parts p) i 0
  before_is p i n at =
      let node = at_child (node_at parts.nodes n) p at.child in
      link_is parts (λ c. c.alt_prev) parts.nodes n node.0 node.1
      ∙ (ap (λ q. before_in (chain_of parts q) node.0.number) node.2
      ∙ (ap (λ m. before_in (chain_of parts p) m) (number_of parts.nodes n node.0 node.1 ∙ sym at.is) ∙ before_at (chain_of parts p) (chain_apart parts sound.numbers.rising p) i at.within))

  pub next_is : (p n : ℕ) → IsChild parts p n → link (λ c. c.next) changes n ≡ p
  next_is p n child = let node = at_child (node_at parts.nodes n) p child in link_is parts (λ c. c.next) parts.nodes n node.0 node.1 ∙ node.2

  -- the number at a place of a chain that has a child
  there : (p n : ℕ) → IsChild parts p n → (i : ℕ) → i < length (chain_of parts p) → IsAt parts p i (get_or (chain_of parts p) i 0)
  there p n child i within = record { child = chain_child parts sound p i (some_child p n child) within; within = within; is = refl }

  after_zero : after changes 0 ≡ 0
  after_zero = link_none parts (λ c. c.alt_next) parts.nodes 0 sound.tree.root

  before_zero : before changes 0 ≡ 0
  before_zero = link_none parts (λ c. c.alt_prev) parts.nodes 0 sound.tree.root

  stays_zero : (f : ℕ → ℕ) → f 0 ≡ 0 → (k : ℕ) → walk f k 0 ≡ 0
  stays_zero f zero_is zero = refl
  stays_zero f zero_is (suc k) = ap (λ n. walk f k n) zero_is ∙ stays_zero f zero_is k

  -- ---- no change fails in its chain
  leads_back : (p i n : ℕ) → IsAt parts p i n → after changes n ≢ 0 → before changes (after changes n) ≢ n → ⊥
  leads_back p i n at some differs =
      let c = chain_of parts p in
      elim (leb_tells (length c) (i + 1)) [
        | inl past ↦ some (after_is p i n at ∙ get_or_past c (i + 1) 0 past.1)
        | inr inside ↦
            let next = there p n at.child (i + 1) inside.1 in
            let back : i + 1 - 1 ≡ i = omega arith in
            differs (ap (λ m. before changes m) (after_is p i n at)
            ∙ (before_is p (i + 1) (get_or c (i + 1) 0) next ∙ (get_or_tail 0 c (i + 1) 0 (omega arith) ∙ (ap (λ k. get_or c k 0) back ∙ at.is))))
      ]

  leads_on : (p i n : ℕ) → IsAt parts p i n → before changes n ≢ 0 → after changes (before changes n) ≢ n → ⊥
  leads_on p zero n at some differs = some (before_is p zero n at)
  leads_on p (suc j) n at some differs =
      let c = chain_of parts p in
      let inside : j < length c = omega (arith, at.within) in
      let next : j + 1 ≡ suc j = omega arith in
      differs (ap (λ m. after changes m) (before_is p (suc j) n at) ∙ (after_is p j (get_or c j 0) (there p n at.child j inside) ∙ (ap (λ k. get_or c k 0) next ∙ at.is)))

  walk_after : (k p i n : ℕ) → IsAt parts p i n → walk (after changes) k n ≡ get_or (chain_of parts p) (i + k) 0
  walk_after zero p i n at = let same : i ≡ i + 0 = omega arith in sym at.is ∙ ap (λ j. get_or (chain_of parts p) j 0) same
  walk_after (suc k) p i n at =
      let c = chain_of parts p in
      elim (leb_tells (length c) (i + 1)) [
        | inl past ↦
            ap (λ m. walk (after changes) k m) (after_is p i n at ∙ get_or_past c (i + 1) 0 past.1)
            ∙ (stays_zero (after changes) after_zero k ∙ sym (get_or_past c (i + suc k) 0 (omega (arith, past.1))))
        | inr inside ↦
            let same : i + 1 + k ≡ i + suc k = omega arith in
            ap (λ m. walk (after changes) k m) (after_is p i n at)
            ∙ (walk_after k p (i + 1) (get_or c (i + 1) 0) (there p n at.child (i + 1) inside.1) ∙ ap (λ j. get_or c j 0) same)
      ]

  no_cycle : (p i n k : ℕ) → IsAt parts p i n → walk (after changes) (suc k) n ≡ n → ⊥
  no_cycle p i n k at cycle =
      let c = chain_of parts p in
      let here : get_or c (i + suc k) 0 ≡ n = sym (walk_after (suc k) p i n at) ∙ cycle in
      elim (leb_tells (length c) (i + suc k)) [
        | inl past ↦ not_zero p n at.child (sym here ∙ get_or_past c (i + suc k) 0 past.1)
        | inr inside ↦ chain_apart parts sound.numbers.rising p i (i + suc k) 0 (omega arith) inside.1 (at.is ∙ sym here)
      ]

  chain_holds : (p i n : ℕ) → IsAt parts p i n → FailsInChain changes n → ⊥
  chain_holds p i n at (inl fails) = leads_back p i n at fails.0 fails.1
  chain_holds p i n at (inr (inl fails)) = leads_on p i n at fails.0 fails.1
  chain_holds p i n at (inr (inr fails)) = no_cycle p i n fails.0 at fails.1

  -- ---- nor in the tree
  walk_before : (k p i n : ℕ) → IsAt parts p i n → k ≤ i → walk (before changes) k n ≡ get_or (chain_of parts p) (i - k) 0
  walk_before zero p i n at le = let same : i ≡ i - 0 = omega arith in sym at.is ∙ ap (λ j. get_or (chain_of parts p) j 0) same
  walk_before (suc k) p zero n at le = absurd (omega (arith, le))
  walk_before (suc k) p (suc j) n at le =
      let c = chain_of parts p in
      let same : j - k ≡ suc j - suc k = omega arith in
      ap (λ m. walk (before changes) k m) (before_is p (suc j) n at)
      ∙ (walk_before k p j (get_or c j 0) (there p n at.child j (omega (arith, at.within))) (omega (arith, le)) ∙ ap (λ i. get_or c i 0) same)

  pub first_is : (p n : ℕ) → IsChild parts p n → IsFirst changes n (child_of parts p)
  first_is p n child =
      let at = chain_place parts sound p n child in
      let head = there p n child 0 (omega arith) in
      let none_left : at.0 - at.0 ≡ 0 = omega arith in
      record {
        steps = at.0;
        way = walk_before at.0 p at.0 n at.1 (omega arith) ∙ ap (λ i. get_or (chain_of parts p) i 0) none_left;
        change = child_change p (child_of parts p) head.child;
        none_before = before_is p 0 (child_of parts p) head;
      }

  pub parent_is : (p n : ℕ) → IsChild parts p n → IsParent changes n p
  parent_is p n child = (child_of parts p, first_is p n child, next_is p (child_of parts p) (sound.children.each p (some_child p n child)))

  parents_on : List ℕ → List ℕ
  parents_on [] = []
  parents_on (n ∷ way) = start way ∷ parents_on way

  ancestors : (way : List ℕ) → IsWay (λ k. parent_at parts.nodes k) way → AreAncestors changes (start way) (parents_on way)
  unfolding parents_on
  ancestors [] is = refl
  ancestors (n ∷ way) is = (parent_is (start way) n is.0, ancestors way is.1)

  before_stays : (k p i n : ℕ) → IsAt parts p i n → (walk (before changes) k n ≡ 0) ⊎ ((j : ℕ) × IsAt parts p j (walk (before changes) k n))
  before_stays zero p i n at = inr (i, at)
  before_stays (suc k) p zero n at = inl (ap (λ m. walk (before changes) k m) (before_is p zero n at) ∙ stays_zero (before changes) before_zero k)
  before_stays (suc k) p (suc j) n at =
      let c = chain_of parts p in
      subst (λ m. (walk (before changes) k m ≡ 0) ⊎ ((j : ℕ) × IsAt parts p j (walk (before changes) k m))) (sym (before_is p (suc j) n at))
      (before_stays k p j (get_or c j 0) (there p n at.child j (omega (arith, at.within))))

  head_at : (p j f : ℕ) → IsAt parts p j f → before changes f ≡ 0 → f ≡ child_of parts p
  head_at p zero f at none_before = sym at.is
  head_at p (suc j) f at none_before =
      let c = chain_of parts p in
      absurd (not_zero p (get_or c j 0) (there p f at.child j (omega (arith, at.within))).child (sym (before_is p (suc j) f at) ∙ none_before))

  pub one_first : (p n f : ℕ) → IsChild parts p n → IsFirst changes n f → f ≡ child_of parts p
  one_first p n f child first =
      let at = chain_place parts sound p n child in
      elim (before_stays first.steps p at.0 n at.1) [
        | inl zero_is ↦ let kept = change_child f first.change in absurd (not_zero kept.0 f kept.1 (sym first.way ∙ zero_is))
        | inr here ↦ head_at p here.0 f (subst (λ m. IsAt parts p here.0 m) first.way here.1) first.none_before
      ]

  not_shared : (p n : ℕ) → IsChild parts p n → SharesParent changes n → ⊥
  not_shared p n child shares =
      let first = shares.0 in
      let other = shares.1 in
      let one : first ≡ child_of parts p = one_first p n first child shares.2 in
      let kept = change_child other shares.3.change in
      let two : other ≡ child_of parts kept.0 = one_first kept.0 other other kept.1 shares.3 in
      let next_one : link (λ c. c.next) changes first ≡ p = ap (λ m. link (λ c. c.next) changes m) one ∙ next_is p (child_of parts p) (sound.children.each p (some_child p n child)) in
      let next_two : link (λ c. c.next) changes other ≡ kept.0 = next_is kept.0 other kept.1 in
      let same : p ≡ kept.0 = sym next_one ∙ (shares.5 ∙ next_two) in
      shares.4 (one ∙ (ap (λ q. child_of parts q) same ∙ sym two))

  tree_holds : (p n : ℕ) → IsChild parts p n → FailsInTree changes n → ⊥
  tree_holds p n child (inl no_ancestors) =
      let at = child_index parts.nodes n p child in
      let way = sound.tree.ways n (subst (IsKept parts.nodes) at.2 (index_kept parts.nodes at.0 none at.1)) in
      no_ancestors (parents_on way.way) (subst (λ m. AreAncestors changes m (parents_on way.way)) way.is.starts (ancestors way.way way.is.is_way))
  tree_holds p n child (inr shares) = not_shared p n child shares

  pub makes_tree : IsTree changes
  makes_tree n fails = holds fails.1
    where
      holds : (FailsInChain changes n ⊎ (HasChains changes × FailsInTree changes n)) → ⊥
      holds (inl chain) = let child = change_child n fails.0 in let at = chain_place parts sound child.0 n child.1 in chain_holds child.0 at.0 n at.1 chain
      holds (inr tree) = let child = change_child n fails.0 in tree_holds child.0 n child.1 tree.1
