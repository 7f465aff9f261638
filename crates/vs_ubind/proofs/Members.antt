-- What the data of a file says of the tree that it stands for: which changes it has, and what their links are.
use Rattle.std.proofs.Common.{◌≡◌, ◌≢◌, ◌⊎◌, inl, inr, ℕ, zero, suc, ◌+◌, ◌-◌, ◌<◌, ◌≤◌, ◌==◌, ◌||◌, if◌then◌else◌, true, false, List, [], ◌∷◌, length, get_or, map, Option, Some, None, option_map, unwrap_or, refl, sym, ap, subst, ◌∙◌, arith}
use Rattle.std.specs.Prelude.{Contains, IsSome}
use Rattle.std.specs.List.{AllByRecursion}
use Rattle.std.specs.Option.{is_some}
use Rattle.std.proofs.lemmas.Bool.{cases_eq, cases_lt}
use Rattle.std.proofs.lemmas.Bool.Decides.{eqb_tells}
use Rattle.std.proofs.lemmas.List.{get_or_default, get_or_past, get_or-map, length-map}
use Rattle.std.proofs.lemmas.List.Kept.{AllPairs-from_increasing}
use Rattle.vs_undo.specs.declared.parts.Node.{Node}
use Rattle.vs_undo.specs.declared.parts.Parts.{Parts}
use Rattle.vs_undo.specs.Ways.{node_at, parent_at, save_at, IsKept}
use Rattle.vs_undo.specs.Numbers as tree
use Rattle.vs_undo.specs.Sound.{child_of}
use Rattle.vs_undo.proofs.DepthLemmas.{number_of}
use Rattle.vs_undo.proofs.NumberLemmas.{number_at}
use Rattle.vs_undo.proofs.SearchLemmas.{index_found}
use Rattle.vs_ufile.specs.Values as file
use Rattle.vs_ufile.specs.Decode.{is_known, KeepsRules, LinksAreKnown}
use Rattle.vs_ufile.specs.Descent.{IsLastUsed}
use Rattle.vs_ufile.specs.Reading.{index_of}
use Rattle.vs_ufile.specs.Tree.{before, link, numbers, IsChange, IsFirst, IsParent}
use Rattle.vs_ufile.specs.Walks.{at, walk}
use Rattle.vs_ufile.proofs.Linked.{index_at}
use Rattle.vs_ufile.proofs.Pigeons.{pigeons, walk-add, walk-none, Twice}
use Rattle.vs_ubind.specs.Meaning.{Means, StandsFor}
use Rattle.vs_ubind.proofs.Chains.{none}
use Rattle.vs_ubind.proofs.Takes.{change_number}

-- ---- the places of numbers
index_or : (o : Option ℕ) → (o ≡ None) ⊎ ((i : ℕ) × (o ≡ Some i))
index_or None = inl refl
index_or (Some i) = inr (i, refl)

index_none : (ns : List ℕ) (n : ℕ) → index_of n ns ≡ None → ¬ Contains ns n
index_none [] n none_is is = omega (arith, is.1)
index_none (m ∷ ns) n none_is is = elim (eqb_tells m n) [
  | inl same ↦ absurd (let e : Some 0 ≡ None = sym (ap (λ b. if b then Some 0 else option_map suc (index_of n ns)) same.0) ∙ none_is in cc)
  | inr other ↦ index_none ns n (no_more (index_of n ns) (sym (ap (λ b. if b then Some 0 else option_map suc (index_of n ns)) other.0) ∙ none_is)) (later other.1 is)
]
  where
    no_more : (o : Option ℕ) → option_map suc o ≡ None → o ≡ None
    no_more None e = refl
    no_more (Some i) e = absurd cc

    later : m ≢ n → Contains (m ∷ ns) n → Contains ns n
    later apart (zero, lt, e) = absurd (apart e)
    later apart (suc i, lt, e) = (i, omega (arith, lt), e)

-- the place of a number in a list
place : (ns : List ℕ) (n : ℕ) → Contains ns n → (i : ℕ) × (index_of n ns ≡ Some i) × (i < length ns) × (at ns i ≡ n)
place ns n is = elim (index_or (index_of n ns)) [
  | inl e ↦ absurd (index_none ns n e is)
  | inr s ↦ let a = index_at n ns s.0 s.1 in (s.0, s.1, a.0, a.1)
]

-- a known link is 0, or a change has its number
pub known_cases : (ns : List ℕ) (n : ℕ) → is_known ns n ≡ true → (n ≡ 0) ⊎ Contains ns n
known_cases ns n known = elim (cases_eq n 0) [
  | inl e ↦ inl e
  | inr ne ↦ elim (index_or (index_of n ns)) [
    | inl gone ↦
        let e : is_known ns n ≡ false = ap (λ o. (n == 0) || is_some o) gone ∙ (let other : (n == 0) ≡ false = grind (arith) in ap (λ b. b || false) other) in
        absurd (let f : true ≡ false = sym known ∙ e in cc)
    | inr s ↦ let a = index_at n ns s.0 s.1 in inr (s.0, a.0, get_or_default ns s.0 n 0 a.0 ∙ a.1)
  ]
]

link_known : (ns : List ℕ) (changes : List file.Change) → AllByRecursion (LinksAreKnown ns) changes → (n : ℕ) → is_known ns (link (λ c. c.next) changes n) ≡ true
link_known ns [] known n = refl
link_known ns (c ∷ changes) known n = elim (c.number == n) as (λ b. is_known ns (if b then c.next else link (λ c. c.next) changes n) ≡ true) [
  | true ↦ known.0.next
  | false ↦ link_known ns changes known.1 n
]

link_none : (field : file.Change → ℕ) (changes : List file.Change) (n : ℕ) → ¬ IsChange changes n → link field changes n ≡ 0
link_none field [] n absent = refl
link_none field (c ∷ changes) n absent = elim (eqb_tells c.number n) [
  | inl same ↦ absurd (absent (0, omega arith, same.1))
  | inr other ↦ ap (λ b. if b then field c else link field changes n) other.0 ∙ link_none field changes n (λ w. absent (suc w.0, omega (arith, w.1), w.2))
]

-- ---- one parent
module _ (h : file.History) (rules : KeepsRules h) where
  abbrev changes : List file.Change
  changes = h.changes

  pub not_root : ¬ IsChange changes 0
  not_root is =
      let range = rules.numbers.range is.0 0 is.1 in
      omega (arith, range.0, get_or_default (numbers changes) is.0 0 0 is.1 ∙ is.2)

  before_root : before changes 0 ≡ 0
  before_root = link_none (λ c. c.alt_prev) changes 0 not_root

  on_from : (n f g s t : ℕ) → walk (before changes) s n ≡ f → before changes f ≡ 0 → walk (before changes) t n ≡ g → IsChange changes g → s ≤ t → f ≡ g
  on_from n f g s t one end two is le = elim (cases_eq s t) [
    | inl e ↦ sym one ∙ (ap (λ k. walk (before changes) k n) e ∙ two)
    | inr ne ↦
        let m : ℕ = t - suc s in
        let split : s + suc m ≡ t = omega (arith, le, ne) in
        let gone : walk (before changes) t n ≡ 0 =
        sym (ap (λ k. walk (before changes) k n) split)
        ∙ (walk-add (before changes) s (suc m) n ∙ (ap (walk (before changes) (suc m)) one ∙ (ap (walk (before changes) m) end ∙ walk-none (before changes) m before_root))) in
        absurd (not_root (subst (IsChange changes) (sym two ∙ gone) is))
  ]

  pub one_first : (n f g : ℕ) → IsFirst changes n f → IsFirst changes n g → f ≡ g
  one_first n f g x y = elim (cases_lt y.steps x.steps) [
    | inl less ↦ sym (on_from n g f y.steps x.steps y.way y.none_before x.way x.change (omega (arith, less)))
    | inr more ↦ on_from n f g x.steps y.steps x.way x.none_before y.way y.change more
  ]

  pub one_parent : (n p q : ℕ) → IsParent changes n p → IsParent changes n q → p ≡ q
  one_parent n p q x y = sym x.2 ∙ (ap (λ f. link (λ c. c.next) changes f) (one_first n x.0 y.0 x.1 y.1) ∙ y.2)

  -- the root has no parent
  pub root_parent : (p : ℕ) → IsParent changes 0 p → ⊥
  root_parent p is = not_root (subst (IsChange changes) (sym is.1.way ∙ walk-none (before changes) is.1.steps before_root) is.1.change)

  pub parent_known : (n p : ℕ) → IsParent changes n p → (p ≡ 0) ⊎ IsChange changes p
  parent_known n p is = known_cases (numbers changes) p (subst (λ m. is_known (numbers changes) m ≡ true) is.2 (link_known (numbers changes) changes rules.links.changes is.0))

  -- ---- the tree
  module _ (parts : Parts) (means : Means h parts) where
    abbrev nodes : List Node
    nodes = parts.nodes

    pub found : (k : ℕ) → k < length nodes → node_at nodes (get_or nodes k none).number ≡ Some (get_or nodes k none)
    found k lt = index_found nodes k none means.rising lt

    pub stands_at : (n : ℕ) (node : Node) → node_at nodes n ≡ Some node → (change : file.Change) × Contains changes change × StandsFor changes change node
    stands_at n node is = means.changes n node is

    pub node_change : (n : ℕ) (node : Node) → node_at nodes n ≡ Some node → IsChange changes n
    node_change n node is =
        let s = means.changes n node is in
        change_number changes s.0 n s.1 (sym s.2.number ∙ number_of nodes n node is)

    -- the number of each change of the tree, and then another one
    abbrev nth : ℕ → ℕ → ℕ
    nth n k = get_or (map (λ (m : Node). m.number) nodes) k n

    nth_is : (n k : ℕ) → k < length nodes → nth n k ≡ (get_or nodes k none).number
    nth_is n k lt = get_or-map (λ (m : Node). m.number) nodes k none n lt

    nth_change : (n k : ℕ) → IsChange changes n → k ≤ length nodes → IsChange changes (nth n k)
    nth_change n k is le = elim (cases_lt k (length nodes)) [
      | inl lt ↦ subst (IsChange changes) (sym (nth_is n k lt)) (node_change (get_or nodes k none).number (get_or nodes k none) (found k lt))
      | inr past ↦ subst (IsChange changes) (sym (get_or_past (map (λ (m : Node). m.number) nodes) k n (omega (arith, past, length-map nodes (λ (m : Node). m.number))))) is
    ]

    abbrev nth_place : ℕ → ℕ → ℕ
    nth_place n k = unwrap_or (index_of (nth n k) (numbers changes)) 0

    place_is : (n k : ℕ) → IsChange changes n → k ≤ length nodes → (nth_place n k < length nodes) × (at (numbers changes) (nth_place n k) ≡ nth n k)
    place_is n k is le =
        let p = place (numbers changes) (nth n k) (nth_change n k is le) in
        let here : nth_place n k ≡ p.0 = ap (λ o. unwrap_or o 0) p.1 in
        let size : length (numbers changes) ≡ length nodes = length-map changes (λ (c : file.Change). c.number) ∙ sym means.count in
        (omega (arith, here, p.2, size), ap (at (numbers changes)) here ∙ p.3)

    among_nodes : (n : ℕ) → IsChange changes n → Twice (nth_place n) (length nodes) → (node : Node) × (node_at nodes n ≡ Some node)
    among_nodes n is t =
        let a_in : t.a ≤ length nodes = let o = t.order in let w = t.within in omega (arith, o, w) in
        let same : nth n t.a ≡ nth n t.b = sym (place_is n t.a is a_in).1 ∙ (ap (at (numbers changes)) t.same ∙ (place_is n t.b is t.within).1) in
        let a_lt : t.a < length nodes = let o = t.order in let w = t.within in omega (arith, o, w) in
        elim (cases_lt t.b (length nodes)) [
          | inl lt ↦
              let up = AllPairs-from_increasing (tree.numbers nodes) means.rising (suc t.a) (suc t.b) 0 (let o = t.order in omega (arith, o)) (omega (arith, lt, length-map nodes (λ (m : Node). m.number))) in
              absurd (omega (arith, up, number_at nodes t.a none a_lt, number_at nodes t.b none lt, nth_is n t.a a_lt, nth_is n t.b lt, same))
          | inr past ↦
              let last : nth n t.b ≡ n = get_or_past (map (λ (m : Node). m.number) nodes) t.b n (omega (arith, past, length-map nodes (λ (m : Node). m.number))) in
              let number : (get_or nodes t.a none).number ≡ n = sym (nth_is n t.a a_lt) ∙ (same ∙ last) in
              (get_or nodes t.a none, ap (λ k. node_at nodes k) (sym number) ∙ found t.a a_lt)
        ]

    -- each change of the file is one of the tree
    pub change_node : (n : ℕ) → IsChange changes n → (node : Node) × (node_at nodes n ≡ Some node)
    change_node n is = among_nodes n is (pigeons (length nodes) (nth_place n) (λ k le. (place_is n k is le).0))

    kept_node : (n : ℕ) → IsChange changes n → IsKept nodes n
    kept_node n is = let found_node = change_node n is in inr (subst IsSome (sym found_node.1) refl)

    pub known_kept : (n : ℕ) → (n ≡ 0) ⊎ IsChange changes n → IsKept nodes n
    known_kept n (inl e) = inl e
    known_kept n (inr is) = kept_node n is

    -- the parent of a change of the tree
    pub parent_of : (n : ℕ) (node : Node) → node_at nodes n ≡ Some node → IsParent changes n node.parent
    parent_of n node is =
        let s = means.changes n node is in
        subst (λ m. IsParent changes m node.parent) (sym s.2.number ∙ number_of nodes n node is) s.2.parent

    pub parent_there : (n p : ℕ) → IsChange changes n → IsParent changes n p → parent_at nodes n ≡ Some p
    parent_there n p is up =
        let found_node = change_node n is in
        ap (λ o. option_map (λ (m : Node). m.parent) o) found_node.1 ∙ ap Some (one_parent n found_node.0.parent p (parent_of n found_node.0 found_node.1) up)

    -- the child last used of each state that is kept
    node_or : (o : Option Node) → (o ≡ None) ⊎ ((node : Node) × (o ≡ Some node))
    node_or None = inl refl
    node_or (Some node) = inr (node, refl)

    child_here : (n : ℕ) (o : Option Node) → n ≢ 0 → node_at nodes n ≡ o → child_of parts n ≡ unwrap_or (option_map (λ (m : Node). m.last_child) o) 0
    child_here n o some is = elim (eqb_tells n 0) [
      | inl same ↦ absurd (some same.1)
      | inr other ↦
          ap (λ b. if b then parts.root_child else unwrap_or (option_map (λ (m : Node). m.last_child) (node_at nodes n)) 0) other.0
          ∙ ap (λ p. unwrap_or (option_map (λ (m : Node). m.last_child) p) 0) is
    ]

    pub child_used : (n : ℕ) → IsKept nodes n → IsLastUsed changes n (child_of parts n)
    child_used n kept = elim (cases_eq n 0) [
      | inl e ↦ subst (λ m. IsLastUsed changes m (child_of parts m)) (sym e) means.root_child
      | inr some ↦ elim (node_or (node_at nodes n)) [
        | inl gone ↦ absurd (not_kept gone some kept)
        | inr node ↦
            let s = means.changes n node.0 node.1 in
            subst (IsLastUsed changes n) (sym (child_here n (Some node.0) some node.1))
            (subst (λ m. IsLastUsed changes m node.0.last_child) (sym s.2.number ∙ number_of nodes n node.0 node.1) s.2.last_child)
      ]
    ]
      where
        not_kept : node_at nodes n ≡ None → n ≢ 0 → IsKept nodes n → ⊥
        not_kept gone some (inl e) = some e
        not_kept gone some (inr there) = let e : IsSome {T = Node} None = subst IsSome gone there in cc

    pub child_none : (n : ℕ) → node_at nodes n ≡ None → n ≢ 0 → child_of parts n ≡ 0
    child_none n gone some = child_here n None some gone

    -- the save number of a state is 0, or that of a change
    pub save_cases : (n : ℕ) → (save_at nodes n ≡ 0) ⊎ ((node : Node) × (node_at nodes n ≡ Some node) × (save_at nodes n ≡ node.save))
    save_cases n = elim (node_or (node_at nodes n)) [
      | inl gone ↦ inl (ap (λ o. unwrap_or (option_map (λ (m : Node). m.save) o) 0) gone)
      | inr node ↦ inr (node.0, node.1, ap (λ o. unwrap_or (option_map (λ (m : Node). m.save) o) 0) node.1)
    ]
