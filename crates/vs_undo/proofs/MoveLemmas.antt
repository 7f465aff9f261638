-- What a move leaves of a tree.
use Rattle.std.proofs.Common.{◌≡◌, ℕ, ◌<◌, ◌==◌, not, if◌then◌else◌, true, false, List, [], ◌∷◌, ◌++◌, length, get_or, map, reverse, Option, Some, None, option_map, IsSome, inl, inr, sym, ap, subst, ◌∙◌, refl}
use Rattle.std.proofs.lemmas.Bool.{eq-eqb}
use Rattle.std.proofs.lemmas.List.Folds.{list_any_at}
use Rattle.vs_entries.specs.declared.entry.Entry.{Entry}
use Rattle.vs_entries.specs.Entries.{Leads}
use Rattle.vs_undo.specs.declared.parts.Node.{Node}
use Rattle.vs_undo.specs.declared.parts.Parts.{Parts}
use Rattle.vs_undo.specs.Ways.{node_at, parent_at, start, IsWay, is_on, IsWayOf, IsTree, IsBetween}
use Rattle.vs_undo.specs.Edges.{IsEdge, AreEdges, AreStates}
use Rattle.vs_undo.specs.Turns.{all_led_back, exchanged, AreLedBack}
use Rattle.vs_undo.specs.Walks.{IsWalk, Crosses, IsTurned, AreTurned}
use Rattle.vs_undo.specs.History.{without_entries, links_of, changed, with_entries, installed, with_child, used, moved, arrived}
use Rattle.vs_undo.proofs.WayLemmas.{one_way, on_turned, walk_between}
use Rattle.vs_undo.proofs.NodeLemmas.{parent_at-links_of}
use Rattle.vs_undo.proofs.DepthLemmas.{number_of}
use Rattle.vs_undo.proofs.ChangeLemmas.{map-changed_same, at-changed_same, map-changed, seen, was_there, at-installed}

-- a change without its child last used
abbrev pub childless : Node → Node
childless node = record node { last_child = 0 }

-- the children last used are all that a way in use changes
pub used_at : (way : List ℕ) (parts : Parts) (k : ℕ) → option_map childless (node_at (used way parts).nodes k) ≡ option_map childless (node_at parts.nodes k)
used_at [] parts k = refl
used_at (n ∷ way) parts k =
    let p = start way in
    let after = with_child p n parts in
    let one : option_map childless (node_at after.nodes k) ≡ option_map childless (node_at parts.nodes k) =
    elim (p == 0) as (λ b. option_map childless (node_at (if b then record parts { root_child = n } else record parts { nodes = changed p (λ (node : Node). record node { last_child = n }) parts.nodes }).nodes k) ≡ option_map childless (node_at parts.nodes k)) [
      | true ↦ refl
      | false ↦ at-changed_same childless (λ node. record node { last_child = n }) (λ _. refl) (λ _. refl) p parts.nodes k
    ] in
    used_at way after k ∙ one

-- numbers stay
pub with_child_numbers : (p n : ℕ) (parts : Parts) → map (λ (m : Node). m.number) (with_child p n parts).nodes ≡ map (λ (m : Node). m.number) parts.nodes
with_child_numbers p n parts =
    elim (p == 0) as (λ b. map (λ (m : Node). m.number) (if b then record parts { root_child = n } else record parts { nodes = changed p (λ (node : Node). record node { last_child = n }) parts.nodes }).nodes ≡ map (λ (m : Node). m.number) parts.nodes) [
      | true ↦ refl
      | false ↦ map-changed_same (λ node. node.number) (λ node. record node { last_child = n }) (λ _. refl) p parts.nodes
    ]

used_numbers : (way : List ℕ) (parts : Parts) → map (λ (n : Node). n.number) (used way parts).nodes ≡ map (λ (n : Node). n.number) parts.nodes
used_numbers [] parts = refl
used_numbers (n ∷ way) parts = used_numbers way (with_child (start way) n parts) ∙ with_child_numbers (start way) n parts

pub used_last : (way : List ℕ) (parts : Parts) → (used way parts).last ≡ parts.last
used_last [] parts = refl
used_last (n ∷ way) parts =
    let p = start way in
    used_last way (with_child p n parts) ∙
    elim (p == 0) as (λ b. (if b then record parts { root_child = n } else record parts { nodes = changed p (λ (node : Node). record node { last_child = n }) parts.nodes }).last ≡ parts.last) [ true ↦ refl | false ↦ refl ]

pub used_last_save : (way : List ℕ) (parts : Parts) → (used way parts).last_save ≡ parts.last_save
used_last_save [] parts = refl
used_last_save (n ∷ way) parts =
    let p = start way in
    used_last_save way (with_child p n parts) ∙
    elim (p == 0) as (λ b. (if b then record parts { root_child = n } else record parts { nodes = changed p (λ (node : Node). record node { last_child = n }) parts.nodes }).last_save ≡ parts.last_save) [ true ↦ refl | false ↦ refl ]

-- the entries have no part in it
used_bare : (way : List ℕ) (parts : Parts) → links_of (used way parts) ≡ used way (links_of parts)
used_bare [] parts = refl
used_bare (n ∷ way) parts =
    let p = start way in
    used_bare way (with_child p n parts) ∙ ap (used way)
    (elim (p == 0) as (λ b. links_of (if b then record parts { root_child = n } else record parts { nodes = changed p (λ (node : Node). record node { last_child = n }) parts.nodes })
    ≡ (if b then record (links_of parts) { root_child = n } else record (links_of parts) { nodes = changed p (λ (node : Node). record node { last_child = n }) (map without_entries parts.nodes) })) [
      | true ↦ refl
      | false ↦ ap (λ (nodes : List Node). record parts { nodes = nodes }) (map-changed without_entries (λ node. record node { last_child = n }) (λ node. record node { last_child = n }) (λ _. refl) (λ _. refl) p parts.nodes)
    ])

installed_bare : (path : List ℕ) (turned : List (List Entry)) (nodes : List Node) → map without_entries (installed path turned nodes) ≡ map without_entries nodes
installed_bare [] turned nodes = refl
installed_bare (p ∷ path) [] nodes = refl
installed_bare (p ∷ path) (t ∷ turned) nodes =
    installed_bare path turned (changed p (with_entries t) nodes) ∙ map-changed_same without_entries (with_entries t) (λ _. refl) p nodes

pub installed_at : (path : List ℕ) (turned : List (List Entry)) (nodes : List Node) (k : ℕ) → option_map without_entries (node_at (installed path turned nodes) k) ≡ option_map without_entries (node_at nodes k)
installed_at [] turned nodes k = refl
installed_at (p ∷ path) [] nodes k = refl
installed_at (p ∷ path) (t ∷ turned) nodes k =
    installed_at path turned (changed p (with_entries t) nodes) k ∙ at-changed_same without_entries (with_entries t) (λ _. refl) (λ _. refl) p nodes k

pub installed_numbers : (path : List ℕ) (turned : List (List Entry)) (nodes : List Node) → map (λ (n : Node). n.number) (installed path turned nodes) ≡ map (λ (n : Node). n.number) nodes
installed_numbers [] turned nodes = refl
installed_numbers (p ∷ path) [] nodes = refl
installed_numbers (p ∷ path) (t ∷ turned) nodes =
    installed_numbers path turned (changed p (with_entries t) nodes) ∙ map-changed_same (λ node. node.number) (with_entries t) (λ _. refl) p nodes

pub arrived_numbers : (path : List ℕ) (turned : List (List Entry)) (way : List ℕ) (parts : Parts) → map (λ (n : Node). n.number) (arrived path turned way parts).nodes ≡ map (λ (n : Node). n.number) parts.nodes
arrived_numbers path turned way parts = used_numbers way (record parts { nodes = installed path turned parts.nodes }) ∙ installed_numbers path turned parts.nodes

-- the links of a tree after a move
pub links_of-arrived : (path : List ℕ) (turned : List (List Entry)) (way : List ℕ) (parts : Parts) → links_of (arrived path turned way parts) ≡ moved way (links_of parts)
links_of-arrived path turned way parts =
    let there = record parts { nodes = installed path turned parts.nodes } in
    ap (λ (p : Parts). record p { current = start way }) (used_bare way there ∙ ap (λ (nodes : List Node). used way (record parts { nodes = nodes })) (installed_bare path turned parts.nodes))

-- parents stay
pub installed_parent : (path : List ℕ) (turned : List (List Entry)) (nodes : List Node) (k : ℕ) → parent_at (installed path turned nodes) k ≡ parent_at nodes k
installed_parent path turned nodes k = seen without_entries (λ n. n.parent) (λ _. refl) _ _ (installed_at path turned nodes k)

pub arrived_parent : (path : List ℕ) (turned : List (List Entry)) (way : List ℕ) (parts : Parts) (k : ℕ) → parent_at (arrived path turned way parts).nodes k ≡ parent_at parts.nodes k
arrived_parent path turned way parts k =
    let nodes = installed path turned parts.nodes in
    seen childless (λ n. n.parent) (λ _. refl) _ _ (used_at way (record parts { nodes = nodes }) k) ∙ seen without_entries (λ n. n.parent) (λ _. refl) _ _ (installed_at path turned parts.nodes k)

pub way_same : (p q : ℕ → Option ℕ) → ((k : ℕ) → p k ≡ q k) → (way : List ℕ) → IsWay p way → IsWay q way
way_same p q same [] is = is
way_same p q same (n ∷ way) is = (sym (same n) ∙ is.0, way_same p q same way is.1)

pub kept_same : (o p : Option Node) → option_map (λ (n : Node). n.parent) o ≡ option_map (λ (n : Node). n.parent) p → IsSome o → IsSome p
kept_same None None same is = is
kept_same None (Some y) same is = absurd (cc)
kept_same (Some x) None same is = absurd (cc)
kept_same (Some x) (Some y) same is = is

pub none_same : (o p : Option Node) → option_map (λ (n : Node). n.parent) o ≡ option_map (λ (n : Node). n.parent) p → p ≡ None → o ≡ None
none_same None p same none = refl
none_same (Some x) None same none = absurd (cc)
none_same (Some x) (Some y) same none = absurd (cc)

-- where parents stay, a tree stays one
pub tree_same : (new old : List Node) → ((k : ℕ) → parent_at new k ≡ parent_at old k) → IsTree old → IsTree new
tree_same new old same tree = record {
  root = none_same (node_at new 0) (node_at old 0) (same 0) tree.root;
  ways = λ number kept.
      let was = tree.ways number (elim kept [ inl zero ↦ inl zero | inr some ↦ inr (kept_same (node_at new number) (node_at old number) (same number) some) ]) in
      record {
        way = was.way;
        is = record { is_way = way_same (λ k. parent_at old k) (λ k. parent_at new k) (λ k. sym (same k)) was.way was.is.is_way; starts = was.is.starts };
      };
}

pub arrived_tree : (path : List ℕ) (turned : List (List Entry)) (way : List ℕ) (parts : Parts) → IsTree parts.nodes → IsTree (arrived path turned way parts).nodes
arrived_tree path turned way parts tree =
    tree_same (arrived path turned way parts).nodes parts.nodes (arrived_parent path turned way parts) tree

module _ (nodes : List Node) (tree : IsTree nodes) where
  root : parent_at nodes 0 ≡ None
  root = ap (option_map (λ (n : Node). n.parent)) tree.root

  pub same_way : (number : ℕ) (a b : List ℕ) → IsWayOf nodes number a → IsWayOf nodes number b → a ≡ b
  same_way number a b x y = one_way (λ k. parent_at nodes k) root a b x.is_way y.is_way (x.starts ∙ sym y.starts)

  module _ (current number : ℕ) (from to path : List ℕ) (a : IsWayOf nodes current from) (b : IsWayOf nodes number to) (between : IsBetween from to path) where
    up_way : IsWay (λ k. parent_at nodes k) (between.up ++ between.rest)
    up_way = subst (IsWay (λ k. parent_at nodes k)) between.from_is a.is_way

    down_way : IsWay (λ k. parent_at nodes k) (between.down ++ between.rest)
    down_way = subst (IsWay (λ k. parent_at nodes k)) between.to_is b.is_way

    pub path_walk : IsWalk (λ k. parent_at nodes k) (is_on from) current path number
    path_walk =
        let P = λ (k : ℕ). parent_at nodes k in
        let w0 = walk_between P root between.up between.down between.rest up_way down_way between.differ in
        let w1 = subst (λ f. IsWalk P (is_on f) (start f) (between.up ++ reverse between.down) (start (between.down ++ between.rest))) (sym between.from_is) w0 in
        let w2 = subst (λ t. IsWalk P (is_on from) (start from) (between.up ++ reverse between.down) (start t)) (sym between.to_is) w1 in
        let w3 = subst (λ p. IsWalk P (is_on from) (start from) p (start to)) (sym between.path_is) w2 in
        let w4 = subst (λ k. IsWalk P (is_on from) k path (start to)) a.starts w3 in
        subst (λ k. IsWalk P (is_on from) current path k) b.starts w4

    path_turns : (k : ℕ) → is_on to k ≡ (if is_on path k then not (is_on from k) else is_on from k)
    path_turns k =
        let P = λ (k : ℕ). parent_at nodes k in
        let t0 = on_turned P root between.up between.down between.rest up_way down_way between.differ k in
        let t1 = subst (λ f. is_on (between.down ++ between.rest) k ≡ (if is_on (between.up ++ reverse between.down) k then not (is_on f k) else is_on f k)) (sym between.from_is) t0 in
        let t2 = subst (λ t. is_on t k ≡ (if is_on (between.up ++ reverse between.down) k then not (is_on from k) else is_on from k)) (sym between.to_is) t1 in
        subst (λ p. is_on to k ≡ (if is_on p k then not (is_on from k) else is_on from k)) (sym between.path_is) t2

    module _ {X : Type 0} (L : Entry → X → X → Type 0) (states : ℕ → X) where
      -- the walk of a move
      abbrev pub crosses : AreEdges L nodes (is_on from) states → (here : X) → states current ≡ here → Crosses L nodes path here
      crosses edges here is = record { back = is_on from; from = current; to = number; states = states; walk = path_walk; edges = edges; here_is = is }

      module _ (turned : List (List Entry)) (count : length turned ≡ length path) (edges : AreEdges L nodes (is_on from) states)
          (turns : AreTurned L nodes (is_on from) states path turned (length path)) where
        -- an edge after the move
        edge_after : (k : ℕ) (after : Node) → node_at (installed path turned nodes) k ≡ Some after → IsEdge L (is_on to k) after.entries (states k) (states after.parent)
        edge_after k after is =
            let inst = at-installed path turned nodes k after count is in
            let parent : after.parent ≡ inst.node.parent = ap (λ (n : Node). n.parent) inst.bare_is in
            subst (λ p. IsEdge L (is_on to k) after.entries (states k) (states p)) (sym parent)
            (elim inst.entries_are [
              | inl h ↦
                  let on : is_on to k ≡ is_on from k = path_turns k ∙ ap (λ b. if b then not (is_on from k) else is_on from k) h.0 in
                  subst (λ b. IsEdge L b after.entries (states k) (states inst.node.parent)) (sym on)
                  (subst (λ es. IsEdge L (is_on from k) es (states k) (states inst.node.parent)) (sym h.1) (edges k inst.node inst.was))
              | inr h ↦
                  let on_path : is_on path k ≡ true = list_any_at (λ n. n == k) path h.0 0 h.1.0 (eq-eqb (get_or path h.0 0) k h.1.1) in
                  let on : is_on to k ≡ not (is_on from k) = path_turns k ∙ ap (λ b. if b then not (is_on from k) else is_on from k) on_path in
                  let turn = subst (λ m. IsTurned L nodes (is_on from) states m (get_or turned h.0 [])) h.1.1 (turns h.0 h.1.0) in
                  subst (λ b. IsEdge L b after.entries (states k) (states inst.node.parent)) (sym on)
                  (subst (λ es. IsEdge L (not (is_on from k)) es (states k) (states inst.node.parent)) (sym h.1.2) (turn inst.node inst.was))
            ])

pub arrived_tells : {X : Type 0} (L : Entry → X → X → Type 0) (states : ℕ → X) (parts : Parts) (number : ℕ) (from to path : List ℕ) (turned : List (List Entry)) → IsTree parts.nodes
    → IsWayOf parts.nodes parts.current from → IsWayOf parts.nodes number to → IsBetween from to path → length turned ≡ length path → AreEdges L parts.nodes (is_on from) states
    → AreTurned L parts.nodes (is_on from) states path turned (length path) → AreStates L (arrived path turned to parts) states
arrived_tells L states parts number from to path turned tree a b between count edges turns =
    let nodes = installed path turned parts.nodes in
    let there = record parts { nodes = nodes } in
    record {
      way = to;
      is_way = record { is_way = way_same (λ k. parent_at parts.nodes k) (λ k. parent_at (arrived path turned to parts).nodes k) (λ k. sym (arrived_parent path turned to parts k)) to b.is_way; starts = refl };
      edges = λ k after is.
          let mid = was_there childless (node_at nodes k) (childless after) (sym (used_at to there k) ∙ ap (option_map childless) is) in
          let entries : mid.0.entries ≡ after.entries = ap (λ (n : Node). n.entries) mid.1.1 in
          let parent : mid.0.parent ≡ after.parent = ap (λ (n : Node). n.parent) mid.1.1 in
          let edge = edge_after parts.nodes tree parts.current number from to path a b between L states turned count edges turns k mid.0 mid.1.0 in
          subst (λ p. IsEdge L (is_on to k) after.entries (states k) (states p)) parent (subst (λ es. IsEdge L (is_on to k) es (states k) (states mid.0.parent)) entries edge);
    }

-- the edges of a tree, said by any way of its current state
pub edges_of : {X : Type 0} (L : Entry → X → X → Type 0) (states : ℕ → X) (parts : Parts) (from : List ℕ) → IsTree parts.nodes → IsWayOf parts.nodes parts.current from → AreStates L parts states
    → AreEdges L parts.nodes (is_on from) states
edges_of L states parts from tree a are_states = subst (λ way. AreEdges L parts.nodes (is_on way) states) (same_way parts.nodes tree parts.current are_states.way from are_states.is_way a) are_states.edges

-- the walk of a move can be made
pub crosses_path : {X : Type 0} (L : Entry → X → X → Type 0) (states : ℕ → X) (parts : Parts) (number : ℕ) (from to path : List ℕ) (nodes : List Node) (p : List ℕ) (here : X) → IsTree parts.nodes
    → IsWayOf parts.nodes parts.current from → IsWayOf parts.nodes number to → IsBetween from to path → nodes ≡ parts.nodes → p ≡ path → AreStates L parts states → states parts.current ≡ here
    → Crosses L nodes p here
crosses_path L states parts number from to path nodes p here tree a b between nodes_are path_is are_states is =
    let cr = crosses parts.nodes tree parts.current number from to path a b between L states (edges_of L states parts from tree a are_states) here is in
    subst (λ xs. Crosses L nodes xs here) (sym path_is) (subst (λ ns. Crosses L ns path here) (sym nodes_are) cr)

-- the walk of a move was made, and its edges are turned
pub crossed : {X : Type 0} (L : Entry → X → X → Type 0) (At : X → Type 0) (states : ℕ → X) (parts : Parts) (number : ℕ) (from to path : List ℕ) (turned : List (List Entry)) (nodes : List Node) (p : List ℕ) (here : X)
    → IsTree parts.nodes → IsWayOf parts.nodes parts.current from → IsWayOf parts.nodes number to → IsBetween from to path → nodes ≡ parts.nodes → p ≡ path → length turned ≡ length p
    → AreStates L parts states → states parts.current ≡ here
    → ((cr : Crosses L nodes p here) → At (cr.states cr.to) × AreTurned L nodes cr.back cr.states p turned (length p))
    → AreStates L (arrived path turned to parts) states × At (states number)
crossed {X = X} L At states parts number from to path turned nodes p here tree a b between nodes_are path_is count are_states is made =
    let Made : List Node → List ℕ → Type 0 = λ ns xs. (cr : Crosses L ns xs here) → At (cr.states cr.to) × AreTurned L ns cr.back cr.states xs turned (length xs) in
    let there : Made parts.nodes path = subst (λ xs. Made parts.nodes xs) path_is (subst (λ ns. Made ns p) nodes_are made) in
    let edges = edges_of L states parts from tree a are_states in
    let done = there (crosses parts.nodes tree parts.current number from to path a b between L states edges here is) in
    (arrived_tells L states parts number from to path turned tree a b between (count ∙ ap length path_is) edges done.1, done.0)

-- the entries of a change by the ways of both states
exchanged_same : (from to : List ℕ) (texts : ℕ → List (List ℕ)) (node : Node) → is_on to node.number ≡ is_on from node.number → exchanged from to texts node ≡ node.entries
exchanged_same from to texts node on =
    let there = all_led_back node.entries (texts node.number) in
    let back = all_led_back node.entries (texts node.parent) in
    ap (λ b. if is_on from node.number then (if b then node.entries else there) else (if b then back else node.entries)) on ∙
    elim (is_on from node.number) as (λ b. (if b then (if b then node.entries else there) else (if b then back else node.entries)) ≡ node.entries) [ true ↦ refl | false ↦ refl ]

exchanged_turned : (from to : List ℕ) (texts : ℕ → List (List ℕ)) (node : Node) → is_on to node.number ≡ not (is_on from node.number)
    → exchanged from to texts node ≡ all_led_back node.entries (texts (if is_on from node.number then node.number else node.parent))
exchanged_turned from to texts node on =
    let there = all_led_back node.entries (texts node.number) in
    let back = all_led_back node.entries (texts node.parent) in
    ap (λ b. if is_on from node.number then (if b then node.entries else there) else (if b then back else node.entries)) on ∙
    elim (is_on from node.number) as (λ b. (if b then (if not b then node.entries else there) else (if not b then back else node.entries)) ≡ all_led_back node.entries (texts (if b then node.number else node.parent))) [ true ↦ refl | false ↦ refl ]

-- the entries after a move
pub exchanged_after : (states : ℕ → List (List ℕ)) (parts : Parts) (number : ℕ) (from to path : List ℕ) (turned : List (List Entry)) (nodes : List Node) (p : List ℕ) (here : List (List ℕ))
    → IsTree parts.nodes → IsWayOf parts.nodes parts.current from → IsWayOf parts.nodes number to → IsBetween from to path → nodes ≡ parts.nodes → p ≡ path → length turned ≡ length p
    → AreStates Leads parts states → states parts.current ≡ here
    → ((cr : Crosses Leads nodes p here) → (i : ℕ) → i < length p → AreLedBack nodes cr.back cr.states (get_or p i 0) (get_or turned i []))
    → (k : ℕ) (was now : Node) → node_at parts.nodes k ≡ Some was → node_at (arrived path turned to parts).nodes k ≡ Some now → now.entries ≡ exchanged from to states was
exchanged_after states parts number from to path turned nodes p here tree a b between nodes_are path_is count are_states is made k was now was_at now_at =
    let Made : List Node → List ℕ → Type 0 = λ ns xs. (cr : Crosses Leads ns xs here) → (i : ℕ) → i < length xs → AreLedBack ns cr.back cr.states (get_or xs i 0) (get_or turned i []) in
    let there : Made parts.nodes path = subst (λ xs. Made parts.nodes xs) path_is (subst (λ ns. Made ns p) nodes_are made) in
    let each = there (crosses parts.nodes tree parts.current number from to path a b between Leads states (edges_of Leads states parts from tree a are_states) here is) in
    let mid = was_there childless (node_at (installed path turned parts.nodes) k) (childless now) (sym (used_at to (record parts { nodes = installed path turned parts.nodes }) k) ∙ ap (option_map childless) now_at) in
    let entries : mid.0.entries ≡ now.entries = ap (λ (n : Node). n.entries) mid.1.1 in
    let inst = at-installed path turned parts.nodes k mid.0 (count ∙ ap length path_is) mid.1.0 in
    let found : Some inst.node ≡ Some was = sym inst.was ∙ was_at in
    let same : inst.node ≡ was = cc in
    let named : was.number ≡ k = number_of parts.nodes k was was_at in
    let turns = path_turns parts.nodes tree parts.current number from to path a b between was.number in
    sym entries ∙ elim inst.entries_are [
      | inl h ↦
          let on : is_on to was.number ≡ is_on from was.number = turns ∙ ap (λ b. if b then not (is_on from was.number) else is_on from was.number) (ap (is_on path) named ∙ h.0) in
          h.1 ∙ (ap (λ (n : Node). n.entries) same ∙ sym (exchanged_same from to states was on))
      | inr h ↦
          let on_path : is_on path k ≡ true = list_any_at (λ n. n == k) path h.0 0 h.1.0 (eq-eqb (get_or path h.0 0) k h.1.1) in
          let on : is_on to was.number ≡ not (is_on from was.number) = turns ∙ ap (λ b. if b then not (is_on from was.number) else is_on from was.number) (ap (is_on path) named ∙ on_path) in
          let back = subst (λ m. AreLedBack parts.nodes (is_on from) states m (get_or turned h.0 [])) h.1.1 (each h.0 h.1.0) in
          h.1.2 ∙ (back was was_at ∙ (ap (λ n. all_led_back was.entries (states (if is_on from n then n else was.parent))) (sym named) ∙ sym (exchanged_turned from to states was on)))
    ]

-- the ways of a tree are those of its links
pub bare_way : (nodes : List Node) (number : ℕ) (way : List ℕ) → IsWayOf (map without_entries nodes) number way → IsWayOf nodes number way
bare_way nodes number way is = record {
  is_way = way_same (λ k. parent_at (map without_entries nodes) k) (λ k. parent_at nodes k) (λ k. parent_at-links_of nodes k) way is.is_way;
  starts = is.starts;
}
