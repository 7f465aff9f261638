-- A sound tree stays one.
use Rattle.std.proofs.Common.{◌≡◌, ◌≢◌, ℕ, ◌<◌, ◌==◌, if◌then◌else◌, true, false, List, [], ◌∷◌, length, get_or, Option, Some, None, option_map, unwrap_or, IsSome, ◌⊎◌, inl, inr, sym, ap, subst, ◌∙◌, arith, refl}
use Rattle.std.proofs.lemmas.Bool.Decides.{nat_tests}
use Rattle.vs_entries.specs.declared.entry.Entry.{Entry}
use Rattle.vs_undo.specs.declared.parts.Node.{Node}
use Rattle.vs_undo.specs.declared.parts.Parts.{Parts}
use Rattle.vs_undo.specs.Ways.{node_at, parent_at, start, IsWay, IsWayOf, IsKept, IsTree}
use Rattle.vs_undo.specs.Sound.{child_of, AreChildren, IsSound}
use Rattle.vs_undo.specs.History.{without_entries, changed, with_child, used, installed, arrived}
use Rattle.vs_undo.proofs.ChangeLemmas.{at-changed, at-changed_same, at-installed, seen}
use Rattle.vs_undo.proofs.MoveLemmas.{childless, arrived_parent, arrived_tree, installed_at, used_at, used_last, used_last_save, way_same, installed_parent, arrived_numbers}
use Rattle.vs_undo.proofs.StayLemmas.{entries_same, kept_before, numbers_same, save_seen, saves_same}

abbrev pub last_child_in : Option Node → ℕ
last_child_in o = unwrap_or (option_map (λ (node : Node). node.last_child) o) 0

-- the child last used at a number after a write
written_child : (p n : ℕ) (nodes : List Node) (k : ℕ) (o : Option Node) → o ≡ node_at (changed p (λ (node : Node). record node { last_child = n }) nodes) k
    → (last_child_in o ≡ last_child_in (node_at nodes k)) ⊎ ((k ≡ p) × (last_child_in o ≡ n))
written_child p n nodes k None is =
    let same = at-changed_same (λ node. node.number) (λ node. record node { last_child = n }) (λ _. refl) (λ _. refl) p nodes k in
    inl (none_child (node_at nodes k) (sym (ap (option_map (λ (node : Node). node.number)) is ∙ same)))
  where
    none_child : (o : Option Node) → option_map (λ (node : Node). node.number) o ≡ None → 0 ≡ last_child_in o
    none_child None e = refl
    none_child (Some x) e = absurd (cc)
written_child p n nodes k (Some after) is =
    let was = at-changed p (λ node. record node { last_child = n }) (λ _. refl) nodes k after (sym is) in
    elim was.1.1 [
      | inl h ↦ inr (sym h.0, ap (λ (node : Node). node.last_child) h.1)
      | inr h ↦ inl (ap (λ (node : Node). node.last_child) h.1 ∙ ap last_child_in (sym was.1.0))
    ]

-- the child last used of a state after another was set
pub child_after : (p n : ℕ) (parts : Parts) (k : ℕ) → (child_of (with_child p n parts) k ≡ child_of parts k) ⊎ ((k ≡ p) × (child_of (with_child p n parts) k ≡ n))
child_after p n parts k =
    elim (p == 0) as (λ b. b ≡ (p == 0) → (child_of (if b then record parts { root_child = n } else record parts { nodes = changed p (λ (node : Node). record node { last_child = n }) parts.nodes }) k ≡ child_of parts k)
    ⊎ ((k ≡ p) × (child_of (if b then record parts { root_child = n } else record parts { nodes = changed p (λ (node : Node). record node { last_child = n }) parts.nodes }) k ≡ n))) [
      | true ↦ λ t. elim (k == 0) as (λ b. b ≡ (k == 0) → ((if b then n else last_child_in (node_at parts.nodes k)) ≡ (if b then parts.root_child else last_child_in (node_at parts.nodes k)))
          ⊎ ((k ≡ p) × ((if b then n else last_child_in (node_at parts.nodes k)) ≡ n))) [
            | true ↦ λ u. let same : k ≡ p = grind (arith, nat_tests) in inr (same, refl)
            | false ↦ λ u. inl refl
          ] refl
      | false ↦ λ t. elim (k == 0) as (λ b. ((if b then parts.root_child else last_child_in (node_at (changed p (λ (node : Node). record node { last_child = n }) parts.nodes) k)) ≡ (if b then parts.root_child else last_child_in (node_at parts.nodes k)))
          ⊎ ((k ≡ p) × ((if b then parts.root_child else last_child_in (node_at (changed p (λ (node : Node). record node { last_child = n }) parts.nodes) k)) ≡ n))) [
            | true ↦ inl refl
            | false ↦ written_child p n parts.nodes k (node_at (changed p (λ (node : Node). record node { last_child = n }) parts.nodes) k) refl
          ]
    ] refl

-- Children last used stay children where another child is set, and parents stay.
children_after : (p n : ℕ) (parts : Parts) → n ≢ 0 → parent_at parts.nodes n ≡ Some p → ((k : ℕ) → parent_at (with_child p n parts).nodes k ≡ parent_at parts.nodes k)
    → AreChildren parts → AreChildren (with_child p n parts)
children_after p n parts more here same are = record {
  each = λ k is. elim (child_after p n parts k) [
    | inl h ↦ same (child_of (with_child p n parts) k) ∙ (ap (parent_at parts.nodes) h ∙ are.each k (λ e. is (h ∙ e)))
    | inr h ↦ same (child_of (with_child p n parts) k) ∙ (ap (parent_at parts.nodes) h.1 ∙ (here ∙ ap Some (sym h.0)))
  ];
  some = λ k child is. elim (child_after p n parts k) [
    | inl h ↦ λ e. are.some k child (sym (same child) ∙ is) (sym h ∙ e)
    | inr h ↦ λ e. more (sym h.1 ∙ e)
  ];
}

pub with_child_parent : (p n : ℕ) (parts : Parts) (k : ℕ) → parent_at (with_child p n parts).nodes k ≡ parent_at parts.nodes k
with_child_parent p n parts k =
    elim (p == 0) as (λ b. parent_at (if b then record parts { root_child = n } else record parts { nodes = changed p (λ (node : Node). record node { last_child = n }) parts.nodes }).nodes k ≡ parent_at parts.nodes k) [
      | true ↦ refl
      | false ↦ at-changed_same (λ node. node.parent) (λ node. record node { last_child = n }) (λ _. refl) (λ _. refl) p parts.nodes k
    ]

used_children : (way : List ℕ) (parts : Parts) → parent_at parts.nodes 0 ≡ None → IsWay (λ k. parent_at parts.nodes k) way → AreChildren parts → AreChildren (used way parts)
used_children [] parts root is are = are
used_children (n ∷ way) parts root is are =
    let p = start way in
    let after = with_child p n parts in
    let same = with_child_parent p n parts in
    let more : n ≢ 0 = λ e. let h : None ≡ Some p = sym root ∙ (ap (parent_at parts.nodes) (sym e) ∙ is.0) in cc in
    used_children way after (same 0 ∙ root) (way_same (λ k. parent_at parts.nodes k) (λ k. parent_at after.nodes k) (λ k. sym (same k)) way is.1) (children_after p n parts more is.0 same are)

-- the entries have no part in it
pub installed_child : (path : List ℕ) (turned : List (List Entry)) (parts : Parts) (k : ℕ) → child_of (record parts { nodes = installed path turned parts.nodes }) k ≡ child_of parts k
installed_child path turned parts k =
    ap (λ c. if k == 0 then parts.root_child else unwrap_or c 0) (seen without_entries (λ n. n.last_child) (λ _. refl) (node_at (installed path turned parts.nodes) k) (node_at parts.nodes k) (installed_at path turned parts.nodes k))

pub known_some : (o : Option Node) (p : ℕ) → option_map (λ (n : Node). n.parent) o ≡ Some p → IsSome o
known_some None p e = absurd (cc)
known_some (Some x) p e = refl

-- a way begins at a kept state
pub start_kept : (nodes : List Node) (way : List ℕ) → IsWay (λ k. parent_at nodes k) way → IsKept nodes (start way)
start_kept nodes [] is = inl refl
start_kept nodes (n ∷ way) is = inr (known_some (node_at nodes n) (start way) is.0)

-- each change still has an entry
arrived_entries : (path : List ℕ) (turned : List (List Entry)) (way : List ℕ) (parts : Parts) → length turned ≡ length path → ((i : ℕ) → i < length path → 0 < length (get_or turned i []))
    → ((k : ℕ) (node : Node) → node_at parts.nodes k ≡ Some node → 0 < length node.entries) → (k : ℕ) (node : Node) → node_at (arrived path turned way parts).nodes k ≡ Some node → 0 < length node.entries
arrived_entries path turned way parts count some entries =
    let there = record parts { nodes = installed path turned parts.nodes } in
    entries_same childless (λ _. refl) (arrived path turned way parts).nodes there.nodes (λ k. used_at way there k) (λ k node is.
    let inst = at-installed path turned parts.nodes k node count is in
    elim inst.entries_are [
      | inl h ↦ omega (arith, ap length h.1, entries k inst.node inst.was)
      | inr h ↦ omega (arith, ap length h.1.2, some h.0 h.1.0)
    ])

pub arrived_sound : (path : List ℕ) (turned : List (List Entry)) (way : List ℕ) (parts : Parts) (number : ℕ) → length turned ≡ length path → ((i : ℕ) → i < length path → 0 < length (get_or turned i []))
    → IsSound parts → IsWayOf parts.nodes number way → IsSound (arrived path turned way parts)
arrived_sound path turned way parts number count some sound is =
    let there = record parts { nodes = installed path turned parts.nodes } in
    let after = arrived path turned way parts in
    let same = arrived_parent path turned way parts in
    let mid = installed_parent path turned parts.nodes in
    let are_there : AreChildren there = record {
      each = λ k more. mid (child_of there k) ∙ (ap (parent_at parts.nodes) (installed_child path turned parts k) ∙ sound.children.each k (λ e. more (installed_child path turned parts k ∙ e)));
      some = λ k child known e. sound.children.some k child (sym (mid child) ∙ known) (sym (installed_child path turned parts k) ∙ e);
    } in
    let are = used_children way there (mid 0 ∙ ap (option_map (λ (n : Node). n.parent)) sound.tree.root) (way_same (λ k. parent_at parts.nodes k) (λ k. parent_at there.nodes k) (λ k. sym (mid k)) way is.is_way) are_there in
    record {
      tree = arrived_tree path turned way parts sound.tree;
      current = start_kept after.nodes way (way_same (λ k. parent_at parts.nodes k) (λ k. parent_at after.nodes k) (λ k. sym (same k)) way is.is_way);
      children = record { each = are.each; some = are.some };
      numbers = numbers_same after parts (arrived_numbers path turned way parts) (kept_before after.nodes parts.nodes same) (used_last way there) sound.numbers;
      saves = saves_same after parts (λ k. save_seen childless (λ _. refl) after.nodes there.nodes k (used_at way there k) ∙ save_seen without_entries (λ _. refl) there.nodes parts.nodes k (installed_at path turned parts.nodes k)) (used_last_save way there) sound.saves;
      entries = arrived_entries path turned way parts count some sound.entries;
    }

-- a parent is kept
pub parent_kept : (nodes : List Node) (number p : ℕ) → IsTree nodes → parent_at nodes number ≡ Some p → IsKept nodes p
parent_kept nodes number p tree is =
    let has = tree.ways number (inr (known_some (node_at nodes number) p is)) in
    along has.way has.is.is_way has.is.starts
  where
    along : (way : List ℕ) → IsWay (λ k. parent_at nodes k) way → start way ≡ number → IsKept nodes p
    along [] w s = absurd (let e : Some p ≡ None = sym is ∙ (ap (parent_at nodes) (sym s) ∙ ap (option_map (λ (n : Node). n.parent)) tree.root) in cc)
    along (n ∷ way) w s =
        let e : Some (start way) ≡ Some p = sym w.0 ∙ (ap (parent_at nodes) s ∙ is) in
        let same : start way ≡ p = cc in
        subst (λ k. IsKept nodes k) same (start_kept nodes way w.1)

no_parent : (o : Option Node) → option_map (λ (n : Node). n.parent) o ≡ None → IsSome o → ⊥
no_parent None e some = absurd (cc)
no_parent (Some x) e some = cc

-- a kept state without a parent is the root
pub root_is : (nodes : List Node) (number : ℕ) → IsKept nodes number → parent_at nodes number ≡ None → number ≡ 0
root_is nodes number kept none = elim kept [ inl zero ↦ zero | inr some ↦ absurd (no_parent (node_at nodes number) none some) ]
