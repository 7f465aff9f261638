-- What is left of a tree without the other children of the oldest state: a state is kept where its way passes the child that is left.
use Rattle.std.proofs.Common.{◌≡◌, ◌≢◌, ℕ, suc, ◌-◌, ◌==◌, ◌||◌, if◌then◌else◌, Bool, true, false, List, [], ◌∷◌, length, get_or, Option, Some, None, option_map, IsSome, ◌⊎◌, inl, inr, sym, ap, subst, ◌∙◌, arith, refl}
use Rattle.std.specs.List.{filter}
use Rattle.std.proofs.lemmas.Bool.Decides.{nat_tests}
use Rattle.vs_entries.specs.declared.entry.Entry.{Entry}
use Rattle.vs_undo.specs.declared.parts.Node.{Node}
use Rattle.vs_undo.specs.declared.parts.Parts.{Parts}
use Rattle.vs_undo.specs.Ways.{node_at, parent_at, start, way_of, IsWay, is_on, IsWayOf, IsKept, IsTree}
use Rattle.vs_undo.specs.Edges.{AreStates}
use Rattle.vs_undo.specs.Sound.{child_of, AreSaves, IsSound}
use Rattle.vs_undo.specs.Meetings.{IsSettled, IsUsed}
use Rattle.vs_undo.specs.Forgetting.{top_of}
use Rattle.vs_undo.proofs.PartLemmas.{at_only_yes, at_only_no, only_parent, only_parent_was, only_rising, only_save, only_some, only_was}
use Rattle.vs_undo.proofs.ShortWays.{way_is}
use Rattle.vs_undo.proofs.SoundLemmas.{last_child_in, parent_kept}
use Rattle.vs_undo.proofs.WayLemmas.{one_way}

-- the last state of a way of several
pub top_cons : (n m : ℕ) (way : List ℕ) → top_of (n ∷ m ∷ way) ≡ top_of (m ∷ way)
top_cons n m way =
    let e : suc (suc (length way)) - 1 ≡ suc (suc (length way) - 1) = omega arith in
    ap (λ k. get_or (n ∷ m ∷ way) k 0) e

module _ (parent : ℕ → Option ℕ) (root : parent 0 ≡ None) where
  -- a way that begins at the root ends there
  pub way_at_root : (way : List ℕ) → IsWay parent way → start way ≡ 0 → way ≡ []
  way_at_root [] is starts = refl
  way_at_root (n ∷ way) is starts = absurd (let e : None ≡ Some (start way) = sym root ∙ (ap parent (sym starts) ∙ is.0) in cc)

  pub top_is : (way : List ℕ) → IsWay parent way → start way ≢ 0 → (parent (top_of way) ≡ Some 0) × (is_on way (top_of way) ≡ true)
  top_is [] is some = absurd (some refl)
  top_is (n ∷ []) is some = (is.0, (let e : (n == n) ≡ true = grind (arith, nat_tests) in ap (λ b. b || false) e))
  top_is (n ∷ m ∷ way) is some =
      let more : m ≢ 0 = λ e. let h : None ≡ Some (start way) = sym root ∙ (ap parent (sym e) ∙ is.1.0) in cc in
      let rest = top_is (m ∷ way) is.1 more in
      let on : is_on (n ∷ m ∷ way) (top_of (m ∷ way)) ≡ true = elim (n == top_of (m ∷ way)) as (λ b. (b || is_on (m ∷ way) (top_of (m ∷ way))) ≡ true) [ true ↦ refl | false ↦ rest.1 ] in
      (ap parent (top_cons n m way) ∙ rest.0, ap (is_on (n ∷ m ∷ way)) (top_cons n m way) ∙ on)

module _ (nodes : List Node) (tree : IsTree nodes) where
  abbrev pub no_parent_at_root : parent_at nodes 0 ≡ None
  no_parent_at_root = ap (option_map (λ (n : Node). n.parent)) tree.root

  pub no_root : (k p : ℕ) → parent_at nodes k ≡ Some p → k ≢ 0
  no_root k p is = λ e. let h : None ≡ Some p = sym no_parent_at_root ∙ (ap (parent_at nodes) (sym e) ∙ is) in cc

  pub way_of_root : way_of nodes 0 ≡ []
  way_of_root = way_is nodes 0 [] tree (record { is_way = tt; starts = refl })

  -- the way of a change is that of its parent with the change before it
  pub way_of_step : (k p : ℕ) → parent_at nodes k ≡ Some p → way_of nodes k ≡ k ∷ way_of nodes p
  way_of_step k p is =
      let w = tree.ways p (parent_kept nodes k p tree is) in
      let up : way_of nodes p ≡ w.way = way_is nodes p w.way tree w.is in
      way_is nodes k (k ∷ w.way) tree (record { is_way = (is ∙ ap Some (sym w.is.starts), w.is.is_way); starts = refl }) ∙ ap (λ ns. k ∷ ns) (sym up)

-- Some states are those whose ways pass a child of the oldest state.
pub record ArePast (nodes : List Node) (child : ℕ) (past : ℕ → Bool) : Type 0 where
  pub top : parent_at nodes child ≡ Some 0
  pub root : past 0 ≡ false
  pub step : (k p : ℕ) → parent_at nodes k ≡ Some p → past k ≡ ((k == child) || past p)

pub past_way : (nodes : List Node) (child : ℕ) → IsTree nodes → parent_at nodes child ≡ Some 0 → ArePast nodes child (λ k. is_on (way_of nodes k) child)
past_way nodes child tree top = record {
  top = top;
  root = ap (λ w. is_on w child) (way_of_root nodes tree);
  step = λ k p is. ap (λ w. is_on w child) (way_of_step nodes tree k p is);
}

module _ (parts : Parts) (sound : IsSound parts) (child : ℕ) (past : ℕ → Bool) (are : ArePast parts.nodes child past) where
  abbrev left : Parts
  left = record parts { nodes = filter (λ (n : Node). past n.number) parts.nodes; root_child = child }

  root : parent_at parts.nodes 0 ≡ None
  root = no_parent_at_root parts.nodes sound.tree

  child_some : child ≢ 0
  child_some = no_root parts.nodes sound.tree child 0 are.top

  child_past : past child ≡ true
  child_past = are.step child 0 are.top ∙ (let e : (child == child) ≡ true = grind (arith, nat_tests) in ap (λ b. b || past 0) e)

  -- what has a parent that is left is left
  below_past : (k p : ℕ) → parent_at parts.nodes k ≡ Some p → past p ≡ true → past k ≡ true
  below_past k p is holds = are.step k p is ∙ (ap (λ b. (k == child) || b) holds ∙ elim (k == child) as (λ b. (b || true) ≡ true) [ true ↦ refl | false ↦ refl ])

  -- a state that is left is the child or has a parent that is left
  above_past : (k p : ℕ) → parent_at parts.nodes k ≡ Some p → past k ≡ true → ((k ≡ child) × (p ≡ 0)) ⊎ (past p ≡ true)
  above_past k p is holds =
      elim (k == child) as (λ b. b ≡ (k == child) → (b || past p) ≡ true → ((k ≡ child) × (p ≡ 0)) ⊎ (past p ≡ true)) [
        | true ↦ λ t e.
            let same : k ≡ child = grind (arith, nat_tests) in
            let h : Some p ≡ Some 0 = sym is ∙ (ap (parent_at parts.nodes) same ∙ are.top) in
            inl (same, cc)
        | false ↦ λ t e. inr e
      ] refl (sym (are.step k p is) ∙ holds)

  past_some : (k : ℕ) → past k ≡ true → k ≢ 0
  past_some k holds = λ e. let h : true ≡ false = sym holds ∙ (ap past e ∙ are.root) in cc

  way_left : (way : List ℕ) → IsWay (λ k. parent_at parts.nodes k) way → (start way ≡ 0) ⊎ (past (start way) ≡ true) → IsWay (λ k. parent_at left.nodes k) way
  way_left [] is holds = tt
  way_left (n ∷ way) is holds =
      let kept : past n ≡ true = elim holds [ inl at_zero ↦ absurd (no_root parts.nodes sound.tree n (start way) is.0 at_zero) | inr h ↦ h ] in
      (only_parent past parts.nodes n kept ∙ is.0, way_left way is.1 (elim (above_past n (start way) is.0 kept) [ inl top ↦ inl top.1 | inr h ↦ inr h ]))

  left_tree : IsTree left.nodes
  left_tree = record {
    root = at_only_no past parts.nodes 0 are.root;
    ways = λ k kept. elim kept [
      | inl at_zero ↦ record { way = []; is = record { is_way = tt; starts = sym at_zero } }
      | inr some ↦
          let was = only_some past parts.nodes k some in
          let w = sound.tree.ways k (inr was.1) in
          record { way = w.way; is = record { is_way = way_left w.way w.is.is_way (inr (ap past w.is.starts ∙ was.0)); starts = w.is.starts } }
    ];
  }

  pub child_left : (k : ℕ) → past k ≡ true → child_of left k ≡ child_of parts k
  child_left k holds =
      let some = past_some k holds in
      let e : (k == 0) ≡ false = grind (arith, nat_tests) in
      ap (λ b. if b then child else last_child_in (node_at left.nodes k)) e ∙ (ap last_child_in (at_only_yes past parts.nodes k holds) ∙ ap (λ b. if b then parts.root_child else last_child_in (node_at parts.nodes k)) (sym e))

  child_gone : (k : ℕ) → past k ≡ false → k ≢ 0 → child_of left k ≡ 0
  child_gone k gone some =
      let e : (k == 0) ≡ false = grind (arith, nat_tests) in
      ap (λ b. if b then child else last_child_in (node_at left.nodes k)) e ∙ ap last_child_in (at_only_no past parts.nodes k gone)

  child_cases : (k : ℕ) → ((k ≡ 0) × (child_of left k ≡ child)) ⊎ (((past k ≡ true) × (child_of left k ≡ child_of parts k)) ⊎ (child_of left k ≡ 0))
  child_cases k =
      elim (k == 0) as (λ b. b ≡ (k == 0) → ((k ≡ 0) × (child_of left k ≡ child)) ⊎ (((past k ≡ true) × (child_of left k ≡ child_of parts k)) ⊎ (child_of left k ≡ 0))) [
        | true ↦ λ t. let zero_is : k ≡ 0 = grind (arith, nat_tests) in inl (zero_is, ap (child_of left) zero_is)
        | false ↦ λ t.
            let some : k ≢ 0 = grind (arith, nat_tests) in
            elim (past k) as (λ b. past k ≡ b → ((k ≡ 0) × (child_of left k ≡ child)) ⊎ (((past k ≡ true) × (child_of left k ≡ child_of parts k)) ⊎ (child_of left k ≡ 0))) [
              | true ↦ λ holds. inr (inl (holds, child_left k holds))
              | false ↦ λ gone. inr (inr (child_gone k gone some))
            ] refl
      ] refl

  left_saves : AreSaves left
  left_saves = record {
    differ = λ a b some same. elim (only_save past parts.nodes a) [
      | inl x ↦ elim (only_save past parts.nodes b) [
        | inl y ↦ sound.saves.differ a b (λ e. some (x ∙ e)) (sym x ∙ (same ∙ y))
        | inr y ↦ absurd (some (same ∙ y))
      ]
      | inr x ↦ absurd (some x)
    ];
    below = λ k. elim (only_save past parts.nodes k) [ inl x ↦ let h = sound.saves.below k in omega arith | inr x ↦ omega arith ];
    last = sound.saves.last;
  }

  was_kept : (k : ℕ) → IsKept left.nodes k → IsKept parts.nodes k
  was_kept k kept = elim kept [ inl at_zero ↦ inl at_zero | inr some ↦ inr (only_some past parts.nodes k some).1 ]

  module _ (on : past parts.current ≡ true) where
    pub left_sound : IsSound left
    left_sound = record {
      tree = left_tree;
      current = elim sound.current [ inl at_zero ↦ inl at_zero | inr some ↦ inr (subst IsSome (sym (at_only_yes past parts.nodes parts.current on)) some) ];
      children = record {
        each = λ k some. elim (child_cases k) [
          | inl h ↦ ap (parent_at left.nodes) h.1 ∙ (only_parent past parts.nodes child child_past ∙ (are.top ∙ ap Some (sym h.0)))
          | inr other ↦ elim other [
            | inl h ↦
                let was = sound.children.each k (λ e. some (h.1 ∙ e)) in
                ap (parent_at left.nodes) h.1 ∙ (only_parent past parts.nodes (child_of parts k) (below_past (child_of parts k) k was h.0) ∙ was)
            | inr h ↦ absurd (some h)
          ]
        ];
        some = λ k c is.
            let was = only_parent_was past parts.nodes c k is in
            elim (above_past c k was.1 was.0) [
              | inl top ↦ λ e. child_some (ap (child_of left) (sym top.1) ∙ e)
              | inr holds ↦ λ e. sound.children.some k c was.1 (sym (child_left k holds) ∙ e)
            ];
      };
      numbers = record {
        rising = only_rising past parts.nodes sound.numbers.rising;
        below = λ k kept. sound.numbers.below k (was_kept k kept);
        read = λ k kept. sound.numbers.read k (was_kept k kept);
        last = sound.numbers.last;
      };
      saves = left_saves;
      entries = λ k node is. sound.entries k node (only_was past parts.nodes k node is).1;
    }

    pub left_way : (way : List ℕ) → IsWayOf parts.nodes parts.current way → IsWayOf left.nodes parts.current way
    left_way way is = record { is_way = way_left way is.is_way (inr (ap past is.starts ∙ on)); starts = is.starts }

    pub left_states : {X : Type 0} (L : Entry → X → X → Type 0) (states : ℕ → X) → AreStates L parts states → AreStates L left states
    left_states L states are_states = record {
      way = are_states.way;
      is_way = left_way are_states.way are_states.is_way;
      edges = λ k node is. are_states.edges k node (only_was past parts.nodes k node is).1;
    }

    used_left : (way : List ℕ) → IsWay (λ k. parent_at parts.nodes k) way → (start way ≡ 0) ⊎ (past (start way) ≡ true) → IsUsed parts way → IsUsed left way
    used_left [] is holds in_use = tt
    used_left (n ∷ way) is holds in_use =
        let kept : past n ≡ true = elim holds [ inl at_zero ↦ absurd (no_root parts.nodes sound.tree n (start way) is.0 at_zero) | inr h ↦ h ] in
        elim (above_past n (start way) is.0 kept) [
          | inl top ↦ (ap (child_of left) top.1 ∙ sym top.0, used_left way is.1 (inl top.1) in_use.1)
          | inr h ↦ (child_left (start way) h ∙ in_use.0, used_left way is.1 (inr h) in_use.1)
        ]

    pub left_settled : IsSettled parts → IsSettled left
    left_settled settled = λ way is.
        let w = sound.tree.ways parts.current sound.current in
        let now = left_way w.way w.is in
        let left_root : parent_at left.nodes 0 ≡ None = ap (option_map (λ (n : Node). n.parent)) left_tree.root in
        let one : w.way ≡ way = one_way (λ k. parent_at left.nodes k) left_root w.way way now.is_way is.is_way (now.starts ∙ sym is.starts) in
        subst (IsUsed left) one (used_left w.way w.is.is_way (inr (ap past w.is.starts ∙ on)) (settled w.way w.is))
