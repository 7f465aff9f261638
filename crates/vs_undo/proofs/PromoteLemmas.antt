-- What is left of a tree whose oldest state is forgotten: each way loses its last state, and edges speak of the texts of parents alone.
use Rattle.std.proofs.Common.{◌≡◌, ◌≢◌, ℕ, ◌==◌, ◌||◌, not, if◌then◌else◌, cond, Bool, true, false, List, [], ◌∷◌, length, map, Option, Some, None, option_map, IsSome, ◌⊎◌, inl, inr, sym, ap, subst, ◌∙◌, arith, refl}
use Rattle.std.specs.List.{filter}
use Rattle.std.specs.List.Sorted.{IsStrictlyIncreasing}
use Rattle.std.proofs.lemmas.Bool.Decides.{nat_tests}
use Rattle.vs_entries.specs.declared.entry.Entry.{Entry}
use Rattle.vs_undo.specs.declared.parts.Node.{Node}
use Rattle.vs_undo.specs.declared.parts.Parts.{Parts}
use Rattle.vs_undo.specs.Ways.{node_at, parent_at, save_at, start, IsWay, is_on, IsWayOf, IsKept, IsTree}
use Rattle.vs_undo.specs.Edges.{IsEdge, AreStates}
use Rattle.vs_undo.specs.Sound.{child_of, AreSaves, IsSound}
use Rattle.vs_undo.specs.Numbers.{numbers}
use Rattle.vs_undo.specs.History.{put}
use Rattle.vs_undo.specs.Meetings.{IsSettled, IsUsed}
use Rattle.vs_undo.specs.Forgetting.{promoted, raised}
use Rattle.vs_undo.proofs.ChangeLemmas.{was_there}
use Rattle.vs_undo.proofs.DropLemmas.{no_parent_at_root, no_root, way_at_root}
use Rattle.vs_undo.proofs.MarkLemmas.{at-mapped, map-mapped}
use Rattle.vs_undo.proofs.PartLemmas.{at_only_yes, at_only_no, only_rising, only_save, only_was}
use Rattle.vs_undo.proofs.SoundLemmas.{known_some, last_child_in}
use Rattle.vs_undo.proofs.StayLemmas.{save_seen}
use Rattle.vs_undo.proofs.WayLemmas.{one_way}

-- what stays of a change whose parent may be another
abbrev pub parentless : Node → Node
parentless node = record node { parent = 0 }

raised_same : {Y : Type 0} (g : Node → Y) → ((node : Node) → g node ≡ g (parentless node)) → (child : ℕ) (node : Node) → g (raised child node) ≡ g node
raised_same g same child node =
    elim (node.parent == child) as (λ b. g (if b then record node { parent = 0 } else node) ≡ g node) [ true ↦ sym (same node) | false ↦ refl ]

-- the number of the parent, where one was promoted
abbrev pub up_from : ℕ → ℕ → ℕ
up_from child parent = if parent == child then 0 else parent

raised_parent : (child : ℕ) (node : Node) → (raised child node).parent ≡ up_from child node.parent
raised_parent child node =
    elim (node.parent == child) as (λ b. (if b then record node { parent = 0 } else node).parent ≡ (if b then 0 else node.parent)) [ true ↦ refl | false ↦ refl ]

module _ (child : ℕ) where
  at_raised : (nodes : List Node) (k : ℕ) → node_at (map (raised child) nodes) k ≡ option_map (raised child) (node_at nodes k)
  at_raised [] k = refl
  at_raised (node ∷ nodes) k =
      ap (λ n. if n == k then Some (raised child node) else node_at (map (raised child) nodes) k) (raised_same (λ (n : Node). n.number) (λ _. refl) child node) ∙
      elim (node.number == k) as (λ b. (if b then Some (raised child node) else node_at (map (raised child) nodes) k) ≡ option_map (raised child) (if b then Some node else node_at nodes k)) [
        | true ↦ refl
        | false ↦ at_raised nodes k
      ]

-- a way without a state
abbrev pub cut : ℕ → List ℕ → List ℕ
cut child way = filter (λ n. not (n == child)) way

pub is_on-cut : (child : ℕ) (way : List ℕ) (k : ℕ) → k ≢ child → is_on (cut child way) k ≡ is_on way k
is_on-cut child [] k other = refl
is_on-cut child (n ∷ way) k other =
    let rest = is_on-cut child way k other in
    elim (n == child) as (λ b. b ≡ (n == child) → is_on (cond (not b) (n ∷ cut child way) (cut child way)) k ≡ ((n == k) || is_on way k)) [
      | true ↦ λ t. let e : (n == k) ≡ false = grind (arith, nat_tests) in rest ∙ ap (λ b. b || is_on way k) (sym e)
      | false ↦ λ t. ap (λ b. (n == k) || b) rest
    ] refl

module _ (parts : Parts) (sound : IsSound parts) (child : ℕ) (top : parent_at parts.nodes child ≡ Some 0) (lone : (k : ℕ) → parent_at parts.nodes k ≡ Some 0 → k ≡ child) where
  abbrev old : List Node
  old = parts.nodes

  abbrev rest : List Node
  rest = filter (λ (node : Node). not (node.number == child)) parts.nodes

  abbrev after : Parts
  after = promoted child parts

  abbrev other : ℕ → Bool
  other k = not (k == child)

  root : parent_at old 0 ≡ None
  root = no_parent_at_root old sound.tree

  child_some : child ≢ 0
  child_some = no_root old sound.tree child 0 top

  differs : (k : ℕ) → k ≢ child → other k ≡ true
  differs k d = let e : (k == child) ≡ false = grind (arith, nat_tests) in ap not e

  is_child : other child ≡ false
  is_child = let e : (child == child) ≡ true = grind (arith, nat_tests) in ap not e

  differ : (k : ℕ) → other k ≡ true → k ≢ child
  differ k is = λ e. let h : true ≡ false = sym is ∙ (ap other e ∙ is_child) in cc

  at_after : (k : ℕ) → k ≢ child → node_at after.nodes k ≡ option_map (raised child) (node_at old k)
  at_after k d = at_raised child rest k ∙ ap (option_map (raised child)) (at_only_yes other old k (differs k d))

  gone : node_at after.nodes child ≡ None
  gone = at_raised child rest child ∙ ap (option_map (raised child)) (at_only_no other old child is_child)

  -- a change that is there was there under its number
  was : (k : ℕ) (node : Node) → node_at after.nodes k ≡ Some node → (k ≢ child) × ((before : Node) × ((node_at old k ≡ Some before) × (raised child before ≡ node)))
  was k node is =
      let raised_was = was_there (raised child) (node_at rest k) node (sym (at_raised child rest k) ∙ is) in
      let w = only_was other old k raised_was.0 raised_was.1.0 in
      (differ k w.0, (raised_was.0, (w.1, raised_was.1.1)))

  parent_after : (k p : ℕ) → k ≢ child → parent_at old k ≡ Some p → parent_at after.nodes k ≡ Some (up_from child p)
  parent_after k p d is =
      let before = was_there (λ (n : Node). n.parent) (node_at old k) p is in
      ap (option_map (λ (n : Node). n.parent)) (at_after k d ∙ ap (option_map (raised child)) before.1.0) ∙ ap Some (raised_parent child before.0 ∙ ap (up_from child) before.1.1)

  pub parent_was : (k q : ℕ) → parent_at after.nodes k ≡ Some q → (k ≢ child) × ((p : ℕ) × ((parent_at old k ≡ Some p) × (up_from child p ≡ q)))
  parent_was k q is =
      let now = was_there (λ (n : Node). n.parent) (node_at after.nodes k) q is in
      let w = was k now.0 now.1.0 in
      let before = w.1.0 in
      (w.0, (before.parent, (ap (option_map (λ (n : Node). n.parent)) w.1.1.0, sym (raised_parent child before) ∙ (ap (λ (n : Node). n.parent) w.1.1.1 ∙ now.1.1))))

  -- parents other than the promoted one stay
  pub up_other : (p : ℕ) → p ≢ child → up_from child p ≡ p
  up_other p d = let e : (p == child) ≡ false = grind (arith, nat_tests) in ap (λ b. if b then 0 else p) e

  pub up_child : up_from child child ≡ 0
  up_child = let e : (child == child) ≡ true = grind (arith, nat_tests) in ap (λ b. if b then 0 else child) e

  pub or_child : (k : ℕ) → (k ≡ child) ⊎ (k ≢ child)
  or_child k = elim (k == child) as (λ b. b ≡ (k == child) → (k ≡ child) ⊎ (k ≢ child)) [ true ↦ λ t. inl (grind (arith, nat_tests)) | false ↦ λ t. inr (grind (arith, nat_tests)) ] refl

  cut_other : (n : ℕ) (way : List ℕ) → n ≢ child → cut child (n ∷ way) ≡ n ∷ cut child way
  cut_other n way d = ap (λ b. cond b (n ∷ cut child way) (cut child way)) (differs n d)

  cut_child : (way : List ℕ) → cut child (child ∷ way) ≡ cut child way
  cut_child way = ap (λ b. cond b (child ∷ cut child way) (cut child way)) is_child

  start_cut : (way : List ℕ) → IsWay (λ k. parent_at old k) way → start (cut child way) ≡ up_from child (start way)
  start_cut [] is = sym (up_other 0 (λ e. child_some (sym e)))
  start_cut (n ∷ way) is = elim (or_child n) [
    | inl same ↦
        let h : Some (start way) ≡ Some 0 = sym is.0 ∙ (ap (parent_at old) same ∙ top) in
        let end : way ≡ [] = way_at_root (λ k. parent_at old k) root way is.1 (let e : start way ≡ 0 = cc in e) in
        ap (λ m. start (cut child (m ∷ way))) same ∙ (ap start (cut_child way) ∙ (ap (λ w. start (cut child w)) end ∙ (sym up_child ∙ ap (up_from child) (sym same))))
    | inr d ↦ ap start (cut_other n way d) ∙ sym (up_other n d)
  ]

  way_after : (way : List ℕ) → IsWay (λ k. parent_at old k) way → IsWay (λ k. parent_at after.nodes k) (cut child way)
  way_after [] is = tt
  way_after (n ∷ way) is = elim (or_child n) [
    | inl same ↦ subst (IsWay (λ k. parent_at after.nodes k)) (sym (ap (λ m. cut child (m ∷ way)) same ∙ cut_child way)) (way_after way is.1)
    | inr d ↦ subst (IsWay (λ k. parent_at after.nodes k)) (sym (cut_other n way d)) (parent_after n (start way) d is.0 ∙ ap Some (sym (start_cut way is.1)), way_after way is.1)
  ]

  pub way_of_after : (k : ℕ) (way : List ℕ) → k ≢ child → IsWayOf old k way → IsWayOf after.nodes k (cut child way)
  way_of_after k way d is = record { is_way = way_after way is.is_way; starts = start_cut way is.is_way ∙ (ap (up_from child) is.starts ∙ up_other k d) }

  kept_was : (k : ℕ) → IsSome (node_at after.nodes k) → (k ≢ child) × IsSome (node_at old k)
  kept_was k some =
      let w = there (node_at after.nodes k) some in
      let before = was k w.0 w.1 in
      (before.0, known_some (node_at old k) before.1.0.parent (ap (option_map (λ (n : Node). n.parent)) before.1.1.0))
    where
      there : (o : Option Node) → IsSome o → (node : Node) × (o ≡ Some node)
      there None s = absurd (cc)
      there (Some x) s = (x, refl)

  pub after_tree : IsTree after.nodes
  after_tree = record {
    root = at_after 0 (λ e. child_some (sym e)) ∙ ap (option_map (raised child)) sound.tree.root;
    ways = λ k kept. elim kept [
      | inl at_zero ↦ record { way = []; is = record { is_way = tt; starts = sym at_zero } }
      | inr some ↦
          let before = kept_was k some in
          let w = sound.tree.ways k (inr before.1) in
          record { way = cut child w.way; is = way_of_after k w.way before.0 w.is }
    ];
  }

  pub child_after : (k : ℕ) → k ≢ 0 → k ≢ child → child_of after k ≡ child_of parts k
  child_after k some d =
      let e : (k == 0) ≡ false = grind (arith, nat_tests) in
      ap (λ b. if b then child_of parts child else last_child_in (node_at after.nodes k)) e ∙
      (ap last_child_in (at_after k d) ∙ (raised_child (node_at old k) ∙ ap (λ b. if b then parts.root_child else last_child_in (node_at old k)) (sym e)))
    where
      raised_child : (o : Option Node) → last_child_in (option_map (raised child) o) ≡ last_child_in o
      raised_child None = refl
      raised_child (Some x) = raised_same (λ (n : Node). n.last_child) (λ _. refl) child x

  child_gone : child_of after child ≡ 0
  child_gone =
      let e : (child == 0) ≡ false = let some = child_some in grind (arith, nat_tests) in
      ap (λ b. if b then child_of parts child else last_child_in (node_at after.nodes child)) e ∙ ap last_child_in gone

  -- the child last used of each state
  child_cases : (k : ℕ) → ((k ≡ 0) × (child_of after k ≡ child_of parts child)) ⊎ (((k ≢ 0) × ((k ≢ child) × (child_of after k ≡ child_of parts k))) ⊎ ((k ≡ child) × (child_of after k ≡ 0)))
  child_cases k =
      elim (k == 0) as (λ b. b ≡ (k == 0) → ((k ≡ 0) × (child_of after k ≡ child_of parts child)) ⊎ (((k ≢ 0) × ((k ≢ child) × (child_of after k ≡ child_of parts k))) ⊎ ((k ≡ child) × (child_of after k ≡ 0)))) [
        | true ↦ λ t. let z : k ≡ 0 = grind (arith, nat_tests) in inl (z, ap (child_of after) z)
        | false ↦ λ t.
            let some : k ≢ 0 = grind (arith, nat_tests) in
            elim (or_child k) [
              | inl same ↦ inr (inr (same, ap (child_of after) same ∙ child_gone))
              | inr d ↦ inr (inl (some, (d, child_after k some d)))
            ]
      ] refl

  -- the child last used of the promoted state is not that state
  not_itself : (k : ℕ) → k ≢ 0 → parent_at old child ≡ Some k → ⊥
  not_itself k some is = let h : Some k ≡ Some 0 = sym is ∙ top in some (cc)

  save_cases : (k : ℕ) → (save_at after.nodes k ≡ save_at old k) ⊎ (save_at after.nodes k ≡ 0)
  save_cases k =
      let seen : save_at after.nodes k ≡ save_at rest k = save_seen parentless (λ _. refl) after.nodes rest k
      (at-mapped parentless (raised child) (raised_same parentless (λ _. refl) child) (raised_same (λ (n : Node). n.number) (λ _. refl) child) rest k) in
      elim (only_save other old k) [ inl h ↦ inl (seen ∙ h) | inr h ↦ inr (seen ∙ h) ]

  after_saves : AreSaves after
  after_saves = record {
    differ = λ a b some same. elim (save_cases a) [
      | inl x ↦ elim (save_cases b) [
        | inl y ↦ sound.saves.differ a b (λ e. some (x ∙ e)) (sym x ∙ (same ∙ y))
        | inr y ↦ absurd (some (same ∙ y))
      ]
      | inr x ↦ absurd (some x)
    ];
    below = λ k. elim (save_cases k) [ inl x ↦ let h = sound.saves.below k in omega arith | inr x ↦ omega arith ];
    last = sound.saves.last;
  }

  rising_after : IsStrictlyIncreasing (numbers after.nodes)
  rising_after = subst (λ ns. IsStrictlyIncreasing (0 ∷ ns)) (sym (map-mapped (λ (n : Node). n.number) (raised child) (raised_same (λ (n : Node). n.number) (λ _. refl) child) rest)) (only_rising other old sound.numbers.rising)

  still_kept : (k : ℕ) → IsKept after.nodes k → IsKept old k
  still_kept k kept = elim kept [ inl at_zero ↦ inl at_zero | inr some ↦ inr (kept_was k some).1 ]

  module _ (newer : parts.current ≢ child) where
    pub promoted_sound : IsSound (promoted child parts)
    promoted_sound = record {
      tree = after_tree;
      current = elim sound.current [ inl at_zero ↦ inl at_zero | inr some ↦ inr (subst IsSome (sym (at_after parts.current newer)) (raised_some (node_at old parts.current) some)) ];
      children = record {
        each = λ k some. elim (child_cases k) [
          | inl h ↦
              let below = sound.children.each child (λ e. some (h.1 ∙ e)) in
              let d : child_of parts child ≢ child = λ e. not_itself child child_some (ap (parent_at old) (sym e) ∙ below) in
              ap (parent_at after.nodes) h.1 ∙ (parent_after (child_of parts child) child d below ∙ ap Some (up_child ∙ sym h.0))
          | inr o ↦ elim o [
            | inl h ↦
                let below = sound.children.each k (λ e. some (h.1.1 ∙ e)) in
                let d : child_of parts k ≢ child = λ e. not_itself k h.0 (ap (parent_at old) (sym e) ∙ below) in
                ap (parent_at after.nodes) h.1.1 ∙ (parent_after (child_of parts k) k d below ∙ ap Some (up_other k h.1.0))
            | inr h ↦ absurd (some h.1)
          ]
        ];
        some = λ k c is.
            let before = parent_was c k is in
            let p = before.1.0 in
            elim (or_child p) [
              | inl same ↦
                  let z : k ≡ 0 = sym before.1.1.1 ∙ (ap (up_from child) same ∙ up_child) in
                  λ e. sound.children.some child c (before.1.1.0 ∙ ap Some same) (ap (child_of after) (sym z) ∙ e)
              | inr d ↦
                  let is_k : p ≡ k = sym (up_other p d) ∙ before.1.1.1 in
                  let known : parent_at old c ≡ Some k = before.1.1.0 ∙ ap Some is_k in
                  let more : k ≢ 0 = λ z. before.0 (lone c (known ∙ ap Some z)) in
                  λ e. sound.children.some k c known (sym (child_after k more (λ x. d (is_k ∙ x))) ∙ e)
            ];
      };
      numbers = record {
        rising = rising_after;
        below = λ k kept. sound.numbers.below k (still_kept k kept);
        read = λ k kept. sound.numbers.read k (still_kept k kept);
        last = sound.numbers.last;
      };
      saves = after_saves;
      entries = λ k node is.
          let w = was k node is in
          let e : w.1.0.entries ≡ node.entries = sym (raised_same (λ (n : Node). n.entries) (λ _. refl) child w.1.0) ∙ ap (λ (n : Node). n.entries) w.1.1.1 in
          omega (arith, ap length e, sound.entries k w.1.0 w.1.1.0);
    }
      where
        raised_some : (o : Option Node) → IsSome o → IsSome (option_map (raised child) o)
        raised_some None s = absurd (cc)
        raised_some (Some x) s = refl

    pub promoted_states : {X : Type 0} (L : Entry → X → X → Type 0) (states now : ℕ → X) → ((k : ℕ) → now k ≡ put 0 (states child) states k) → AreStates L parts states → AreStates L (promoted child parts) now
    promoted_states L states now same are_states = record {
      way = cut child are_states.way;
      is_way = way_of_after parts.current are_states.way newer are_states.is_way;
      edges = λ k node is.
          let w = was k node is in
          let before = w.1.0 in
          let p = before.parent in
          let known : parent_at old k ≡ Some p = ap (option_map (λ (n : Node). n.parent)) w.1.1.0 in
          let some : k ≢ 0 = no_root old sound.tree k p known in
          let up : node.parent ≡ up_from child p = ap (λ (n : Node). n.parent) (sym w.1.1.1) ∙ raised_parent child before in
          let entries : before.entries ≡ node.entries = sym (raised_same (λ (n : Node). n.entries) (λ _. refl) child before) ∙ ap (λ (n : Node). n.entries) w.1.1.1 in
          let here : states k ≡ now k = (let e : (k == 0) ≡ false = grind (arith, nat_tests) in ap (λ b. if b then states child else states k) (sym e)) ∙ sym (same k) in
          let there : states p ≡ now node.parent = parent_text p (λ z. w.0 (lone k (known ∙ ap Some z))) ∙ (sym (same (up_from child p)) ∙ ap now (sym up)) in
          subst (λ b. IsEdge L b node.entries (now k) (now node.parent)) (sym (is_on-cut child are_states.way k w.0))
          (subst (λ s. IsEdge L (is_on are_states.way k) node.entries (now k) s) there
          (subst (λ s. IsEdge L (is_on are_states.way k) node.entries s (states p)) here
          (subst (λ es. IsEdge L (is_on are_states.way k) es (states k) (states p)) entries (are_states.edges k before w.1.1.0))));
    }
      where
        parent_text : (p : ℕ) → p ≢ 0 → states p ≡ put 0 (states child) states (up_from child p)
        parent_text p some = elim (or_child p) [
          | inl is_it ↦ ap states is_it ∙ ap (put 0 (states child) states) (sym up_child ∙ ap (up_from child) (sym is_it))
          | inr d ↦ (let e : (p == 0) ≡ false = grind (arith, nat_tests) in ap (λ b. if b then states child else states p) (sym e)) ∙ ap (put 0 (states child) states) (sym (up_other p d))
        ]

    used_after : (way : List ℕ) → IsWay (λ k. parent_at old k) way → IsUsed parts way → IsUsed after (cut child way)
    used_after [] is in_use = tt
    used_after (n ∷ way) is in_use = elim (or_child n) [
      | inl same ↦ subst (IsUsed after) (sym (ap (λ m. cut child (m ∷ way)) same ∙ cut_child way)) (used_after way is.1 in_use.1)
      | inr d ↦
          let first : child_of after (start (cut child way)) ≡ n = ap (child_of after) (start_cut way is.1) ∙ elim (or_child (start way)) [
            | inl same ↦ ap (child_of after) (ap (up_from child) same ∙ up_child) ∙ (ap (child_of parts) (sym same) ∙ in_use.0)
            | inr e ↦
                let some : start way ≢ 0 = λ z. d (lone n (is.0 ∙ ap Some z)) in
                ap (child_of after) (up_other (start way) e) ∙ (child_after (start way) some e ∙ in_use.0)
          ] in
          subst (IsUsed after) (sym (cut_other n way d)) (first, used_after way is.1 in_use.1)
    ]

    pub promoted_settled : IsSettled parts → IsSettled (promoted child parts)
    promoted_settled settled = λ way is.
        let w = sound.tree.ways parts.current sound.current in
        let now = way_of_after parts.current w.way newer w.is in
        let after_root : parent_at after.nodes 0 ≡ None = ap (option_map (λ (n : Node). n.parent)) after_tree.root in
        let one : cut child w.way ≡ way = one_way (λ k. parent_at after.nodes k) after_root (cut child w.way) way now.is_way is.is_way (now.starts ∙ sym is.starts) in
        subst (IsUsed after) one (used_after w.way w.is.is_way (settled w.way w.is))
