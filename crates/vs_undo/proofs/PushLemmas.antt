-- What one more change leaves of a tree.
use Rattle.std.proofs.Common.{◌≡◌, ◌≢◌, ℕ, ◌+◌, ◌<◌, ◌≤◌, ◌==◌, ◌||◌, if◌then◌else◌, Bool, true, false, List, [], ◌∷◌, ◌++◌, length, map, Option, Some, None, option_map, unwrap_or, is_some, IsSome, ◌⊎◌, inl, inr, sym, ap, subst, ◌∙◌, arith, refl}
use Rattle.std.proofs.lemmas.Bool.Decides.{nat_tests}
use Rattle.std.proofs.lemmas.List.{map-append}
use Rattle.std.specs.Option.{option_or}
use Rattle.std.proofs.lemmas.List.Folds.{find-append}
use Rattle.vs_entries.specs.declared.entry.Entry.{Entry}
use Rattle.vs_undo.specs.declared.parts.Node.{Node}
use Rattle.vs_undo.specs.declared.parts.Parts.{Parts}
use Rattle.vs_undo.specs.Ways.{node_at, parent_at, save_at, start, IsWay, is_on, IsWayOf, IsKept, IsTree}
use Rattle.vs_undo.specs.Edges.{IsLed, IsEdge, AreStates}
use Rattle.vs_undo.specs.declared.TheConstants.{MAX_NUMBER}
use Rattle.vs_undo.specs.Sound.{child_of, AreChildren, IsSound}
use Rattle.vs_undo.specs.Forgetting.{IsFresh}
use Rattle.vs_entries.specs.Entries.{Leads, LeadsCount}
use Rattle.vs_undo.specs.History.{without_entries, links_of, changed, with_child, new_node, pushed, put, History, IsHistory, history_pushed, FitsCount, FitsText}
use Rattle.vs_undo.proofs.ChangeLemmas.{at-changed_same, at_written, was_there, map-changed, map-changed_same}
use Rattle.vs_undo.proofs.StayLemmas.{bound, entries_same, save_seen, saves_same}
use Rattle.std.specs.List.Sorted.{IsStrictlyIncreasing}
use Rattle.vs_undo.specs.Numbers.{numbers}
use Rattle.vs_undo.proofs.NumberLemmas.{increasing_push}
use Rattle.vs_undo.proofs.MoveLemmas.{childless, kept_same, none_same}
use Rattle.vs_undo.proofs.SoundLemmas.{known_some, parent_kept, child_after, with_child_parent, last_child_in}

not_some : (o : Option Node) → (IsSome o → ⊥) → o ≡ None
not_some None h = refl
not_some (Some x) h = absurd (h refl)

is_there : (nodes : List Node) (k : ℕ) (node : Node) → node_at nodes k ≡ Some node → IsSome (node_at nodes k)
is_there nodes k node e = known_some (node_at nodes k) node.parent (ap (option_map (λ (n : Node). n.parent)) e)

links_of-with_child : (p n : ℕ) (parts : Parts) → links_of (with_child p n parts) ≡ with_child p n (links_of parts)
links_of-with_child p n parts =
    elim (p == 0) as (λ b. links_of (if b then record parts { root_child = n } else record parts { nodes = changed p (λ (node : Node). record node { last_child = n }) parts.nodes })
    ≡ (if b then record (links_of parts) { root_child = n } else record (links_of parts) { nodes = changed p (λ (node : Node). record node { last_child = n }) (map without_entries parts.nodes) })) [
      | true ↦ refl
      | false ↦ ap (λ (nodes : List Node). record parts { nodes = nodes }) (map-changed without_entries (λ node. record node { last_child = n }) (λ node. record node { last_child = n }) (λ _. refl) (λ _. refl) p parts.nodes)
    ]

-- the links after one more change
pub links_of-pushed : (entries : List Entry) (time : ℕ) (parts : Parts) → links_of (pushed entries time parts) ≡ pushed [] time (links_of parts)
links_of-pushed entries time parts =
    let number = parts.last + 1 in
    let grown = record parts { nodes = parts.nodes ++ new_node entries time parts ∷ [] } in
    let bare_grown : links_of grown ≡ record (links_of parts) { nodes = map without_entries parts.nodes ++ new_node [] time parts ∷ [] } =
    ap (λ (nodes : List Node). record parts { nodes = nodes }) (map-append without_entries parts.nodes (new_node entries time parts ∷ [])) in
    ap (λ (p : Parts). record p { current = number; last = number }) (links_of-with_child parts.current number grown ∙ ap (with_child parts.current number) bare_grown)

module _ (entries : List Entry) (time : ℕ) (parts : Parts) (sound : IsSound parts) where
  fresh : node_at parts.nodes (parts.last + 1) ≡ None
  fresh = not_some (node_at parts.nodes (parts.last + 1)) (λ some. let h = sound.numbers.below (parts.last + 1) (inr some) in omega arith)

  -- the change at a number, after one more was added
  at_grown : (k : ℕ) → ((node_at (parts.nodes ++ new_node entries time parts ∷ []) k ≡ node_at parts.nodes k) × ((parts.last + 1 == k) ≡ false)) ⊎ ((k ≡ parts.last + 1) × (node_at (parts.nodes ++ new_node entries time parts ∷ []) k ≡ Some (new_node entries time parts)))
  at_grown k =
      let whole = find-append (λ (n : Node). n.number == k) parts.nodes (new_node entries time parts ∷ []) in
      elim (parts.last + 1 == k) as (λ b. b ≡ (parts.last + 1 == k) → ((node_at (parts.nodes ++ new_node entries time parts ∷ []) k ≡ node_at parts.nodes k) × (b ≡ false)) ⊎ ((k ≡ parts.last + 1) × (node_at (parts.nodes ++ new_node entries time parts ∷ []) k ≡ Some (new_node entries time parts)))) [
        | true ↦ λ t.
            let same : k ≡ parts.last + 1 = grind (arith, nat_tests) in
            let none : node_at parts.nodes k ≡ None = ap (node_at parts.nodes) same ∙ fresh in
            inr (same, whole ∙ (ap (λ o. option_or o (if parts.last + 1 == k then Some (new_node entries time parts) else None)) none ∙ ap (λ b. if b then Some (new_node entries time parts) else None) (sym t)))
        | false ↦ λ t. inl (whole ∙ (ap (λ b. option_or (node_at parts.nodes k) (if b then Some (new_node entries time parts) else None)) (sym t) ∙ or_none (node_at parts.nodes k)), refl)
      ] refl
    where
      or_none : (o : Option Node) → option_or o None ≡ o
      or_none None = refl
      or_none (Some x) = refl

  abbrev grown : Parts
  grown = record parts { nodes = parts.nodes ++ new_node entries time parts ∷ [] }

  abbrev after : Parts
  after = pushed entries time parts

  N≢0 : parts.last + 1 ≢ 0
  N≢0 = λ e. absurd (omega arith)

  -- parents that were known stay
  parent_stays : (k p : ℕ) → parent_at parts.nodes k ≡ Some p → parent_at grown.nodes k ≡ Some p
  parent_stays k p is = elim (at_grown k) [
    | inl h ↦ ap (option_map (λ (n : Node). n.parent)) h.0 ∙ is
    | inr h ↦ absurd (let e : None ≡ Some p = sym (ap (option_map (λ (n : Node). n.parent)) (ap (node_at parts.nodes) h.0 ∙ fresh)) ∙ is in cc)
  ]

  parent_new : parent_at grown.nodes (parts.last + 1) ≡ Some parts.current
  parent_new = elim (at_grown (parts.last + 1)) [
    | inl h ↦ absurd (grind (arith, nat_tests))
    | inr h ↦ ap (option_map (λ (n : Node). n.parent)) h.1
  ]

  -- a known parent was known, or is that of the new change
  pub parent_was : (k p : ℕ) → parent_at grown.nodes k ≡ Some p → (parent_at parts.nodes k ≡ Some p) ⊎ ((k ≡ parts.last + 1) × (p ≡ parts.current))
  parent_was k p is = elim (at_grown k) [
    | inl h ↦ inl (sym (ap (option_map (λ (n : Node). n.parent)) h.0) ∙ is)
    | inr h ↦ inr (h.0, let e : Some parts.current ≡ Some p = sym (ap (option_map (λ (n : Node). n.parent)) h.1) ∙ is in cc)
  ]

  pub parent_after : (k : ℕ) → parent_at after.nodes k ≡ parent_at grown.nodes k
  parent_after k = with_child_parent parts.current (parts.last + 1) grown k

  way_stays : (way : List ℕ) → IsWay (λ k. parent_at parts.nodes k) way → IsWay (λ k. parent_at after.nodes k) way
  way_stays [] is = is
  way_stays (n ∷ way) is = (parent_after n ∙ parent_stays n (start way) is.0, way_stays way is.1)

  pub new_way : (way : List ℕ) → IsWayOf parts.nodes parts.current way → IsWayOf after.nodes (parts.last + 1) ((parts.last + 1) ∷ way)
  new_way way is = record {
    is_way = (parent_after (parts.last + 1) ∙ (parent_new ∙ ap Some (sym is.starts)), way_stays way is.is_way);
    starts = refl;
  }

  -- a state that is kept was kept, or is the new one
  kept_was : (k : ℕ) → IsKept after.nodes k → IsKept parts.nodes k ⊎ (k ≡ parts.last + 1)
  kept_was k kept = elim kept [
    | inl zero ↦ inl (inl zero)
    | inr some ↦
        let in_grown = kept_same (node_at after.nodes k) (node_at grown.nodes k) (parent_after k) some in
        elim (at_grown k) [
          | inl h ↦ inl (inr (subst IsSome h.0 in_grown))
          | inr h ↦ inr h.0
        ]
  ]

  pub after_tree : IsTree after.nodes
  after_tree = record {
    root = none_same (node_at after.nodes 0) (node_at grown.nodes 0) (parent_after 0) (elim (at_grown 0) [
      | inl h ↦ h.0 ∙ sound.tree.root
      | inr h ↦ absurd (omega arith)
    ]);
    ways = λ k kept. elim (kept_was k kept) [
      | inl was ↦ let w = sound.tree.ways k was in
          record { way = w.way; is = record { is_way = way_stays w.way w.is.is_way; starts = w.is.starts } }
      | inr new ↦ let w = sound.tree.ways parts.current sound.current in
          let is = new_way w.way w.is in
          record { way = (parts.last + 1) ∷ w.way; is = record { is_way = is.is_way; starts = sym new } }
    ];
  }

  -- the new change has no child
  pub child_grown : (k : ℕ) → child_of grown k ≡ child_of parts k
  child_grown k = ap (λ c. if k == 0 then parts.root_child else c) (elim (at_grown k) [
    | inl h ↦ ap last_child_in h.0
    | inr h ↦ ap last_child_in h.1 ∙ sym (ap last_child_in (ap (node_at parts.nodes) h.0 ∙ fresh))
  ])

  -- the new change is the child last used of its parent
  pub child_new : child_of after parts.current ≡ parts.last + 1
  child_new =
      elim (parts.current == 0) as (λ b. b ≡ (parts.current == 0) → child_of (if b then record grown { root_child = parts.last + 1 } else record grown { nodes = changed parts.current (λ (node : Node). record node { last_child = parts.last + 1 }) grown.nodes }) parts.current ≡ parts.last + 1) [
        | true ↦ λ t. ap (λ b. if b then parts.last + 1 else last_child_in (node_at grown.nodes parts.current)) (sym t)
        | false ↦ λ t. ap (λ b. if b then parts.root_child else last_child_in (node_at (changed parts.current (λ (node : Node). record node { last_child = parts.last + 1 }) grown.nodes) parts.current)) (sym t) ∙
            (ap last_child_in (at_written parts.current (λ node. record node { last_child = parts.last + 1 }) (λ _. refl) grown.nodes) ∙
            set_in (node_at grown.nodes parts.current) (elim sound.current [ inl zero ↦ absurd (grind (arith, nat_tests)) | inr some ↦ elim (at_grown parts.current) [ inl h ↦ subst IsSome (sym h.0) some | inr h ↦ subst IsSome (sym h.1) refl ] ]))
      ] refl
    where
      set_in : (o : Option Node) → IsSome o → last_child_in (option_map (λ (node : Node). record node { last_child = parts.last + 1 }) o) ≡ parts.last + 1
      set_in None some = absurd (cc)
      set_in (Some x) some = refl

  after_children : AreChildren after
  after_children = record {
    each = λ k some. elim (child_after parts.current (parts.last + 1) grown k) [
      | inl h ↦
          let same : child_of after k ≡ child_of parts k = h ∙ child_grown k in
          ap (parent_at after.nodes) same ∙ (parent_after (child_of parts k) ∙ parent_stays (child_of parts k) k (sound.children.each k (λ e. some (same ∙ e))))
      | inr h ↦ ap (parent_at after.nodes) h.1 ∙ (parent_after (parts.last + 1) ∙ (parent_new ∙ ap Some (sym h.0)))
    ];
    some = λ k child known. elim (parent_was child k (sym (parent_after child) ∙ known)) [
      | inl was ↦ elim (child_after parts.current (parts.last + 1) grown k) [
        | inl h ↦ λ e. sound.children.some k child was (sym (child_grown k) ∙ (sym h ∙ e))
        | inr h ↦ λ e. N≢0 (sym h.1 ∙ e)
      ]
      | inr new ↦ λ e. N≢0 (sym child_new ∙ (ap (child_of after) (sym new.1) ∙ e))
    ];
  }

  numbers_after : map (λ (n : Node). n.number) after.nodes ≡ map (λ (n : Node). n.number) parts.nodes ++ (parts.last + 1) ∷ []
  numbers_after =
      (elim (parts.current == 0) as (λ b. map (λ (m : Node). m.number) (if b then record grown { root_child = parts.last + 1 } else record grown { nodes = changed parts.current (λ (node : Node). record node { last_child = parts.last + 1 }) grown.nodes }).nodes ≡ map (λ (m : Node). m.number) grown.nodes) [
        | true ↦ refl
        | false ↦ map-changed_same (λ node. node.number) (λ node. record node { last_child = parts.last + 1 }) (λ _. refl) parts.current grown.nodes
      ]) ∙ map-append (λ (n : Node). n.number) parts.nodes (new_node entries time parts ∷ [])

  childless_same : (k : ℕ) → option_map childless (node_at after.nodes k) ≡ option_map childless (node_at grown.nodes k)
  childless_same k =
      elim (parts.current == 0) as (λ b. option_map childless (node_at (if b then record grown { root_child = parts.last + 1 } else record grown { nodes = changed parts.current (λ (node : Node). record node { last_child = parts.last + 1 }) grown.nodes }).nodes k) ≡ option_map childless (node_at grown.nodes k)) [
        | true ↦ refl
        | false ↦ at-changed_same childless (λ node. record node { last_child = parts.last + 1 }) (λ _. refl) (λ _. refl) parts.current grown.nodes k
      ]

  pub last_save_after : after.last_save ≡ parts.last_save
  last_save_after = elim (parts.current == 0) as (λ b. (if b then record grown { root_child = parts.last + 1 } else record grown { nodes = changed parts.current (λ (node : Node). record node { last_child = parts.last + 1 }) grown.nodes }).last_save ≡ parts.last_save) [ true ↦ refl | false ↦ refl ]

  -- the new change has no save number
  save_after : (k : ℕ) → save_at after.nodes k ≡ save_at parts.nodes k
  save_after k = save_seen childless (λ _. refl) after.nodes grown.nodes k (childless_same k) ∙ elim (at_grown k) [
    | inl h ↦ ap save_in h.0
    | inr h ↦ ap save_in h.1 ∙ sym (ap save_in (ap (node_at parts.nodes) h.0 ∙ fresh))
  ]
    where
      save_in : Option Node → ℕ
      save_in o = unwrap_or (option_map (λ (n : Node). n.save) o) 0

  -- one more number was given
  pub pushed_last : (pushed entries time parts).last ≡ parts.last + 1
  pushed_last = refl

  module _ (room : parts.last < MAX_NUMBER) (some : 0 < length entries) where
    entries_after : (k : ℕ) (node : Node) → node_at grown.nodes k ≡ Some node → 0 < length node.entries
    entries_after k node is = elim (at_grown k) [
      | inl h ↦ sound.entries k node (sym h.0 ∙ is)
      | inr h ↦ let same : new_node entries time parts ≡ node = cc in omega (arith, ap (λ (n : Node). length n.entries) same, some)
    ]

    pub pushed_sound : IsSound (pushed entries time parts)
    pushed_sound = record {
      tree = after_tree;
      current = inr (known_some (node_at after.nodes (parts.last + 1)) parts.current (parent_after (parts.last + 1) ∙ parent_new));
      children = record { each = after_children.each; some = after_children.some };
      numbers = record {
        rising = subst (λ ns. IsStrictlyIncreasing (0 ∷ ns)) (sym numbers_after) (increasing_push (numbers parts.nodes) (parts.last + 1) parts.last sound.numbers.rising (bound parts sound.numbers) (omega arith));
        below = λ k kept. elim (kept_was k kept) [
          | inl was ↦ let h = sound.numbers.below k was in omega arith
          | inr new ↦ omega arith
        ];
        read = λ k kept. elim (kept_was k kept) [
          | inl was ↦ sound.numbers.read k was
          | inr new ↦ omega (arith, room)
        ];
        last = omega (arith, room);
      };
      saves = saves_same after parts save_after last_save_after sound.saves;
      entries = entries_same childless (λ _. refl) after.nodes grown.nodes childless_same entries_after;
    }

    -- the new change is current and has no child
    pub pushed_fresh : IsFresh (pushed entries time parts)
    pushed_fresh = record {
      sound = pushed_sound;
      some = λ e. N≢0 (sym current_after ∙ e);
      leaf = ap (child_of after) current_after ∙ elim (child_after parts.current (parts.last + 1) grown (parts.last + 1)) [
        | inl h ↦ h ∙ (child_grown (parts.last + 1) ∙ (ap (λ o. if parts.last + 1 == 0 then parts.root_child else last_child_in o) fresh ∙ ap (λ b. if b then parts.root_child else 0) not_zero))
        | inr h ↦ absurd (let most = sound.numbers.below parts.current sound.current in omega (arith, h.0, most))
      ];
    }
      where
        current_after : after.current ≡ parts.last + 1
        current_after = refl

        not_zero : (parts.last + 1 == 0) ≡ false
        not_zero = grind (arith, nat_tests)

  module _ {X : Type 0} (L : Entry → X → X → Type 0) (states : ℕ → X) (are_states : AreStates L parts states) (x : X) (led : IsLed L entries x (states parts.current)) where
    put_same : put (parts.last + 1) x states (parts.last + 1) ≡ x
    put_same = let e : (parts.last + 1 == parts.last + 1) ≡ true = grind (arith, nat_tests) in ap (λ b. if b then x else states (parts.last + 1)) e

    put_other : (k : ℕ) → k ≤ parts.last → put (parts.last + 1) x states k ≡ states k
    put_other k below = let e : (k == parts.last + 1) ≡ false = grind (arith, nat_tests) in ap (λ b. if b then x else states k) e

    edge_grown : (k : ℕ) (node : Node) → node_at grown.nodes k ≡ Some node
        → IsEdge L (is_on ((parts.last + 1) ∷ are_states.way) k) node.entries (put (parts.last + 1) x states k) (put (parts.last + 1) x states node.parent)
    edge_grown k node is = elim (at_grown k) [
      | inl h ↦
          let was : node_at parts.nodes k ≡ Some node = sym h.0 ∙ is in
          let below = sound.numbers.below k (inr (is_there parts.nodes k node was)) in
          let parent_below = sound.numbers.below node.parent (parent_kept parts.nodes k node.parent sound.tree (ap (option_map (λ (n : Node). n.parent)) was)) in
          let on : is_on ((parts.last + 1) ∷ are_states.way) k ≡ is_on are_states.way k = ap (λ b. b || is_on are_states.way k) h.1 in
          subst (λ b. IsEdge L b node.entries (put (parts.last + 1) x states k) (put (parts.last + 1) x states node.parent)) (sym on)
          (subst (λ s. IsEdge L (is_on are_states.way k) node.entries s (put (parts.last + 1) x states node.parent)) (sym (put_other k below))
          (subst (λ s. IsEdge L (is_on are_states.way k) node.entries (states k) s) (sym (put_other node.parent parent_below)) (are_states.edges k node was)))
      | inr h ↦
          let same : new_node entries time parts ≡ node = cc in
          let k_is : k ≡ parts.last + 1 = h.0 in
          let e : (parts.last + 1 == k) ≡ true = grind (arith, nat_tests) in
          let on : is_on ((parts.last + 1) ∷ are_states.way) k ≡ true = ap (λ b. b || is_on are_states.way k) e in
          let here : put (parts.last + 1) x states k ≡ x = ap (put (parts.last + 1) x states) h.0 ∙ put_same in
          let there = put_other parts.current (sound.numbers.below parts.current sound.current) in
          subst (λ b. IsEdge L b node.entries (put (parts.last + 1) x states k) (put (parts.last + 1) x states node.parent)) (sym on)
          (subst (λ s. IsLed L node.entries s (put (parts.last + 1) x states node.parent)) (sym here)
          (subst (λ (n : Node). IsLed L n.entries x (put (parts.last + 1) x states n.parent)) same
          (subst (λ s. IsLed L entries x s) (sym there) led)))
    ]

    pub pushed_tells : AreStates L (pushed entries time parts) (put (parts.last + 1) x states)
    pushed_tells = record {
      way = (parts.last + 1) ∷ are_states.way;
      is_way = new_way are_states.way are_states.is_way;
      edges = λ k now is.
          let mid = was_there childless (node_at grown.nodes k) (childless now) (sym (childless_same k) ∙ ap (option_map childless) is) in
          let entries_are : mid.0.entries ≡ now.entries = ap (λ (n : Node). n.entries) mid.1.1 in
          let parent_is : mid.0.parent ≡ now.parent = ap (λ (n : Node). n.parent) mid.1.1 in
          subst (λ p. IsEdge L (is_on ((parts.last + 1) ∷ are_states.way) k) now.entries (put (parts.last + 1) x states k) (put (parts.last + 1) x states p)) parent_is
          (subst (λ es. IsEdge L (is_on ((parts.last + 1) ∷ are_states.way) k) es (put (parts.last + 1) x states k) (put (parts.last + 1) x states mid.0.parent)) entries_are (edge_grown k mid.0 mid.1.0));
    }

put_here : {X : Type 0} (k : ℕ) (x : X) (states : ℕ → X) → put k x states k ≡ x
put_here k x states = let e : (k == k) ≡ true = grind (arith, nat_tests) in ap (λ b. if b then x else states k) e

-- the history with one more change
pub pushed_history : (back : Entry) (time : ℕ) (parts : Parts) → IsSound parts → (before after : List (List ℕ)) (history : History) → IsHistory parts before history → Leads back after before
    → IsHistory (pushed (back ∷ []) time parts) after (history_pushed after time history)
pushed_history back time parts sound before after history is leads =
    let last : parts.last ≡ history.links.last = ap (λ (p : Parts). p.last) is.links in
    let are_states = pushed_tells (back ∷ []) time parts sound Leads history.texts is.are_states after (before, (leads, sym is.current)) in
    record {
      links = links_of-pushed (back ∷ []) time parts ∙ ap (pushed [] time) is.links;
      are_states = subst (λ n. AreStates Leads (pushed (back ∷ []) time parts) (put (n + 1) after history.texts)) last are_states;
      current = ap (λ n. put (n + 1) after history.texts (parts.last + 1)) (sym last) ∙ put_here (parts.last + 1) after history.texts;
    }

pub pushed_count : (back : Entry) (time : ℕ) (parts : Parts) → IsSound parts → (before after : ℕ) → FitsCount parts before → LeadsCount back after before → FitsCount (pushed (back ∷ []) time parts) after
pushed_count back time parts sound before after sees leads = record {
  counts = put (parts.last + 1) after sees.counts;
  are_states = pushed_tells (back ∷ []) time parts sound LeadsCount sees.counts sees.are_states after (before, (leads, sees.current));
  current = sym (put_here (parts.last + 1) after sees.counts);
}

pub pushed_text : (back : Entry) (time : ℕ) (parts : Parts) → IsSound parts → (before after : List (List ℕ)) → FitsText parts before → Leads back after before → FitsText (pushed (back ∷ []) time parts) after
pushed_text back time parts sound before after sees leads = record {
  texts = put (parts.last + 1) after sees.texts;
  are_states = pushed_tells (back ∷ []) time parts sound Leads sees.texts sees.are_states after (before, (leads, sees.current));
  current = sym (put_here (parts.last + 1) after sees.texts);
}

-- the tree of one state
pub first_tells : {X : Type 0} (L : Entry → X → X → Type 0) (x : X) (nodes : List Node) → nodes ≡ [] → AreStates L (record { nodes = nodes; root_child = 0; current = 0; last = 0; last_save = 0 }) (λ _. x)
first_tells L x nodes none = record {
  way = [];
  is_way = record { is_way = tt; starts = refl };
  edges = λ k node is. absurd (let e : None ≡ Some node = ap (λ (ns : List Node). node_at ns k) (sym none) ∙ is in cc);
}

no_child : (b : Bool) → (if b then 0 else unwrap_or (option_map (λ (n : Node). n.last_child) None) 0) ≡ 0
no_child true = refl
no_child false = refl

pub first_sound : (nodes : List Node) → nodes ≡ [] → IsSound (record { nodes = nodes; root_child = 0; current = 0; last = 0; last_save = 0 })
first_sound nodes none =
    let no_node : (k : ℕ) → node_at nodes k ≡ None = λ k. ap (λ (ns : List Node). node_at ns k) none in
    let no_parent : (k : ℕ) → parent_at nodes k ≡ None = λ k. ap (option_map (λ (n : Node). n.parent)) (no_node k) in
    let no_save : (k : ℕ) → save_at nodes k ≡ 0 = λ k. ap (λ o. unwrap_or (option_map (λ (n : Node). n.save) o) 0) (no_node k) in
    let root_only : (k : ℕ) → IsKept nodes k → k ≡ 0 = λ k kept. elim kept [ inl at_root ↦ at_root | inr some ↦ absurd (let e : false ≡ true = sym (ap is_some (no_node k)) ∙ some in cc) ] in
    let child : (k : ℕ) → child_of (record { nodes = nodes; root_child = 0; current = 0; last = 0; last_save = 0 }) k ≡ 0 =
    λ k. ap (λ o. if k == 0 then 0 else unwrap_or (option_map (λ (n : Node). n.last_child) o) 0) (no_node k) ∙ no_child (k == 0) in
    record {
      tree = record { root = no_node 0; ways = λ k kept. record { way = []; is = record { is_way = tt; starts = sym (root_only k kept) } } };
      current = inl refl;
      children = record { each = λ k some. absurd (some (child k)); some = λ k c is. absurd (let e : None ≡ Some k = sym (no_parent c) ∙ is in cc) };
      numbers = record {
        rising = subst (λ (ns : List Node). IsStrictlyIncreasing (numbers ns)) (sym none) (λ k within. absurd (omega arith));
        below = λ k kept. omega (arith, root_only k kept);
        read = λ k kept. omega (arith, root_only k kept);
        last = omega arith;
      };
      saves = record { differ = λ a b some. absurd (some (no_save a)); below = λ k. omega (arith, no_save k); last = omega arith };
      entries = λ k node is. absurd (let e : None ≡ Some node = sym (no_node k) ∙ is in cc);
    }
