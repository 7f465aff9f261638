-- Where each state is reached, the entries lead between them as a tree asks; and the least change that does not fit.
use Rattle.std.proofs.Common.{◌≡◌, ℕ, zero, suc, ◌<◌, ◌≤◌, ◌==◌, get_or, if◌then◌else◌, true, false, List, [], ◌∷◌, ◌++◌, length, max, Option, Some, None, IfSome, IfNone, option_map, unwrap_or, is_some, IsSome, ◌⊎◌, inl, inr, sym, ap, subst, ◌∙◌, refl, arith}
use Rattle.std.proofs.lemmas.Bool.Decides.{nat_tests}
use Rattle.vs_edit.specs.declared.store.LineStore.{Ghosts}
use Rattle.vs_entries.specs.declared.entry.Entry.{Entry}
use Rattle.vs_entries.specs.Entries.{Leads, LeadsCount}
use Rattle.vs_undo.specs.declared.parts.Node.{Node}
use Rattle.vs_undo.specs.declared.parts.Parts.{Parts}
use Rattle.vs_undo.specs.Edges.{IsLed, IsEdge, AreStates}
use Rattle.vs_undo.specs.History.{FitsCount, FitsText}
use Rattle.vs_undo.specs.Ways.{node_at, parent_at, start, is_on, IsWay, IsKept, IsTree, IsWayOf}
use Rattle.vs_outward.specs.Outward.{entries_at, IsOut, LeadsOver, IsOutward, IsMisfit, IsFirstMisfit}
use Rattle.vs_outward.specs.Trails.{IsBarredBy, IsTried, IsSettledAt, IsKnownMisfit}
use Rattle.vs_outward.proofs.LedLemmas.{over_before, over_once, one_count, one_text}
use Rattle.vs_outward.proofs.TriedLemmas.{outward_on, on_outward, outward_once}

kept_or : (nodes : List Node) (s : ℕ) → IsKept nodes s ⊎ (IsKept nodes s → ⊥)
kept_or nodes zero = inl (inl refl)
kept_or nodes (suc k) =
    elim (is_some (node_at nodes (suc k))) as (λ b. is_some (node_at nodes (suc k)) ≡ b → IsKept nodes (suc k) ⊎ (IsKept nodes (suc k) → ⊥)) [
      | true ↦ λ is. inl (inr is)
      | false ↦ λ is. inr (λ kept. elim kept [ inl z ↦ absurd (omega arith) | inr some ↦ (let e : true ≡ false = sym some ∙ is in cc) ])
    ] refl

some_node : (o : Option Node) (p : ℕ) → option_map (λ (n : Node). n.parent) o ≡ Some p → IsSome o
some_node None p e = absurd (cc)
some_node (Some x) p e = refl

abbrev no_node : Node
no_node = record { number = 0; parent = 0; last_child = 0; time = 0; save = 0; entries = [] }

-- a number that is there has a place
placed : (nodes : List Node) (s : ℕ) → IsSome (node_at nodes s) → (k : ℕ) × ((k < length nodes) × ((get_or nodes k no_node).number ≡ s))
placed [] s some = absurd (cc)
placed (n ∷ nodes) s some =
    elim (n.number == s) as (λ b. b ≡ (n.number == s) → IsSome (if b then Some n else node_at nodes s) → (k : ℕ) × ((k < length (n ∷ nodes)) × ((get_or (n ∷ nodes) k no_node).number ≡ s))) [
      | true ↦ λ t h. let same : n.number ≡ s = grind (arith, nat_tests) in (0, (omega arith, same))
      | false ↦ λ t h. let r = placed nodes s h in (suc r.0, (omega (arith, r.1.0), r.1.1))
    ] refl some

-- all states are settled where the root is, and that of each change
pub settled_all : {S : Type 0} (g : Ghosts S) (parts : Parts) (first : S) (least : Option ℕ) → IsSettledAt g parts first least 0
    → ((k : ℕ) (node : Node) → k < length parts.nodes → IsSettledAt g parts first least (get_or parts.nodes k node).number) → (s : ℕ) → IsKept parts.nodes s → IsSettledAt g parts first least s
settled_all g parts first least root each s kept = elim kept [
  | inl zero_is ↦ subst (IsSettledAt g parts first least) (sym zero_is) root
  | inr some ↦ let at = placed parts.nodes s some in subst (IsSettledAt g parts first least) at.1.1 (each at.0 no_node at.1.0)
]

module _ (parts : Parts) (tree : IsTree parts.nodes) where
  kept_child : (n p : ℕ) → parent_at parts.nodes n ≡ Some p → IsKept parts.nodes n
  kept_child n p is = inr (some_node (node_at parts.nodes n) p is)

  pub kept_parent : (n p : ℕ) → parent_at parts.nodes n ≡ Some p → IsKept parts.nodes p
  kept_parent n p is = let has = tree.ways n (kept_child n p is) in at has.way has.is.is_way has.is.starts
    where
      first : (way : List ℕ) → IsWay (λ k. parent_at parts.nodes k) way → start way ≡ p → IsKept parts.nodes p
      first [] w s = inl (sym s)
      first (q ∷ way) w s = subst (IsKept parts.nodes) s (kept_child q (start way) w.0)

      at : (way : List ℕ) → IsWay (λ k. parent_at parts.nodes k) way → start way ≡ n → IsKept parts.nodes p
      at [] w s = absurd (let e : None ≡ Some p = sym (ap (option_map (λ (m : Node). m.parent)) tree.root) ∙ (ap (parent_at parts.nodes) s ∙ is) in cc)
      at (m ∷ way) w s =
          let e : Some (start way) ≡ Some p = sym w.0 ∙ (ap (parent_at parts.nodes) s ∙ is) in
          let same : start way ≡ p = cc in
          first way w.1 same

  -- a path that crosses one change more, towards the root or away from it
  more_back : (way path : List ℕ) (n p : ℕ) → IsWayOf parts.nodes parts.current way → is_on way n ≡ true → parent_at parts.nodes n ≡ Some p → IsOutward parts path n → IsOutward parts (n ∷ path) p
  more_back way path n p is on up outward =
      on_outward parts tree way (n ∷ path) p is (
        p,
        (
          up,
          ap (λ b. if b then p else n) (sym on),
          subst (IsOut (λ k. parent_at parts.nodes k) (is_on way) (start way) path) (ap (λ b. if b then n else p) (sym on)) (outward_on parts tree way path n is outward),
        ),
      )

  pub more_forth : (way path : List ℕ) (n p : ℕ) → IsWayOf parts.nodes parts.current way → is_on way n ≡ false → parent_at parts.nodes n ≡ Some p → IsOutward parts path p → IsOutward parts (n ∷ path) n
  more_forth way path n p is off up outward =
      on_outward parts tree way (n ∷ path) n is (
        p,
        (
          up,
          ap (λ b. if b then p else n) (sym off),
          subst (IsOut (λ k. parent_at parts.nodes k) (is_on way) (start way) path) (ap (λ b. if b then n else p) (sym off)) (outward_on parts tree way path p is outward),
        ),
      )

  module _ {X : Type 0} (L : Entry → X → X → Type 0) (one : (entry : Entry) (x y z : X) → L entry x y → L entry x z → y ≡ z) (x0 : X)
      (reach : (s : ℕ) → IsKept parts.nodes s → (path : List ℕ) × (IsOutward parts path s × ((x : X) × LeadsOver L parts.nodes path x0 x))) where
    abbrev state_in : (s : ℕ) → (IsKept parts.nodes s ⊎ (IsKept parts.nodes s → ⊥)) → X
    state_in s (inl kept) = (reach s kept).1.1.0
    state_in s (inr not) = x0

    abbrev states : ℕ → X
    states s = state_in s (kept_or parts.nodes s)

    state_in_is : (s : ℕ) (d : IsKept parts.nodes s ⊎ (IsKept parts.nodes s → ⊥)) → IsKept parts.nodes s → (path : List ℕ) (x : X) → IsOutward parts path s → LeadsOver L parts.nodes path x0 x → state_in s d ≡ x
    state_in_is s (inl kept) k path x outward led =
        let r = reach s kept in
        let same : r.0 ≡ path = outward_once parts tree r.0 path s r.1.0 outward in
        over_once L one parts.nodes path x0 r.1.1.0 x (subst (λ xs. LeadsOver L parts.nodes xs x0 r.1.1.0) same r.1.1.1) led
    state_in_is s (inr not) k path x outward led = absurd (not k)

    state_is : (s : ℕ) → IsKept parts.nodes s → (path : List ℕ) (x : X) → IsOutward parts path s → LeadsOver L parts.nodes path x0 x → states s ≡ x
    state_is s k path x outward led = state_in_is s (kept_or parts.nodes s) k path x outward led

    -- the entries of a change lead on from the state before it
    led_on : (n a b : ℕ) (path : List ℕ) → IsKept parts.nodes a → IsKept parts.nodes b → IsOutward parts path a → IsOutward parts (n ∷ path) b → IsLed L (entries_at parts.nodes n) (states a) (states b)
    led_on n a b path kept_a kept_b to_a to_b =
        let r = reach b kept_b in
        let same : r.0 ≡ n ∷ path = outward_once parts tree r.0 (n ∷ path) b r.1.0 to_b in
        let led = subst (λ xs. LeadsOver L parts.nodes xs x0 r.1.1.0) same r.1.1.1 in
        let at_a = state_is a kept_a path led.0 to_a led.1.0 in
        let at_b = state_is b kept_b r.0 r.1.1.0 r.1.0 r.1.1.1 in
        subst (λ x. IsLed L (entries_at parts.nodes n) x (states b)) (sym at_a) (subst (λ y. IsLed L (entries_at parts.nodes n) led.0 y) (sym at_b) led.1.1)

    edge : (way : List ℕ) (n : ℕ) (node : Node) → IsWayOf parts.nodes parts.current way → node_at parts.nodes n ≡ Some node → IsEdge L (is_on way n) node.entries (states n) (states node.parent)
    edge way n node is here =
        let p = node.parent in
        let up : parent_at parts.nodes n ≡ Some p = ap (option_map (λ (m : Node). m.parent)) here in
        let entries : entries_at parts.nodes n ≡ node.entries = ap (λ o. unwrap_or (option_map (λ (m : Node). m.entries) o) []) here in
        let kept_n = kept_child n p up in
        let kept_p = kept_parent n p up in
        elim (is_on way n) as (λ b. is_on way n ≡ b → IsEdge L b node.entries (states n) (states p)) [
          | true ↦ λ on. let r = reach n kept_n in
              subst (λ es. IsLed L es (states n) (states p)) entries (led_on n n p r.0 kept_n kept_p r.1.0 (more_back way r.0 n p is on up r.1.0))
          | false ↦ λ off. let r = reach p kept_p in
              subst (λ es. IsLed L es (states p) (states n)) entries (led_on n p n r.0 kept_p kept_n r.1.0 (more_forth way r.0 n p is off up r.1.0))
        ] refl

    are_states : (way : List ℕ) → IsWayOf parts.nodes parts.current way → AreStates L parts states
    are_states way is = record { way = way; is_way = is; edges = λ n node here. edge way n node is here }

    at_current : (way : List ℕ) → IsWayOf parts.nodes parts.current way → IsKept parts.nodes parts.current → x0 ≡ states parts.current
    at_current way is kept = sym (state_is parts.current kept [] x0 (record { way = way; is_way = is; out = refl }) refl)

  module _ {S : Type 0} (g : Ghosts S) (first : S) (current : IsKept parts.nodes parts.current) where
    pub all_counts : (least : Option ℕ) → ((s : ℕ) → IsKept parts.nodes s → IsSettledAt g parts first least s) → IfNone least (FitsCount parts (max 1 (g.shows first).present.lines))
    all_counts (Some l) all = tt
    all_counts None all =
        let has = tree.ways parts.current current in
        let x0 = max 1 (g.shows first).present.lines in
        let reach : (s : ℕ) → IsKept parts.nodes s → (path : List ℕ) × (IsOutward parts path s × ((x : ℕ) × LeadsOver LeadsCount parts.nodes path x0 x)) =
        λ s kept. let a = all s kept in (a.0, (a.1.0, a.1.1.counts refl)) in
        record {
          counts = states LeadsCount one_count x0 reach;
          are_states = are_states LeadsCount one_count x0 reach has.way has.is;
          current = at_current LeadsCount one_count x0 reach has.way has.is current;
        }

    reached : (path : List ℕ) (text : List (List ℕ)) → (g.shows first).present.Is text → IsTried g parts.nodes first None path → (to : List (List ℕ)) × LeadsOver Leads parts.nodes path text to
    reached path text has tried = elim (tried.texts text has) [
      | inl t ↦ t
      | inr b ↦ absurd (let e : None ≡ Some b.0 = b.1.0 in cc)
    ]

    pub all_texts : (least : Option ℕ) → ((s : ℕ) → IsKept parts.nodes s → IsSettledAt g parts first least s) → IfNone least ((text : List (List ℕ)) → (g.shows first).present.Is text → FitsText parts text)
    all_texts (Some l) all = tt
    all_texts None all = λ text is.
        let has = tree.ways parts.current current in
        let reach : (s : ℕ) → IsKept parts.nodes s → (path : List ℕ) × (IsOutward parts path s × ((x : List (List ℕ)) × LeadsOver Leads parts.nodes path text x)) =
        λ s kept. let a = all s kept in (a.0, (a.1.0, reached a.0 text is a.1.1)) in
        record {
          texts = states Leads one_text text reach;
          are_states = are_states Leads one_text text reach has.way has.is;
          current = at_current Leads one_text text reach has.way has.is current;
        }

    kept_far : (way : List ℕ) (n p to : ℕ) → parent_at parts.nodes n ≡ Some p → to ≡ (if is_on way n then p else n) → IsKept parts.nodes to
    kept_far way n p to up is =
        elim (is_on way n) as (λ b. to ≡ (if b then p else n) → IsKept parts.nodes to) [
          | true ↦ λ e. subst (IsKept parts.nodes) (sym e) (kept_parent n p up)
          | false ↦ λ e. subst (IsKept parts.nodes) (sym e) (kept_child n p up)
        ] is

    -- a change that bars a path on which another one does not fit is that one
    barred_same : (text : List (List ℕ)) (other number : ℕ) (m : IsMisfit parts text other) (bar : IsBarredBy parts.nodes (other ∷ m.path) text number) → other ≡ number
    barred_same text other number m bar = at bar.after bar.path_is
      where
        at : (after : List ℕ) → other ∷ m.path ≡ after ++ number ∷ bar.before → other ≡ number
        at [] is = cc
        at (n ∷ after) is =
            let same : m.path ≡ after ++ number ∷ bar.before = cc in
            let led = over_before Leads parts.nodes after (number ∷ bar.before) text m.here (subst (λ xs. LeadsOver Leads parts.nodes xs text m.here) same m.led) in
            let here : led.1.0 ≡ bar.here = over_once Leads one_text parts.nodes bar.before text led.1.0 bar.here led.1.1.0 bar.led in
            absurd (bar.none led.0 (subst (λ x. IsLed Leads (entries_at parts.nodes number) x led.0) here led.1.1.1))

    no_less : (l : ℕ) → ((s : ℕ) → IsKept parts.nodes s → IsSettledAt g parts first (Some l) s) → (text : List (List ℕ)) → (g.shows first).present.Is text → (other : ℕ) → IsMisfit parts text other → l ≤ other
    no_less l all text is other m =
        let out = m.outward.out in
        let a = all m.to (kept_far m.outward.way other out.0 m.to out.1.0 out.1.1) in
        let same : a.0 ≡ other ∷ m.path = outward_once parts tree a.0 (other ∷ m.path) m.to a.1.0 m.outward in
        elim (a.1.1.texts text is) [
          | inl t ↦
              let led = subst (λ xs. LeadsOver Leads parts.nodes xs text t.0) same t.1 in
              let here : led.0 ≡ m.here = over_once Leads one_text parts.nodes m.path text led.0 m.here led.1.0 m.led in
              absurd (m.none t.0 (subst (λ x. IsLed Leads (entries_at parts.nodes other) x t.0) here led.1.1))
          | inr b ↦
              let e : Some l ≡ Some b.0 = b.1.0 in
              let least : l ≡ b.0 = cc in
              let is_other : other ≡ b.1.1.0 = barred_same text other b.1.1.0 m (subst (λ xs. IsBarredBy parts.nodes xs text b.1.1.0) same b.1.1.1.0) in
              omega (arith, least, is_other, b.1.1.1.1)
        ]

    pub all_misfit : (least : Option ℕ) → ((s : ℕ) → IsKept parts.nodes s → IsSettledAt g parts first least s) → IsKnownMisfit g parts first least
        → IfSome least (λ number. (text : List (List ℕ)) → (g.shows first).present.Is text → IsFirstMisfit parts text number)
    all_misfit None all known = tt
    all_misfit (Some l) all known = λ text is. record { is = known l refl text is; first = λ other m. no_less l all text is other m }
