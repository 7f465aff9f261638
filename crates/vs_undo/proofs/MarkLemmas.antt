-- What a write leaves of a tree: all but save numbers.
use Rattle.std.proofs.Common.{◌≡◌, ◌≢◌, ℕ, suc, ◌<◌, ◌≤◌, ◌==◌, if◌then◌else◌, true, false, List, [], ◌∷◌, length, get_or, map, Option, Some, None, option_map, unwrap_or, IsSome, ◌⊎◌, inl, inr, sym, ap, subst, ◌∙◌, arith, refl}
use Rattle.std.proofs.lemmas.Bool.Decides.{nat_tests}
use Rattle.vs_entries.specs.declared.entry.Entry.{Entry}
use Rattle.vs_entries.specs.Entries.{Leads, LeadsCount}
use Rattle.vs_undo.specs.declared.parts.Node.{Node}
use Rattle.vs_undo.specs.declared.parts.Parts.{Parts}
use Rattle.vs_undo.specs.Ways.{node_at, parent_at, save_at, IsKept, is_on}
use Rattle.vs_undo.specs.Edges.{IsEdge, AreStates}
use Rattle.vs_undo.specs.declared.TheConstants.{MAX_SAVE}
use Rattle.vs_undo.specs.Sound.{child_of, AreSaves, IsSound}
use Rattle.vs_undo.specs.History.{without_entries, links_of, changed, unmarked, with_save, next_save, marked, History, IsHistory, history_marked, FitsCount, FitsText}
use Rattle.vs_undo.proofs.ChangeLemmas.{at-changed_same, at_other, at_written, seen, was_there, map-changed, map-changed_same}
use Rattle.vs_undo.proofs.SearchLemmas.{index_found}
use Rattle.vs_undo.proofs.StayLemmas.{entries_same, kept_before, numbers_same}
use Rattle.vs_undo.proofs.MoveLemmas.{way_same, kept_same, tree_same}

-- a change without its save number
abbrev pub saveless : Node → Node
saveless node = record node { save = 0 }

-- Two trees differ in save numbers alone.
pub record DifferInSaves (old new : Parts) : Type 0 where
  pub at : (k : ℕ) → option_map saveless (node_at new.nodes k) ≡ option_map saveless (node_at old.nodes k)
  pub numbers : map (λ (n : Node). n.number) new.nodes ≡ map (λ (n : Node). n.number) old.nodes
  pub root_child : new.root_child ≡ old.root_child
  pub current : new.current ≡ old.current
  pub last : new.last ≡ old.last

module _ (old new : Parts) (d : DifferInSaves old new) where
  pub parents : (k : ℕ) → parent_at new.nodes k ≡ parent_at old.nodes k
  parents k = seen saveless (λ n. n.parent) (λ _. refl) (node_at new.nodes k) (node_at old.nodes k) (d.at k)

  pub children : (k : ℕ) → child_of new k ≡ child_of old k
  children k =
      ap (λ c. if k == 0 then c else unwrap_or (option_map (λ (n : Node). n.last_child) (node_at new.nodes k)) 0) d.root_child ∙
      ap (λ o. if k == 0 then old.root_child else unwrap_or o 0) (seen saveless (λ n. n.last_child) (λ _. refl) (node_at new.nodes k) (node_at old.nodes k) (d.at k))

  pub still_tells : {X : Type 0} (L : Entry → X → X → Type 0) (states : ℕ → X) → AreStates L old states → AreStates L new states
  still_tells L states are_states = record {
    way = are_states.way;
    is_way = record { is_way = way_same (λ k. parent_at old.nodes k) (λ k. parent_at new.nodes k) (λ k. sym (parents k)) are_states.way are_states.is_way.is_way; starts = are_states.is_way.starts ∙ sym d.current };
    edges = λ k node is.
        let was = was_there saveless (node_at old.nodes k) (saveless node) (sym (d.at k) ∙ ap (option_map saveless) is) in
        let entries : was.0.entries ≡ node.entries = ap (λ (n : Node). n.entries) was.1.1 in
        let parent : was.0.parent ≡ node.parent = ap (λ (n : Node). n.parent) was.1.1 in
        subst (λ p. IsEdge L (is_on are_states.way k) node.entries (states k) (states p)) parent
        (subst (λ es. IsEdge L (is_on are_states.way k) es (states k) (states was.0.parent)) entries (are_states.edges k was.0 was.1.0));
  }

  kept_on : (k : ℕ) → IsKept old.nodes k → IsKept new.nodes k
  kept_on k kept = elim kept [ inl at_root ↦ inl at_root | inr some ↦ inr (kept_same (node_at old.nodes k) (node_at new.nodes k) (sym (parents k)) some) ]

  pub still_sound : IsSound old → AreSaves new → IsSound new
  still_sound sound saves = record {
    tree = tree_same new.nodes old.nodes parents sound.tree;
    current = subst (IsKept new.nodes) (sym d.current) (kept_on old.current sound.current);
    children = record {
      each = λ k some. parents (child_of new k) ∙ (ap (parent_at old.nodes) (children k) ∙ sound.children.each k (λ e. some (children k ∙ e)));
      some = λ k child known e. sound.children.some k child (sym (parents child) ∙ known) (sym (children k) ∙ e);
    };
    numbers = numbers_same new old d.numbers (kept_before new.nodes old.nodes parents) d.last sound.numbers;
    saves = saves;
    entries = entries_same saveless (λ _. refl) new.nodes old.nodes d.at sound.entries;
  }

-- what a function leaves of each change, as far as g sees it
module _ {Y : Type 0} (g : Node → Y) (f : Node → Node) (same : (n : Node) → g (f n) ≡ g n) where
  pub map-mapped : (nodes : List Node) → map g (map f nodes) ≡ map g nodes
  map-mapped [] = refl
  map-mapped (node ∷ nodes) = ap (λ y. y ∷ map g (map f nodes)) (same node) ∙ ap (λ ys. g node ∷ ys) (map-mapped nodes)

  pub at-mapped : ((n : Node) → (f n).number ≡ n.number) → (nodes : List Node) (k : ℕ) → option_map g (node_at (map f nodes) k) ≡ option_map g (node_at nodes k)
  at-mapped numbers [] k = refl
  at-mapped numbers (node ∷ nodes) k =
      ap (λ n. option_map g (if n == k then Some (f node) else node_at (map f nodes) k)) (numbers node) ∙
      elim (node.number == k) as (λ b. option_map g (if b then Some (f node) else node_at (map f nodes) k) ≡ option_map g (if b then Some node else node_at nodes k)) [
        | true ↦ ap Some (same node)
        | false ↦ at-mapped numbers nodes k
      ]

unmarked_saveless : (save : ℕ) (n : Node) → saveless (unmarked save n) ≡ saveless n
unmarked_saveless save n = elim (n.save == save) as (λ b. saveless (if b then record n { save = 0 } else n) ≡ saveless n) [ true ↦ refl | false ↦ refl ]

pub unmarked_number : (save : ℕ) (n : Node) → (unmarked save n).number ≡ n.number
unmarked_number save n = ap (λ (m : Node). m.number) (unmarked_saveless save n)

unmarked_bare : (save : ℕ) (n : Node) → without_entries (unmarked save n) ≡ unmarked save (without_entries n)
unmarked_bare save n = elim (n.save == save) as (λ b. without_entries (if b then record n { save = 0 } else n) ≡ (if b then record (without_entries n) { save = 0 } else without_entries n)) [ true ↦ refl | false ↦ refl ]

map-unmarked : (save : ℕ) (nodes : List Node) → map without_entries (map (unmarked save) nodes) ≡ map (unmarked save) (map without_entries nodes)
map-unmarked save [] = refl
map-unmarked save (node ∷ nodes) = ap (λ n. n ∷ map without_entries (map (unmarked save) nodes)) (unmarked_bare save node) ∙ ap (λ ns. unmarked save (without_entries node) ∷ ns) (map-unmarked save nodes)

-- the links after a write
pub links_of-marked : (parts : Parts) → links_of (marked parts) ≡ marked (links_of parts)
links_of-marked parts =
    let save = next_save parts in
    elim (parts.current == 0) as (λ b. links_of (if b then record parts { last_save = save } else record parts { nodes = changed parts.current (with_save save) (map (unmarked save) parts.nodes); last_save = save })
    ≡ (if b then record (links_of parts) { last_save = save } else record (links_of parts) { nodes = changed parts.current (with_save save) (map (unmarked save) (map without_entries parts.nodes)); last_save = save })) [
      | true ↦ refl
      | false ↦ ap (λ (nodes : List Node). record parts { nodes = nodes; last_save = save })
          (map-changed without_entries (with_save save) (with_save save) (λ _. refl) (λ _. refl) parts.current (map (unmarked save) parts.nodes) ∙ ap (changed parts.current (with_save save)) (map-unmarked save parts.nodes))
    ]

-- a write changes save numbers alone
pub marked_differs : (parts : Parts) → DifferInSaves parts (marked parts)
marked_differs parts =
    let save = next_save parts in
    elim (parts.current == 0) as (λ b. DifferInSaves parts (if b then record parts { last_save = save } else record parts { nodes = changed parts.current (with_save save) (map (unmarked save) parts.nodes); last_save = save })) [
      | true ↦ record { at = λ k. refl; numbers = refl; root_child = refl; current = refl; last = refl }
      | false ↦ record {
        at = λ k. at-changed_same saveless (with_save save) (λ _. refl) (λ _. refl) parts.current (map (unmarked save) parts.nodes) k ∙ at-mapped saveless (unmarked save) (unmarked_saveless save) (unmarked_number save) parts.nodes k;
        numbers = map-changed_same (λ n. n.number) (with_save save) (λ _. refl) parts.current (map (unmarked save) parts.nodes) ∙ map-mapped (λ n. n.number) (unmarked save) (unmarked_number save) parts.nodes;
        root_child = refl;
        current = refl;
        last = refl;
      }
    ]

pub marked_history : (parts : Parts) (text : List (List ℕ)) (history : History) → IsHistory parts text history → IsHistory (marked parts) text (history_marked history)
marked_history parts text history is =
    let d = marked_differs parts in
    record {
      links = links_of-marked parts ∙ ap marked is.links;
      are_states = still_tells parts (marked parts) d Leads history.texts is.are_states;
      current = ap history.texts d.current ∙ is.current;
    }

pub marked_count : (parts : Parts) (lines : ℕ) → FitsCount parts lines → FitsCount (marked parts) lines
marked_count parts lines sees =
    let d = marked_differs parts in
    record { counts = sees.counts; are_states = still_tells parts (marked parts) d LeadsCount sees.counts sees.are_states; current = sees.current ∙ sym (ap sees.counts d.current) }

pub marked_text : (parts : Parts) (text : List (List ℕ)) → FitsText parts text → FitsText (marked parts) text
marked_text parts text sees =
    let d = marked_differs parts in
    record { texts = sees.texts; are_states = still_tells parts (marked parts) d Leads sees.texts sees.are_states; current = sees.current ∙ sym (ap sees.texts d.current) }

-- the save numbers after a write at a change
module _ (nodes : List Node) (current next : ℕ) (there : IsSome (node_at nodes current)) where
  abbrev written : List Node
  written = changed current (with_save next) (map (unmarked next) nodes)

  -- a state's save number before the current one is marked
  save_left : (k : ℕ) → ((save_at (map (unmarked next) nodes) k ≡ save_at nodes k) × ((save_at nodes k == next) ≡ false)) ⊎ (((save_at (map (unmarked next) nodes) k ≡ 0) × (save_at nodes k ≡ next))
      ⊎ ((save_at (map (unmarked next) nodes) k ≡ 0) × (save_at nodes k ≡ 0)))
  save_left k = left (node_at nodes k) (node_at (map (unmarked next) nodes) k) (node_at-map nodes k)
    where
      node_at-map : (ns : List Node) (k : ℕ) → node_at (map (unmarked next) ns) k ≡ option_map (unmarked next) (node_at ns k)
      node_at-map [] k = refl
      node_at-map (node ∷ ns) k =
          ap (λ n. if n == k then Some (unmarked next node) else node_at (map (unmarked next) ns) k) (unmarked_number next node) ∙
          elim (node.number == k) as (λ b. (if b then Some (unmarked next node) else node_at (map (unmarked next) ns) k) ≡ option_map (unmarked next) (if b then Some node else node_at ns k)) [ true ↦ refl | false ↦ node_at-map ns k ]

      left : (o p : Option Node) → p ≡ option_map (unmarked next) o
          → ((unwrap_or (option_map (λ (n : Node). n.save) p) 0 ≡ unwrap_or (option_map (λ (n : Node). n.save) o) 0) × ((unwrap_or (option_map (λ (n : Node). n.save) o) 0 == next) ≡ false))
          ⊎ (((unwrap_or (option_map (λ (n : Node). n.save) p) 0 ≡ 0) × (unwrap_or (option_map (λ (n : Node). n.save) o) 0 ≡ next))
          ⊎ ((unwrap_or (option_map (λ (n : Node). n.save) p) 0 ≡ 0) × (unwrap_or (option_map (λ (n : Node). n.save) o) 0 ≡ 0)))
      left None p e = inr (inr (ap (λ q. unwrap_or (option_map (λ (n : Node). n.save) q) 0) e, refl))
      left (Some x) p e =
          let is : unwrap_or (option_map (λ (n : Node). n.save) p) 0 ≡ (unmarked next x).save = ap (λ q. unwrap_or (option_map (λ (n : Node). n.save) q) 0) e in
          elim (x.save == next) as (λ b. b ≡ (x.save == next) → unwrap_or (option_map (λ (n : Node). n.save) p) 0 ≡ (if b then record x { save = 0 } else x).save
          → ((unwrap_or (option_map (λ (n : Node). n.save) p) 0 ≡ x.save) × (b ≡ false)) ⊎ (((unwrap_or (option_map (λ (n : Node). n.save) p) 0 ≡ 0) × (x.save ≡ next)) ⊎ ((unwrap_or (option_map (λ (n : Node). n.save) p) 0 ≡ 0) × (x.save ≡ 0)))) [
            | true ↦ λ t h. inr (inl (h, grind (arith, nat_tests)))
            | false ↦ λ t h. inl (h, refl)
          ] refl is

  save_there : save_at written current ≡ next
  save_there = ap (λ o. unwrap_or (option_map (λ (n : Node). n.save) o) 0) (at_written current (with_save next) (λ _. refl) (map (unmarked next) nodes)) ∙ set_in (node_at (map (unmarked next) nodes) current) (some_left (node_at nodes current) (node_at (map (unmarked next) nodes) current) (at-mapped saveless (unmarked next) (unmarked_saveless next) (unmarked_number next) nodes current) there)
    where
      set_in : (o : Option Node) → IsSome o → unwrap_or (option_map (λ (n : Node). n.save) (option_map (with_save next) o)) 0 ≡ next
      set_in None some = absurd (cc)
      set_in (Some x) some = refl

      some_left : (o p : Option Node) → option_map saveless p ≡ option_map saveless o → IsSome o → IsSome p
      some_left None p e some = absurd (cc)
      some_left (Some x) None e some = absurd (cc)
      some_left (Some x) (Some y) e some = refl

  save_other : (k : ℕ) → (k == current) ≡ false → save_at written k ≡ save_at (map (unmarked next) nodes) k
  save_other k other = ap (λ o. unwrap_or (option_map (λ (n : Node). n.save) o) 0) (at_other current k (with_save next) (λ _. refl) (map (unmarked next) nodes) other)

  pub written_saves : (last : ℕ) → 0 < next → last ≤ next → next ≤ MAX_SAVE → ((a b : ℕ) → save_at nodes a ≢ 0 → save_at nodes a ≡ save_at nodes b → a ≡ b) → ((k : ℕ) → save_at nodes k ≤ last)
      → ((a b : ℕ) → save_at written a ≢ 0 → save_at written a ≡ save_at written b → a ≡ b) × ((k : ℕ) → save_at written k ≤ next)
  written_saves last more up most differ below = (apart, least)
    where
      -- a state other than the current one has another number than the new one
      less : (k : ℕ) → (k == current) ≡ false → (save_at written k ≢ next) × ((save_at written k ≤ last) × (save_at written k ≢ 0 → save_at written k ≡ save_at nodes k))
      less k other =
          let e = save_other k other in
          elim (save_left k) [
            | inl h ↦ (λ is. let s : save_at nodes k ≡ next = sym (e ∙ h.0) ∙ is in let test = h.1 in absurd (grind (arith, nat_tests)), (omega (arith, e, h.0, below k), λ _. e ∙ h.0))
            | inr h ↦ elim h [
              | inl g ↦ (λ is. omega (arith, e, g.0, is, more), (omega (arith, e, g.0), λ some. absurd (some (e ∙ g.0))))
              | inr g ↦ (λ is. omega (arith, e, g.0, is, more), (omega (arith, e, g.0), λ some. absurd (some (e ∙ g.0))))
            ]
          ]

      apart : (a b : ℕ) → save_at written a ≢ 0 → save_at written a ≡ save_at written b → a ≡ b
      apart a b some same =
          elim (a == current) as (λ t. t ≡ (a == current) → a ≡ b) [
            | true ↦ λ t. let a_is : a ≡ current = grind (arith, nat_tests) in
                elim (b == current) as (λ u. u ≡ (b == current) → a ≡ b) [
                  | true ↦ λ u. grind (arith, nat_tests)
                  | false ↦ λ u. absurd ((less b (sym u)).0 (sym same ∙ (ap (save_at written) a_is ∙ save_there)))
                ] refl
            | false ↦ λ t. elim (b == current) as (λ u. u ≡ (b == current) → a ≡ b) [
              | true ↦ λ u. let b_is : b ≡ current = grind (arith, nat_tests) in absurd ((less a (sym t)).0 (same ∙ (ap (save_at written) b_is ∙ save_there)))
              | false ↦ λ u.
                  let at_a = (less a (sym t)).1.1 some in
                  let at_b = (less b (sym u)).1.1 (λ e. some (same ∙ e)) in
                  differ a b (λ e. some (at_a ∙ e)) (sym at_a ∙ (same ∙ at_b))
            ] refl
          ] refl

      least : (k : ℕ) → save_at written k ≤ next
      least k =
          elim (k == current) as (λ t. t ≡ (k == current) → save_at written k ≤ next) [
            | true ↦ λ t. let k_is : k ≡ current = grind (arith, nat_tests) in omega (arith, ap (save_at written) k_is, save_there)
            | false ↦ λ t. omega (arith, (less k (sym t)).1.0, up)
          ] refl

pub marked_saves : (parts : Parts) → IsSound parts → AreSaves (marked parts)
marked_saves parts sound =
    let next = next_save parts in
    elim (parts.current == 0) as (λ b. b ≡ (parts.current == 0) → AreSaves (if b then record parts { last_save = next } else record parts { nodes = changed parts.current (with_save next) (map (unmarked next) parts.nodes); last_save = next })) [
      | true ↦ λ t. record { differ = sound.saves.differ; below = λ k. omega (arith, sound.saves.below k, sound.saves.last); last = omega arith }
      | false ↦ λ t.
          let there : IsSome (node_at parts.nodes parts.current) = elim sound.current [ inl at_root ↦ absurd (grind (arith, nat_tests)) | inr some ↦ some ] in
          let saves = written_saves parts.nodes parts.current next there parts.last_save (omega arith) (omega (arith, sound.saves.last)) (omega arith) sound.saves.differ sound.saves.below in
          record { differ = saves.0; below = saves.1; last = omega arith }
    ] refl

-- below the limit no change has the next save number
pub unused : (parts : Parts) → IsSound parts → parts.last_save < MAX_SAVE → (k : ℕ) (d : Node) → k < length parts.nodes → (get_or parts.nodes k d).save ≢ next_save parts
unused parts sound room k d within = λ is.
    let here = index_found parts.nodes k d sound.numbers.rising within in
    let save : save_at parts.nodes (get_or parts.nodes k d).number ≡ (get_or parts.nodes k d).save = ap (λ o. unwrap_or (option_map (λ (n : Node). n.save) o) 0) here in
    omega (arith, is, save, sound.saves.below (get_or parts.nodes k d).number, room)

-- a save number that no change has is taken from none
pub map-unmarked_none : (save : ℕ) (nodes : List Node) → ((k : ℕ) (d : Node) → k < length nodes → (get_or nodes k d).save ≢ save) → map (unmarked save) nodes ≡ nodes
map-unmarked_none save [] none = refl
map-unmarked_none save (node ∷ nodes) none =
    let other : (node.save == save) ≡ false = let h = none 0 node (omega arith) in grind (arith, nat_tests) in
    ap (λ b. (if b then record node { save = 0 } else node) ∷ map (unmarked save) nodes) other ∙ ap (λ ns. node ∷ ns) (map-unmarked_none save nodes (λ k d within. none (suc k) d (omega arith)))
