-- The changes of a file, taken one by one and sorted by number, are those of the tree that it stands for.
use Rattle.std.proofs.Common.{◌≡◌, ◌≢◌, inl, inr, ℕ, zero, suc, ◌+◌, ◌<◌, eqb, if◌then◌else◌, false, List, [], ◌∷◌, length, get_or, map, Some, option_map, unwrap_or, slice_index, refl, sym, ap, subst, ◌∙◌, arith}
use Rattle.std.specs.Prelude.{Contains}
use Rattle.std.specs.List.{IsDistinct}
use Rattle.std.specs.List.Sorted.{IsNonDecreasingBy, IsPermutation, IsStrictlyIncreasing}
use Rattle.std.proofs.lemmas.Bool.{eqb-false, ne_eqb}
use Rattle.std.proofs.lemmas.Bool.Decides.{eqb_tells}
use Rattle.std.proofs.lemmas.List.{ext_get_or, get_or_default, get_or-map, length-map}
use Rattle.std.proofs.lemmas.List.Elements.{Contains-get_or}
use Rattle.std.proofs.lemmas.List.Sorted.{Contains-permutation, IsPermutation-map, IsPermutation-sym, length_permutation}
use Rattle.std.proofs.lemmas.Map.Keys.{apart_from_distinct, IsDistinct-from_apart, IsDistinct-IsPermutation}
use Rattle.vs_undo.specs.declared.parts.Node.{Node}
use Rattle.vs_undo.specs.Ways.{node_at, parent_at}
use Rattle.vs_undo.specs.Numbers as tree
use Rattle.vs_undo.proofs.DepthLemmas.{number_of}
use Rattle.vs_undo.proofs.SearchLemmas.{index_found}
use Rattle.vs_ufile.specs.Values as file
use Rattle.vs_ufile.specs.Decode.{KeepsRules}
use Rattle.vs_ufile.specs.Descent.{IsLineage}
use Rattle.vs_ufile.specs.Tree.{numbers, IsChange, IsParent}
use Rattle.vs_ufile.specs.Walks.{at}
use Rattle.vs_ubind.specs.Meaning.{HasSave, IsGreatest, Means, StandsFor}
use Rattle.vs_ubind.specs.Taken.{current_of, AreTaken}
use Rattle.vs_ubind.proofs.Chains.{none}
use Rattle.vs_ubind.proofs.Members.{known_cases}
use Rattle.vs_ubind.proofs.Takes.{change_number, same_test}

abbrev names : List Node → List ℕ
names nodes = map (λ (n : Node). n.number) nodes

abbrev pub blank : file.Change
blank = record { number = 0; next = 0; prev = 0; alt_next = 0; alt_prev = 0; empty = false; time = 0; save = 0; entries = [] }

contains_node : (nodes : List Node) (n : ℕ) (node : Node) → node_at nodes n ≡ Some node → Contains nodes node
contains_node [] n node is = absurd (cc)
contains_node (first ∷ nodes) n node is = elim (eqb_tells first.number n) [
  | inl same ↦ (0, omega arith, one first node (sym (ap (λ t. if t then Some first else node_at nodes n) same.0) ∙ is))
  | inr other ↦
      let more = contains_node nodes n node (sym (ap (λ t. if t then Some first else node_at nodes n) other.0) ∙ is) in
      (suc more.0, omega (arith, more.1), more.2)
]
  where
    one : (a b : Node) → Some a ≡ Some b → a ≡ b
    one a b e = cc

module _ (h : file.History) (rules : KeepsRules h) (taken sorted : List Node) (all : AreTaken h.changes taken) (perm : IsPermutation taken sorted) (order : IsNonDecreasingBy (λ (node : Node). node.number) sorted) where
  abbrev changes : List file.Change
  changes = h.changes

  taken_names : names taken ≡ numbers changes
  taken_names =
      let count : length (names taken) ≡ length taken = length-map taken (λ (n : Node). n.number) in
      let size : length (numbers changes) ≡ length changes = length-map changes (λ (c : file.Change). c.number) in
      ext_get_or 0 (names taken) (numbers changes) (count ∙ (all.count ∙ sym size)) (λ k lt.
      let inside : k < length taken = omega (arith, lt, count) in
      let other : k < length changes = let e = all.count in omega (arith, inside, e) in
      get_or-map (λ (n : Node). n.number) taken k none 0 inside ∙ ((all.each k blank none other).number ∙ sym (get_or-map (λ (c : file.Change). c.number) changes k blank 0 other)))

  apart : IsDistinct eqb (names sorted)
  apart =
      IsDistinct-IsPermutation eqb (λ x y. same_test x y y x sym sym) (names taken) (names sorted) (IsPermutation-map (λ (n : Node). n.number) taken sorted perm)
      (subst (IsDistinct eqb) (sym taken_names) (IsDistinct-from_apart eqb (numbers changes) (λ i j d lt within. ne_eqb (get_or (numbers changes) i d) (get_or (numbers changes) j d) (rules.numbers.distinct i j d lt within))))

  -- a change of the sorted ones stands for one of the file
  stands : (node : Node) → Contains sorted node → (change : file.Change) × Contains changes change × StandsFor changes change node
  stands node is =
      let was = Contains-permutation sorted taken node (IsPermutation-sym taken sorted perm) is in
      let inside : was.0 < length changes = let e = all.count in omega (arith, was.1, e) in
      (get_or changes was.0 blank, Contains-get_or changes was.0 blank inside, subst (StandsFor changes (get_or changes was.0 blank)) was.2 (all.each was.0 blank node inside))

  positive : (k : ℕ) → k < length sorted → 0 < (get_or sorted k none).number
  positive k lt =
      let s = stands (get_or sorted k none) (Contains-get_or sorted k none lt) in
      let is = change_number changes s.0 s.0.number s.1 refl in
      let range = rules.numbers.range is.0 0 is.1 in
      omega (arith, range.0, get_or_default (numbers changes) is.0 0 s.0.number is.1 ∙ is.2, s.2.number)

  step : (k : ℕ) → k + 1 < length sorted → (get_or sorted k none).number < (get_or sorted (k + 1) none).number
  step k lt =
      let count : length (names sorted) ≡ length sorted = length-map sorted (λ (n : Node). n.number) in
      let one = get_or-map (λ (n : Node). n.number) sorted k none 0 (omega (arith, lt)) in
      let two = get_or-map (λ (n : Node). n.number) sorted (k + 1) none 0 lt in
      let le = order k (k + 1) none (omega arith) lt in
      let differ : get_or (names sorted) k 0 ≢ get_or (names sorted) (k + 1) 0 = eqb-false (get_or (names sorted) k 0) (get_or (names sorted) (k + 1) 0) (apart_from_distinct eqb (names sorted) k (k + 1) 0 apart (omega arith) (omega (arith, lt, count))) in
      omega (arith, le, differ, one, two)

  rising : IsStrictlyIncreasing (tree.numbers sorted)
  rising zero lt =
      let count : length (names sorted) ≡ length sorted = length-map sorted (λ (n : Node). n.number) in
      let inside : 0 < length sorted = omega (arith, lt, count) in
      let here : slice_index (tree.numbers sorted) (0 + 1) ≡ (get_or sorted 0 none).number = get_or-map (λ (n : Node). n.number) sorted 0 none 0 inside in
      omega (arith, here, positive 0 inside)
  rising (suc k) lt =
      let count : length (names sorted) ≡ length sorted = length-map sorted (λ (n : Node). n.number) in
      let inside : k + 1 < length sorted = omega (arith, lt, count) in
      let one : slice_index (tree.numbers sorted) (suc k) ≡ (get_or sorted k none).number = get_or-map (λ (n : Node). n.number) sorted k none 0 (omega (arith, inside)) in
      let next : suc k + 1 ≡ suc (k + 1) = omega arith in
      let two : slice_index (tree.numbers sorted) (suc k + 1) ≡ (get_or sorted (k + 1) none).number =
      ap (λ i. slice_index (tree.numbers sorted) i) next ∙ get_or-map (λ (n : Node). n.number) sorted (k + 1) none 0 inside in
      omega (arith, one, two, step k inside)

  -- each change of the file has its own
  node_there : (n : ℕ) → IsChange changes n → (node : Node) × (node_at sorted n ≡ Some node)
  node_there n is =
      let size : length (numbers changes) ≡ length changes = length-map changes (λ (c : file.Change). c.number) in
      let inside : is.0 < length changes = omega (arith, is.1, size) in
      let here : is.0 < length taken = let e = all.count in omega (arith, inside, e) in
      let number : (get_or taken is.0 none).number ≡ n =
      (all.each is.0 blank none inside).number ∙ (sym (get_or-map (λ (c : file.Change). c.number) changes is.0 blank n inside) ∙ is.2) in
      let there = Contains-permutation taken sorted (get_or taken is.0 none) perm (Contains-get_or taken is.0 none here) in
      let named : (get_or sorted there.0 none).number ≡ n = ap (λ (m : Node). m.number) (get_or_default sorted there.0 none (get_or taken is.0 none) there.1 ∙ there.2) ∙ number in
      (get_or sorted there.0 none, ap (λ k. node_at sorted k) (sym named) ∙ index_found sorted there.0 none rising there.1)

  parent_is : (n : ℕ) (node : Node) → node_at sorted n ≡ Some node → IsParent changes n node.parent
  parent_is n node is =
      let s = stands node (contains_node sorted n node is) in
      subst (λ m. IsParent changes m node.parent) (sym s.2.number ∙ number_of sorted n node is) s.2.parent

  at_head : h.current_head ≢ 0 → IsParent changes h.current_head (current_of sorted h)
  at_head some = elim (eqb_tells h.current_head 0) [
    | inl same ↦ absurd (some same.1)
    | inr other ↦
        let passes : current_of sorted h ≡ unwrap_or (parent_at sorted h.current_head) 0 = ap (λ b. if b then h.newest else unwrap_or (parent_at sorted h.current_head) 0) other.0 in
        elim (known_cases (numbers changes) h.current_head rules.links.current_head) [
          | inl end ↦ absurd (some end)
          | inr is ↦
              let node = node_there h.current_head is in
              let here : current_of sorted h ≡ node.0.parent = passes ∙ ap (λ o. unwrap_or (option_map (λ (m : Node). m.parent) o) 0) node.1 in
              subst (IsParent changes h.current_head) (sym here) (parent_is h.current_head node.0 node.1)
        ]
  ]

  at_newest : h.current_head ≡ 0 → current_of sorted h ≡ h.newest
  at_newest end = elim (eqb_tells h.current_head 0) [
    | inl same ↦ ap (λ b. if b then h.newest else unwrap_or (parent_at sorted h.current_head) 0) same.0
    | inr other ↦ absurd (other.1 end)
  ]

  pub joined : (ups downs : List ℕ) (last save : ℕ) → IsLineage changes ups downs → IsGreatest h.last (IsChange changes) last → IsGreatest h.last_save (HasSave changes) save
      → Means h (record { nodes = sorted; root_child = at downs 0; current = current_of sorted h; last = last; last_save = save })
  joined ups downs last save lineage numbers_last saves_last = record {
    count = length_permutation taken sorted perm ∙ all.count;
    rising = rising;
    changes = λ n node is. stands node (contains_node sorted n node is);
    root_child = lineage.children 0 (omega arith);
    at_head = at_head;
    at_newest = at_newest;
    last = numbers_last;
    last_save = saves_last;
  }
