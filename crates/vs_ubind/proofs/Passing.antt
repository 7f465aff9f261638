-- A child stands in the chain between the greater ones, which were passed before it by falling number, and the lesser ones, which
-- were passed before it by rising number.
use Rattle.std.proofs.Common.{◌≡◌, ◌≢◌, inl, inr, ℕ, suc, ◌+◌, ◌<◌, ◌==◌, ◌&&◌, not, if◌then◌else◌, Bool, true, false, List, [], ◌∷◌, ◌++◌, length, get_or, map, reverse, take, drop, None, unwrap_or, refl, sym, ap, subst, ◌∙◌, arith, append_assoc}
use Rattle.std.specs.List.{filter}
use Rattle.std.specs.List.Sorted.{IsStrictlyIncreasing}
use Rattle.std.specs.BTreeMap.{get, BTreeMap}
use Rattle.std.specs.Ordering.{nat_cmp}
use Rattle.std.proofs.Math.Seq.{drop-cons, get_or-append_seam}
use Rattle.std.proofs.lemmas.Bool.{cases_eq}
use Rattle.std.proofs.lemmas.List.{append-nil, get_or-append-add, length-append, length-reverse, map-append, map_more, reverse-append, take-append-drop, take_more}
use Rattle.std.proofs.lemmas.List.Elements.{filter-append}
use Rattle.vs_undo.specs.declared.parts.Node.{Node}
use Rattle.vs_undo.specs.declared.parts.Parts.{Parts}
use Rattle.vs_undo.specs.Numbers.{numbers}
use Rattle.vs_undo.specs.Sound.{child_of}
use Rattle.vs_ubind.specs.Unbound.{after_in, before_in, chain_of, other_children}
use Rattle.vs_ubind.specs.Passing.{alt_next_of, alt_prev_of, is_other, AreFirst, AreLast}
use Rattle.vs_ubind.proofs.Chains.{chain_apart}
use Rattle.vs_ubind.proofs.Places.{after_at, before_at, is_equal, not_equal}

-- ---- what is kept of a change that is passed
module _ (parts : Parts) (node : Node) (old next : BTreeMap ℕ ℕ) where
  abbrev pub IsPassed : Type 0
  IsPassed = (state none : ℕ) → unwrap_or (get nat_cmp next state) none ≡ (if is_other parts state node then node.number else unwrap_or (get nat_cmp old state) none)

-- ---- the children of a state among the changes that were passed
module _ (state first : ℕ) where
  abbrev test : Node → Bool
  test node = (node.parent == state) && not (node.number == first)

  abbrev others : List Node → List ℕ
  others nodes = other_children nodes state first

  others_append : (xs ys : List Node) → others (xs ++ ys) ≡ others xs ++ others ys
  others_append xs ys = ap (map (λ (n : Node). n.number)) (filter-append test xs ys) ∙ map-append (λ (n : Node). n.number) (filter test xs) (filter test ys)

  others_front : (node : Node) (nodes : List Node) (none : ℕ) → get_or (others (node ∷ nodes)) 0 none ≡ (if test node then node.number else get_or (others nodes) 0 none)
  others_front node nodes none = elim (test node) as (λ b. get_or (map (λ (n : Node). n.number) (if b then node ∷ filter test nodes else filter test nodes)) 0 none ≡ (if b then node.number else get_or (others nodes) 0 none)) [ true ↦ refl | false ↦ refl ]

  others_back : (nodes : List Node) (node : Node) (none : ℕ) → get_or (reverse (others (nodes ++ node ∷ []))) 0 none ≡ (if test node then node.number else get_or (reverse (others nodes)) 0 none)
  others_back nodes node none =
      ap (λ xs. get_or (reverse xs) 0 none) (others_append nodes (node ∷ []))
      ∙ (elim (test node) as (λ b. get_or (reverse (others nodes ++ map (λ (n : Node). n.number) (if b then node ∷ [] else []))) 0 none ≡ (if b then node.number else get_or (reverse (others nodes)) 0 none)) [
        | true ↦ ap (λ xs. get_or xs 0 none) (reverse-append (others nodes) (node.number ∷ []))
        | false ↦ ap (λ xs. get_or (reverse xs) 0 none) (append-nil (others nodes))
      ])

module _ (parts : Parts) where
  pub last_none : (passed : BTreeMap ℕ ℕ) → ((state : ℕ) → get nat_cmp passed state ≡ None) → AreLast parts [] passed
  last_none passed none state d = ap (λ o. unwrap_or o d) (none state)

  pub first_none : (passed : BTreeMap ℕ ℕ) → ((state : ℕ) → get nat_cmp passed state ≡ None) → AreFirst parts [] passed
  first_none passed none state d = ap (λ o. unwrap_or o d) (none state)

  pub last_more : (nodes : List Node) (i : ℕ) (node : Node) (old next : BTreeMap ℕ ℕ) → i < length nodes → node ≡ get_or nodes i node → IsPassed parts node old next → AreLast parts (take i nodes) old → AreLast parts (take (i + 1) nodes) next
  last_more nodes i node old next lt is more was state none =
      let f = child_of parts state in
      more state none
      ∙ (ap (λ n. if is_other parts state node then node.number else n) (was state none)
      ∙ (sym (others_back state f (take i nodes) node none)
      ∙ ap (λ xs. get_or (reverse (other_children xs state f)) 0 none) (sym (take_more nodes i node lt ∙ ap (λ x. take i nodes ++ x ∷ []) (sym is)))))

  pub first_more : (nodes : List Node) (node : Node) (old next : BTreeMap ℕ ℕ) → IsPassed parts node old next → AreFirst parts nodes old → AreFirst parts (node ∷ nodes) next
  first_more nodes node old next more was state none =
      more state none ∙ (ap (λ n. if is_other parts state node then node.number else n) (was state none) ∙ sym (others_front state (child_of parts state) node nodes none))

-- ---- the neighbours in the chain
-- the last of a list that has a first
last_of : (first : ℕ) (greater rest : List ℕ) → get_or (first ∷ (reverse greater ++ rest)) (length greater) 0 ≡ get_or greater 0 first
last_of first [] rest = refl
last_of first (n ∷ greater) rest =
    let at : length (reverse greater) ≡ length greater = length-reverse greater in
    ap (λ xs. get_or xs (length greater) 0) (ap (λ xs. xs ++ rest) (reverse-append (n ∷ []) greater) ∙ append_assoc (reverse greater) (n ∷ []) rest)
    ∙ subst (λ k. get_or (reverse greater ++ n ∷ rest) k 0 ≡ n) at (get_or-append_seam (reverse greater) n rest 0)

module _ (parts : Parts) (rising : IsStrictlyIncreasing (numbers parts.nodes)) (state : ℕ) where
  abbrev first : ℕ
  first = child_of parts state

  first_next : after_in (chain_of parts state) first ≡ get_or (reverse (other_children parts.nodes state first)) 0 0
  first_next = after_at (chain_of parts state) (chain_apart parts rising state) 0 (omega arith)

  first_prev : before_in (chain_of parts state) first ≡ 0
  first_prev = before_at (chain_of parts state) (chain_apart parts rising state) 0 (omega arith)

  module _ (lesser greater : List Node) (node : Node) (nodes_are : parts.nodes ≡ lesser ++ node ∷ greater) (is : is_other parts state node ≡ true) where
    abbrev below : List ℕ
    below = other_children lesser state first

    abbrev above : List ℕ
    above = other_children greater state first

    chain_is : chain_of parts state ≡ first ∷ (reverse above ++ node.number ∷ reverse below)
    chain_is =
        let front : other_children (node ∷ greater) state first ≡ node.number ∷ above = ap (λ b. map (λ (n : Node). n.number) (if b then node ∷ filter (test state first) greater else filter (test state first) greater)) is in
        let all : other_children parts.nodes state first ≡ below ++ node.number ∷ above = ap (λ xs. other_children xs state first) nodes_are ∙ (others_append state first lesser (node ∷ greater) ∙ ap (λ xs. below ++ xs) front) in
        ap (λ xs. first ∷ reverse xs) all
        ∙ ap (λ xs. first ∷ xs) (reverse-append below (node.number ∷ above) ∙ (ap (λ xs. xs ++ reverse below) (reverse-append (node.number ∷ []) above) ∙ append_assoc (reverse above) (node.number ∷ []) (reverse below)))

    abbrev place : ℕ
    place = suc (length (reverse above))

    at_place : get_or (chain_of parts state) place 0 ≡ node.number
    at_place = ap (λ xs. get_or xs place 0) chain_is ∙ get_or-append_seam (reverse above) node.number (reverse below) 0

    inside : place < length (chain_of parts state)
    inside = let long = ap length chain_is in let more = length-append (reverse above) (node.number ∷ reverse below) in omega (arith, long, more)

    other_next : after_in (chain_of parts state) node.number ≡ get_or (reverse below) 0 0
    other_next =
        ap (after_in (chain_of parts state)) (sym at_place)
        ∙ (after_at (chain_of parts state) (chain_apart parts rising state) place inside
        ∙ (ap (λ xs. get_or xs (place + 1) 0) chain_is
        ∙ (ap (λ k. get_or (first ∷ (reverse above ++ node.number ∷ reverse below)) k 0) next ∙ get_or-append-add (reverse above) (node.number ∷ reverse below) 1 0)))
      where
        next : place + 1 ≡ suc (length (reverse above) + 1)
        next = omega arith

    other_prev : before_in (chain_of parts state) node.number ≡ get_or above 0 first
    other_prev =
        ap (before_in (chain_of parts state)) (sym at_place)
        ∙ (before_at (chain_of parts state) (chain_apart parts rising state) place inside
        ∙ (ap (λ xs. get_or xs (length (reverse above)) 0) chain_is
        ∙ (ap (λ k. get_or (first ∷ (reverse above ++ node.number ∷ reverse below)) k 0) (length-reverse above) ∙ last_of first above (node.number ∷ reverse below))))

-- a change among those before and after it
split_at : (nodes : List Node) (i : ℕ) (node : Node) → i < length nodes → node ≡ get_or nodes i node → nodes ≡ take i nodes ++ node ∷ drop (i + 1) nodes
split_at nodes i node lt is =
    let one : suc i ≡ i + 1 = omega arith in
    sym (take-append-drop i nodes) ∙ ap (λ xs. take i nodes ++ xs) (drop-cons nodes i node lt ∙ (λ k. sym is k ∷ drop (one k) nodes))

module _ (parts : Parts) (rising : IsStrictlyIncreasing (numbers parts.nodes)) (i : ℕ) (node : Node) (lt : i < length parts.nodes) (is : node ≡ get_or parts.nodes i node) where
  other_is : node.number ≢ child_of parts node.parent → is_other parts node.parent node ≡ true
  other_is other = λ k. is_equal node.parent k && not (not_equal node.number (child_of parts node.parent) other k)

  pub next_is : (greatest passed : BTreeMap ℕ ℕ) → AreLast parts parts.nodes greatest → AreLast parts (take i parts.nodes) passed
      → alt_next_of parts node ≡ (if node.number == child_of parts node.parent then unwrap_or (get nat_cmp greatest node.parent) 0 else unwrap_or (get nat_cmp passed node.parent) 0)
  next_is greatest passed all before =
      let state = node.parent in
      elim (cases_eq node.number (child_of parts state)) [
        | inl same ↦
            let test : (node.number == child_of parts state) ≡ true = subst (λ n. (node.number == n) ≡ true) same (is_equal node.number) in
            ap (after_in (chain_of parts state)) same ∙ (first_next parts rising state ∙ (sym (all state 0) ∙ ap (λ b. if b then unwrap_or (get nat_cmp greatest state) 0 else unwrap_or (get nat_cmp passed state) 0) (sym test)))
        | inr other ↦
            other_next parts rising state (take i parts.nodes) (drop (i + 1) parts.nodes) node (split_at parts.nodes i node lt is) (other_is other)
            ∙ (sym (before state 0) ∙ ap (λ b. if b then unwrap_or (get nat_cmp greatest state) 0 else unwrap_or (get nat_cmp passed state) 0) (sym (not_equal node.number (child_of parts state) other)))
      ]

  pub prev_is : (passed : BTreeMap ℕ ℕ) → AreFirst parts (drop (i + 1) parts.nodes) passed
      → alt_prev_of parts node ≡ (if node.number == child_of parts node.parent then 0 else unwrap_or (get nat_cmp passed node.parent) (child_of parts node.parent))
  prev_is passed after =
      let state = node.parent in
      elim (cases_eq node.number (child_of parts state)) [
        | inl same ↦
            let test : (node.number == child_of parts state) ≡ true = subst (λ n. (node.number == n) ≡ true) same (is_equal node.number) in
            ap (before_in (chain_of parts state)) same ∙ (first_prev parts rising state ∙ ap (λ b. if b then 0 else unwrap_or (get nat_cmp passed state) (child_of parts state)) (sym test))
        | inr other ↦
            other_prev parts rising state (take i parts.nodes) (drop (i + 1) parts.nodes) node (split_at parts.nodes i node lt is) (other_is other)
            ∙ (sym (after state (child_of parts state)) ∙ ap (λ b. if b then 0 else unwrap_or (get nat_cmp passed state) (child_of parts state)) (sym (not_equal node.number (child_of parts state) other)))
      ]

  pub nexts_more : (nexts new : List ℕ) (next : ℕ) → alt_next_of parts node ≡ next → nexts ≡ map (alt_next_of parts) (take i parts.nodes) → new ≡ nexts ++ next ∷ [] → new ≡ map (alt_next_of parts) (take (i + 1) parts.nodes)
  nexts_more nexts new next same was pushed =
      pushed ∙ ((λ k. was k ++ (sym same ∙ ap (alt_next_of parts) is) k ∷ []) ∙ sym (map_more (alt_next_of parts) parts.nodes i node lt))

  -- the changes from this one on
  from_here : drop i parts.nodes ≡ node ∷ drop (i + 1) parts.nodes
  from_here = let one : suc i ≡ i + 1 = omega arith in drop-cons parts.nodes i node lt ∙ (λ k. sym is k ∷ drop (one k) parts.nodes)

  pub prevs_more : (prevs new : List ℕ) (prev : ℕ) → alt_prev_of parts node ≡ prev → reverse prevs ≡ map (alt_prev_of parts) (drop (i + 1) parts.nodes) → new ≡ prevs ++ prev ∷ [] → reverse new ≡ map (alt_prev_of parts) (drop i parts.nodes)
  prevs_more prevs new prev same was pushed =
      ap reverse pushed ∙ (reverse-append prevs (prev ∷ []) ∙ ((λ k. sym same k ∷ was k) ∙ ap (map (alt_prev_of parts)) (sym from_here)))

  pub first_more_at : (old next : BTreeMap ℕ ℕ) → IsPassed parts node old next → AreFirst parts (drop (i + 1) parts.nodes) old → AreFirst parts (drop i parts.nodes) next
  first_more_at old next more was = subst (λ xs. AreFirst parts xs next) (sym from_here) (first_more parts (drop (i + 1) parts.nodes) node old next more was)
