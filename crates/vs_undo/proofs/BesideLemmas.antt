-- Changes are brought up beside the child that stays: which ways pass that child is as it was, and at last a parent tells it.
use Rattle.std.proofs.Common.{◌≡◌, ◌≢◌, ℕ, zero, suc, ◌+◌, ◌<◌, ◌≤◌, ◌==◌, ◌||◌, ◌&&◌, not, if◌then◌else◌, cond, Bool, true, false, List, [], ◌∷◌, length, get_or, map, Option, Some, None, option_map, unwrap_or, IsSome, ◌⊎◌, inl, inr, sym, ap, subst, ◌∙◌, arith, refl}
use Rattle.std.specs.List.{filter}
use Rattle.std.specs.List.Sorted.{IsStrictlyIncreasing}
use Rattle.std.proofs.lemmas.Bool.Decides.{nat_tests}
use Rattle.std.proofs.lemmas.List.{get_or-map, length-map}
use Rattle.vs_undo.specs.declared.parts.Node.{Node}
use Rattle.vs_undo.specs.Ways.{node_at, parent_at, is_on, way_of, IsTree}
use Rattle.vs_undo.specs.Numbers.{numbers}
use Rattle.vs_undo.specs.History.{changed}
use Rattle.vs_undo.specs.Beside.{is_beside, at_root, deeper, IsFlat, IsFlatter, stays}
use Rattle.vs_undo.specs.Forgetting.{nodes_through}
use Rattle.vs_undo.proofs.ChangeLemmas.{at_other, at_written, map-changed_same, was_there}
use Rattle.vs_undo.proofs.DropLemmas.{past_way, way_of_step}
use Rattle.std.proofs.lemmas.List.Kept.{AllPairs-from_increasing}
use Rattle.vs_undo.proofs.DepthLemmas.{number_of}
use Rattle.vs_undo.proofs.NumberLemmas.{length_numbers, number_at}
use Rattle.vs_undo.proofs.SearchLemmas.{index_found}
use Rattle.vs_undo.proofs.SoundLemmas.{known_some, parent_kept}

-- the tree as it is before any change is brought up
pub flat_start : (child : ℕ) (nodes : List Node) → IsTree nodes → parent_at nodes child ≡ Some 0 → IsFlatter child nodes nodes
flat_start child nodes tree top =
    let past = past_way nodes child tree top in
    record {
      numbers = refl;
      none = tree.root;
      outside = past.root;
      top = top;
      same = λ k is. refl;
      past = past.step;
      up = λ k p is some. (
        elim (parent_kept nodes k p tree is) [ inl z ↦ absurd (some z) | inr h ↦ h ],
        omega (arith, ap length (way_of_step nodes tree k p is)),
      );
    }

-- what tells that a state is beside
beside_is : (child : ℕ) (nodes : List Node) (number : ℕ) → is_beside child nodes number ≡ true → (number ≢ child) × (parent_at nodes number ≡ Some 0)
beside_is child nodes number is =
    elim (number == child) as (λ b. b ≡ (number == child) → (not b && (unwrap_or (parent_at nodes number) 1 == 0)) ≡ true → (number ≢ child) × (parent_at nodes number ≡ Some 0)) [
      | true ↦ λ t e. absurd (cc)
      | false ↦ λ t e. (grind (arith, nat_tests), parent_zero (parent_at nodes number) e)
    ] refl is
  where
    parent_zero : (o : Option ℕ) → (unwrap_or o 1 == 0) ≡ true → o ≡ Some 0
    parent_zero None e = absurd (cc)
    parent_zero (Some zero) e = refl
    parent_zero (Some (suc p)) e = absurd (let h : suc p ≡ 0 = grind (arith, nat_tests) in omega arith)

module _ (child : ℕ) (now : List Node) (number p : ℕ) (here : parent_at now number ≡ Some p) (beside : is_beside child now p ≡ true) where
  abbrev new : List Node
  new = changed number at_root now

  p_is : (p ≢ child) × (parent_at now p ≡ Some 0)
  p_is = beside_is child now p beside

  or_number : (k : ℕ) → (k ≡ number) ⊎ ((k == number) ≡ false)
  or_number k = elim (k == number) as (λ b. b ≡ (k == number) → (k ≡ number) ⊎ (b ≡ false)) [ true ↦ λ t. inl (grind (arith, nat_tests)) | false ↦ λ t. inr refl ] refl

  at_number : node_at new number ≡ option_map at_root (node_at now number)
  at_number = at_written number at_root (λ _. refl) now

  parent_number : parent_at new number ≡ Some 0
  parent_number = let w = was_there (λ (n : Node). n.parent) (node_at now number) p here in ap (option_map (λ (n : Node). n.parent)) (at_number ∙ ap (option_map at_root) w.1.0)

  parent_other : (k : ℕ) → (k == number) ≡ false → parent_at new k ≡ parent_at now k
  parent_other k d = ap (option_map (λ (n : Node). n.parent)) (at_other number k at_root (λ _. refl) now d)

  some_stays : (k : ℕ) → IsSome (node_at now k) → IsSome (node_at new k)
  some_stays k some = elim (or_number k) [
    | inl e ↦ known_some (node_at new k) 0 (ap (parent_at new) e ∙ parent_number)
    | inr d ↦ subst IsSome (sym (at_other number k at_root (λ _. refl) now d)) some
  ]

  module _ (first : List Node) (f : IsFlatter child first now) where
    p_some : p ≢ 0
    p_some = λ z. let e : ◌≡◌ {A = Option ℕ} None (Some 0) = sym (ap (option_map (λ (n : Node). n.parent)) f.none) ∙ (ap (parent_at now) (sym z) ∙ p_is.1) in cc

    not_child : (number == child) ≡ false
    not_child = elim (number == child) as (λ b. b ≡ (number == child) → b ≡ false) [
      | true ↦ λ t. let e : number ≡ child = grind (arith, nat_tests) in absurd (p_some (let h : Some p ≡ Some 0 = sym here ∙ (ap (parent_at now) e ∙ f.top) in cc))
      | false ↦ λ t. refl
    ] refl

    past_number : is_on (way_of first number) child ≡ false
    past_number =
        let d : (p == child) ≡ false = let h = p_is.0 in grind (arith, nat_tests) in
        let at_p : is_on (way_of first p) child ≡ false = f.past p 0 p_is.1 ∙ (ap (λ b. b || is_on (way_of first 0) child) d ∙ f.outside) in
        f.past number p here ∙ (ap (λ b. b || is_on (way_of first p) child) not_child ∙ at_p)

    pub flatter_step : IsFlatter child first (changed number at_root now)
    flatter_step = record {
      numbers = map-changed_same (λ (n : Node). n.number) at_root (λ _. refl) number now ∙ f.numbers;
      none = elim (or_number 0) [
        | inl e ↦ ap (node_at new) e ∙ (at_number ∙ ap (option_map at_root) (ap (node_at now) (sym e) ∙ f.none))
        | inr d ↦ at_other number 0 at_root (λ _. refl) now d ∙ f.none
      ];
      outside = f.outside;
      top = let d : (child == number) ≡ false = let h = not_child in grind (arith, nat_tests) in parent_other child d ∙ f.top;
      same = λ k is. elim (or_number k) [
        | inl e ↦ absurd (let h : true ≡ false = sym is ∙ (ap (λ n. is_on (way_of first n) child) e ∙ past_number) in cc)
        | inr d ↦ at_other number k at_root (λ _. refl) now d ∙ f.same k is
      ];
      past = λ k q is. elim (or_number k) [
        | inl e ↦
            let zero_is : Some q ≡ Some 0 = sym is ∙ (ap (parent_at new) e ∙ parent_number) in
            let q_is : q ≡ 0 = cc in
            let left : is_on (way_of first k) child ≡ false = ap (λ n. is_on (way_of first n) child) e ∙ past_number in
            let right : ((k == child) || is_on (way_of first q) child) ≡ false = ap (λ n. (n == child) || is_on (way_of first q) child) e ∙ (ap (λ b. b || is_on (way_of first q) child) not_child ∙ (ap (λ n. is_on (way_of first n) child) q_is ∙ f.outside)) in
            left ∙ sym right
        | inr d ↦ f.past k q (sym (parent_other k d) ∙ is)
      ];
      up = λ k q is some. elim (or_number k) [
        | inl e ↦ absurd (some (let zero_is : Some q ≡ Some 0 = sym is ∙ (ap (parent_at new) e ∙ parent_number) in cc))
        | inr d ↦ let h = f.up k q (sym (parent_other k d) ∙ is) some in (some_stays q h.0, h.1)
      ];
    }

-- one change more has the oldest state as its parent
pub deeper_less : (nodes : List Node) (number : ℕ) (node : Node) → node_at nodes number ≡ Some node → node.parent ≢ 0 → deeper (changed number at_root nodes) < deeper nodes
deeper_less [] number node is some = absurd (cc)
deeper_less (first ∷ nodes) number node is some =
    elim (first.number == number) as (λ b. (if b then Some first else node_at nodes number) ≡ Some node → deeper (if b then at_root first ∷ nodes else first ∷ changed number at_root nodes) < (if first.parent == 0 then 0 else 1) + deeper nodes) [
      | true ↦ λ e.
          let same : first ≡ node = cc in
          let d : (first.parent == 0) ≡ false = let s : first.parent ≢ 0 = (λ z. some (ap (λ (n : Node). n.parent) (sym same) ∙ z)) in grind (arith, nat_tests) in
          subst (λ b. 0 + deeper nodes < (if b then 0 else 1) + deeper nodes) (sym d) (omega arith)
      | false ↦ λ e.
          let rest = deeper_less nodes number node e some in
          elim (first.parent == 0) as (λ b. (if b then 0 else 1) + deeper (changed number at_root nodes) < (if b then 0 else 1) + deeper nodes) [ true ↦ omega arith | false ↦ omega arith ]
    ] is

-- a change that is found stands in the list
pub stands_at : (nodes : List Node) (k : ℕ) (node : Node) → node_at nodes k ≡ Some node → (i : ℕ) × ((i < length nodes) × (get_or nodes i node ≡ node))
stands_at [] k node is = absurd (cc)
stands_at (first ∷ nodes) k node is =
    elim (first.number == k) as (λ b. (if b then Some first else node_at nodes k) ≡ Some node → (i : ℕ) × ((i < length (first ∷ nodes)) × (get_or (first ∷ nodes) i node ≡ node))) [
      | true ↦ λ e. let same : first ≡ node = cc in (0, (omega arith, same))
      | false ↦ λ e. let rest = stands_at nodes k node e in (suc rest.0, (omega (arith, rest.1.0), rest.1.1))
    ] is

-- lists of which tests pass the same elements
filter_both : (p q : Node → Bool) (xs ys : List Node) (d : Node) → length xs ≡ length ys
    → ((i : ℕ) → i < length ys → (p (get_or xs i d) ≡ q (get_or ys i d)) × (q (get_or ys i d) ≡ true → get_or xs i d ≡ get_or ys i d)) → filter p xs ≡ filter q ys
filter_both p q [] [] d count same = refl
filter_both p q [] (y ∷ ys) d count same = absurd (omega arith)
filter_both p q (x ∷ xs) [] d count same = absurd (omega arith)
filter_both p q (x ∷ xs) (y ∷ ys) d count same =
    let here = same 0 (omega arith) in
    let rest : filter p xs ≡ filter q ys = filter_both p q xs ys d (omega (arith, count)) (λ i within. same (suc i) (omega (arith, within))) in
    ap (λ b. cond b (x ∷ filter p xs) (filter p xs)) here.0 ∙
    elim (q y) as (λ b. q y ≡ b → cond b (x ∷ filter p xs) (filter p xs) ≡ cond b (y ∷ filter q ys) (filter q ys)) [
      | true ↦ λ t. ap (λ z. z ∷ filter p xs) (here.1 t) ∙ ap (λ zs. y ∷ zs) rest
      | false ↦ λ t. rest
    ] refl

module _ (child : ℕ) (first now : List Node) (f : IsFlatter child first now) (flat : IsFlat child now) where
  deep : (m k p : ℕ) → length (way_of first k) ≤ m → parent_at now k ≡ Some p → p ≢ 0 → is_on (way_of first k) child ≡ true
  deep zero k p short is some = let h = (f.up k p is some).1 in absurd (omega (arith, h, short))
  deep (suc m) k p short is some =
      let h = f.up k p is some in
      let q = above p (node_at now p) refl h.0 in
      let at_p : is_on (way_of first p) child ≡ true =
      elim (p == child) as (λ b. b ≡ (p == child) → is_on (way_of first p) child ≡ true) [
        | true ↦ λ t. f.past p q.0 q.1 ∙ ap (λ b. b || is_on (way_of first q.0) child) (sym t)
        | false ↦ λ t. deep m p q.0 (omega (arith, h.1, short)) q.1 (λ z. let e : true ≡ false = sym (both p t (q.1 ∙ ap Some z)) ∙ flat k p is in cc)
      ] refl in
      f.past k p is ∙ (ap (λ b. (k == child) || b) at_p ∙ elim (k == child) as (λ b. (b || true) ≡ true) [ true ↦ refl | false ↦ refl ])
    where
      above : (p : ℕ) (o : Option Node) → node_at now p ≡ o → IsSome o → (q : ℕ) × (parent_at now p ≡ Some q)
      above p None e s = absurd (cc)
      above p (Some node) e s = (node.parent, ap (option_map (λ (n : Node). n.parent)) e)

      both : (p : ℕ) → false ≡ (p == child) → parent_at now p ≡ Some 0 → is_beside child now p ≡ true
      both p t e = ap (λ b. not b && (unwrap_or (parent_at now p) 1 == 0)) (sym t) ∙ ap (λ o. unwrap_or o 1 == 0) e

  module _ (rising : IsStrictlyIncreasing (numbers first)) (now_rising : IsStrictlyIncreasing (numbers now)) where
    abbrev none : Node
    none = record { number = 0; parent = 0; last_child = 0; time = 0; save = 0; entries = [] }

    count : length now ≡ length first
    count = omega (arith, length-map now (λ (n : Node). n.number), length-map first (λ (n : Node). n.number), ap length f.numbers)

    module _ (i : ℕ) (within : i < length first) where
      abbrev a : Node
      a = get_or now i none

      abbrev b : Node
      b = get_or first i none

      number_same : a.number ≡ b.number
      number_same = sym (get_or-map (λ (n : Node). n.number) now i none 0 (omega (arith, within, count))) ∙ (ap (λ ns. get_or ns i 0) f.numbers ∙ get_or-map (λ (n : Node). n.number) first i none 0 within)

      a_found : node_at now a.number ≡ Some a
      a_found = index_found now i none now_rising (omega (arith, within, count))

      b_found : node_at first b.number ≡ Some b
      b_found = index_found first i none rising within

      a_parent : parent_at now a.number ≡ Some a.parent
      a_parent = ap (option_map (λ (n : Node). n.parent)) a_found

      or_none : (x : Bool) → (x || false) ≡ x
      or_none true = refl
      or_none false = refl

      test : stays child a ≡ is_on (way_of first b.number) child
      test =
          elim (a.parent == 0) as (λ t. t ≡ (a.parent == 0) → (not t || (a.number == child)) ≡ is_on (way_of first b.number) child) [
            | true ↦ λ t.
                let z : a.parent ≡ 0 = grind (arith, nat_tests) in
                let told : is_on (way_of first a.number) child ≡ (a.number == child) =
                f.past a.number a.parent a_parent ∙ (ap (λ n. (a.number == child) || is_on (way_of first n) child) z ∙ (ap (λ x. (a.number == child) || x) f.outside ∙ or_none (a.number == child))) in
                sym told ∙ ap (λ n. is_on (way_of first n) child) number_same
            | false ↦ λ t.
                let some : a.parent ≢ 0 = grind (arith, nat_tests) in
                sym (deep (length (way_of first a.number)) a.number a.parent (omega arith) a_parent some) ∙ ap (λ n. is_on (way_of first n) child) number_same
          ] refl

      left_same : is_on (way_of first b.number) child ≡ true → a ≡ b
      left_same holds =
          let e : Some a ≡ Some b = sym a_found ∙ (ap (node_at now) number_same ∙ (f.same b.number holds ∙ b_found)) in cc

    pub flat_end : filter (stays child) now ≡ nodes_through child first
    flat_end = filter_both (stays child) (λ n. is_on (way_of first n.number) child) now first none count (λ i within. (test i within, left_same i within))

-- no change of a rising list is the oldest state
no_zero : (nodes : List Node) → IsStrictlyIncreasing (numbers nodes) → node_at nodes 0 ≡ None
no_zero nodes rising = none (node_at nodes 0) refl
  where
    none : (o : Option Node) → node_at nodes 0 ≡ o → o ≡ None
    none None e = refl
    none (Some node) e =
        let at = stands_at nodes 0 node e in
        let up = AllPairs-from_increasing (numbers nodes) rising 0 (suc at.0) 0 (omega arith) (omega (arith, length_numbers nodes, at.1.0)) in
        absurd (omega (arith, up, number_at nodes at.0 node at.1.0, ap (λ (n : Node). n.number) at.1.1, number_of nodes 0 node e))

-- The changes up to a place have been brought up where they were beside, and this tells whether there was one.
pub record IsPassing (child : ℕ) (initial now : List Node) (place : ℕ) (again : Bool) : Type 0 where
  pub flatter : (first : List Node) → IsFlatter child first initial → IsFlatter child first now
  pub numbers : map (λ (node : Node). node.number) now ≡ map (λ (node : Node). node.number) initial
  pub quiet : again ≡ false → (now ≡ initial) × ((j : ℕ) (d : Node) → j < place → is_beside child now (get_or now j d).parent ≡ false)
  pub most : deeper now ≤ deeper initial
  pub fewer : again ≡ true → deeper now < deeper initial

pub passing_rising : (child : ℕ) (initial now : List Node) (place : ℕ) (again : Bool) → IsPassing child initial now place again → IsStrictlyIncreasing (numbers initial) → IsStrictlyIncreasing (numbers now)
passing_rising child initial now place again is rising = subst (λ ns. IsStrictlyIncreasing (0 ∷ ns)) (sym is.numbers) rising

or_true : (b : Bool) → (b || true) ≡ true
or_true true = refl
or_true false = refl

or_false : (b : Bool) → (b || false) ≡ b
or_false true = refl
or_false false = refl

module _ (child : ℕ) (initial now new : List Node) (place : ℕ) (again r : Bool) (d : Node) (is : IsPassing child initial now place again) (rising : IsStrictlyIncreasing (numbers now)) (within : place < length now)
    (up : r ≡ true → new ≡ changed (get_or now place d).number at_root now) (stays_so : r ≡ false → new ≡ now) (beside : (x : Node) → r ≡ is_beside child now (get_or now place x).parent) where
  abbrev node : Node
  node = get_or now place d

  found : node_at now node.number ≡ Some node
  found = index_found now place d rising within

  brought : r ≡ true → IsPassing child initial (changed node.number at_root now) (place + 1) (again || r)
  brought holds =
      let here : parent_at now node.number ≡ Some node.parent = ap (option_map (λ (n : Node). n.parent)) found in
      let is_so : is_beside child now node.parent ≡ true = sym (beside d) ∙ holds in
      let some : node.parent ≢ 0 = λ z.
      let e : ◌≡◌ {A = Option ℕ} None (Some 0) = sym (ap (option_map (λ (n : Node). n.parent)) (no_zero now rising)) ∙ (ap (parent_at now) (sym z) ∙ (beside_is child now node.parent is_so).1) in cc in
      let less = deeper_less now node.number node found some in
      let after : (again || r) ≡ true = ap (λ b. again || b) holds ∙ or_true again in
      record {
        flatter = λ first f. flatter_step child now node.number node.parent here is_so first (is.flatter first f);
        numbers = map-changed_same (λ (n : Node). n.number) at_root (λ _. refl) node.number now ∙ is.numbers;
        quiet = λ no_more. absurd (let e : true ≡ false = sym after ∙ no_more in cc);
        most = omega (arith, less, is.most);
        fewer = λ _. omega (arith, less, is.most);
      }

  left_so : r ≡ false → IsPassing child initial now (place + 1) (again || r)
  left_so none =
      let after : (again || r) ≡ again = ap (λ b. again || b) none ∙ or_false again in
      record {
        flatter = is.flatter;
        numbers = is.numbers;
        quiet = λ no_more.
            let before = is.quiet (sym after ∙ no_more) in (
              before.0,
              λ j x lt. elim (j == place) as (λ b. b ≡ (j == place) → is_beside child now (get_or now j x).parent ≡ false) [
                | true ↦ λ t. let e : j ≡ place = grind (arith, nat_tests) in ap (λ k. is_beside child now (get_or now k x).parent) e ∙ (sym (beside x) ∙ none)
                | false ↦ λ t. let lower : j < place = grind (arith, nat_tests) in before.1 j x lower
              ] refl,
            );
        most = is.most;
        fewer = λ more. is.fewer (sym after ∙ more);
      }

  pub passing_step : IsPassing child initial new (place + 1) (again || r)
  passing_step = elim r as (λ b. r ≡ b → IsPassing child initial new (place + 1) (again || r)) [
    | true ↦ λ holds. subst (λ ns. IsPassing child initial ns (place + 1) (again || r)) (sym (up holds)) (brought holds)
    | false ↦ λ none. subst (λ ns. IsPassing child initial ns (place + 1) (again || r)) (sym (stays_so none)) (left_so none)
  ] refl

-- a pass that brings up no change
pub passing_end : (child : ℕ) (initial now : List Node) (place : ℕ) → length now ≤ place → IsPassing child initial now place false → IsFlat child now
passing_end child initial now place all is = λ k p known.
    let node = was_there (λ (n : Node). n.parent) (node_at now k) p known in
    let at = stands_at now k node.0 node.1.0 in
    let quiet = (is.quiet refl).1 at.0 node.0 (omega (arith, at.1.0, all)) in
    ap (is_beside child now) (sym (ap (λ (n : Node). n.parent) at.1.1 ∙ node.1.1)) ∙ quiet
