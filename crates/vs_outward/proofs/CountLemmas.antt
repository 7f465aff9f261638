-- At the place of each change of a way a count is noted, one after another.
use Rattle.std.proofs.Common.{◌≡◌, ◌≢◌, ℕ, zero, suc, ◌+◌, ◌-◌, ◌<◌, ◌≤◌, ◌==◌, if◌then◌else◌, List, [], ◌∷◌, ◌++◌, length, drop, get_or, set, true, false, Some, None, sym, ap, subst, ◌∙◌, refl, inl, inr, arith, length-append}
use Rattle.std.specs.List.{position}
use Rattle.std.specs.List.Sorted.{IsStrictlyIncreasing}
use Rattle.std.proofs.lemmas.Bool.{cases_lt}
use Rattle.std.proofs.lemmas.Bool.Decides.{nat_tests}
use Rattle.std.proofs.lemmas.List.{drop_more, get_or_default, get_or-set_other, get_or-set_same, length-set}
use Rattle.vs_undo.specs.declared.parts.Node.{Node}
use Rattle.vs_undo.specs.Numbers.{numbers}
use Rattle.vs_undo.specs.Ways.{is_on, node_at, start, IsKept}
use Rattle.vs_undo.proofs.NodeLemmas.{at_place, found_at, place_some}
use Rattle.vs_undo.proofs.SearchLemmas.{place_is}
use Rattle.vs_undo.proofs.WayLemmas.{cut_at}
use Rattle.vs_outward.specs.Trails.{AreCounts}

-- the change with a number has it
found_number : (nodes : List Node) (number : ℕ) (x : Node) → node_at nodes number ≡ Some x → x.number ≡ number
found_number [] number x is = absurd (cc)
found_number (n ∷ nodes) number x is =
    elim (n.number == number) as (λ b. b ≡ (n.number == number) → (if b then Some n else node_at nodes number) ≡ Some x → x.number ≡ number) [
      | true ↦ λ t e. let same : n ≡ x = cc in let here : n.number ≡ number = grind (arith, nat_tests) in ap (λ (m : Node). m.number) (sym same) ∙ here
      | false ↦ λ t e. found_number nodes number x e
    ] refl is

module _ (nodes : List Node) (rising : IsStrictlyIncreasing (numbers nodes)) (changes counts : List ℕ) (k : ℕ) (within : k < length changes) (long : length counts ≡ length nodes) where
  abbrev pub Each : List ℕ → Type 0
  Each xs = (i : ℕ) (node : Node) → i < length nodes → get_or xs i 0 ≢ 0 → (get_or xs i 0 ≤ length changes) × (get_or changes (get_or xs i 0 - 1) 0 ≡ (get_or nodes i node).number)

  abbrev pub All : ℕ → List ℕ → Type 0
  All most xs = (i j : ℕ) (node : Node) → i < length nodes → j < most → get_or changes j 0 ≡ (get_or nodes i node).number → get_or xs i 0 ≢ 0

  module _ (place : ℕ) (found : position (λ (n : Node). n.number == get_or changes k 0) nodes ≡ Some place) where
    inside : place < length counts
    inside = omega (arith, long, (at_place (λ (n : Node). n.number == get_or changes k 0) nodes place found).0)

    here : (i : ℕ) → i ≡ place → get_or (set counts place (k + 1)) i 0 ≡ k + 1
    here i same = ap (λ j. get_or (set counts place (k + 1)) j 0) same ∙ get_or-set_same counts place (k + 1) 0 inside

    pub each_noted : Each counts → Each (set counts place (k + 1))
    each_noted each = λ i node at some.
        elim (i == place) as (λ b. b ≡ (i == place) → (get_or (set counts place (k + 1)) i 0 ≤ length changes) × (get_or changes (get_or (set counts place (k + 1)) i 0 - 1) 0 ≡ (get_or nodes i node).number)) [
          | true ↦ λ t.
              let same : i ≡ place = grind (arith, nat_tests) in
              let is = here i same in
              let number = found_number nodes (get_or changes k 0) (get_or nodes place node) (found_at (λ (n : Node). n.number == get_or changes k 0) nodes place node found) in
              let less : (k + 1) - 1 ≡ k = omega arith in
              (omega (arith, is, within), ap (λ c. get_or changes (c - 1) 0) is ∙ (ap (λ c. get_or changes c 0) less ∙ (sym number ∙ ap (λ j. (get_or nodes j node).number) (sym same))))
          | false ↦ λ t.
              let other : i ≢ place = grind (arith, nat_tests) in
              let is : get_or (set counts place (k + 1)) i 0 ≡ get_or counts i 0 = get_or-set_other counts place i (k + 1) 0 other in
              let was = each i node at (λ zero. some (is ∙ zero)) in
              (omega (arith, is, was.0), ap (λ c. get_or changes (c - 1) 0) is ∙ was.1)
        ] refl

    pub all_noted : All k counts → All (k + 1) (set counts place (k + 1))
    all_noted all = λ i j node at less is zero.
        elim (i == place) as (λ b. b ≡ (i == place) → ⊥) [
          | true ↦ λ t. let same : i ≡ place = grind (arith, nat_tests) in absurd (omega (arith, here i same, zero))
          | false ↦ λ t.
              let other : i ≢ place = grind (arith, nat_tests) in
              let old : get_or counts i 0 ≡ 0 = sym (get_or-set_other counts place i (k + 1) 0 other) ∙ zero in
              elim (cases_lt j k) [
                | inl before ↦ all i j node at before is old
                | inr past ↦
                    let last : j ≡ k = omega (arith, less, past) in
                    let e : Some i ≡ Some place = place_is nodes (get_or changes k 0) i node rising at (sym is ∙ ap (λ n. get_or changes n 0) last) ∙ found in
                    absurd (other (cc))
              ]
        ] refl

  -- the number of no change
  pub all_passed : position (λ (n : Node). n.number == get_or changes k 0) nodes ≡ None → All k counts → All (k + 1) counts
  all_passed none all = λ i j node at less is. elim (cases_lt j k) [
    | inl before ↦ all i j node at before is
    | inr past ↦
        let last : j ≡ k = omega (arith, less, past) in
        let e : Some i ≡ None = place_is nodes (get_or changes k 0) i node rising at (sym is ∙ ap (λ n. get_or changes n 0) last) ∙ none in
        absurd (cc)
  ]

  -- what is noted at one change of the way
  pub step_noted : (new : List ℕ) → (position (λ (n : Node). n.number == get_or changes k 0) nodes ≡ None → new ≡ counts)
      → ((place : ℕ) → position (λ (n : Node). n.number == get_or changes k 0) nodes ≡ Some place → new ≡ set counts place (k + 1))
      → Each counts → All k counts → (length new ≡ length nodes) × (Each new × All (k + 1) new)
  step_noted new none some each all =
      elim (position (λ (n : Node). n.number == get_or changes k 0) nodes) as (λ o. position (λ (n : Node). n.number == get_or changes k 0) nodes ≡ o → (length new ≡ length nodes) × (Each new × All (k + 1) new)) [
        | None ↦ λ is.
            let same = sym (none is) in
            (ap length (none is) ∙ long, (subst Each same each, subst (All (k + 1)) same (all_passed is all)))
        | Some place ↦ λ is.
            let same = sym (some place is) in
            (ap length (some place is) ∙ (length-set counts place (k + 1) ∙ long), (subst Each same (each_noted place is each), subst (All (k + 1)) same (all_noted place is all)))
      ] refl

module _ (nodes : List Node) (way counts : List ℕ) (are : AreCounts nodes way counts) (place number : ℕ) (found : position (λ (n : Node). n.number == number) nodes ≡ Some place) where
  abbrev none : Node
  none = record { number = 0; parent = 0; last_child = 0; time = 0; save = 0; entries = [] }

  within_nodes : place < length nodes
  within_nodes = (at_place (λ (n : Node). n.number == number) nodes place found).0

  has_number : (get_or nodes place none).number ≡ number
  has_number = found_number nodes number (get_or nodes place none) (found_at (λ (n : Node). n.number == number) nodes place none found)

  pub count_there : (k : ℕ) → k ≡ get_or counts place k → k ≡ get_or counts place 0
  count_there k is = is ∙ get_or_default counts place k 0 (omega (arith, are.count, within_nodes))

  -- a state with a count lies on the way
  pub counted_on : get_or counts place 0 ≢ 0 → (get_or counts place 0 - 1 ≤ length way) × (start (drop (get_or counts place 0 - 1) way) ≡ number)
  counted_on some =
      let at = are.each place none within_nodes some in
      let last = get_or counts place 0 - 1 in
      let inside : last < length way = omega (arith, at.0, some_less (get_or counts place 0) some) in
      (omega (arith, inside), ap start (drop_more way last 0 inside) ∙ (at.1 ∙ has_number))
    where
      some_less : (n : ℕ) → n ≢ 0 → 0 < n
      some_less zero some = absurd (some refl)
      some_less (suc n) some = omega arith

  -- one without lies elsewhere
  pub counted_off : get_or counts place 0 ≡ 0 → is_on way number ≡ false
  counted_off zero_is =
      elim (is_on way number) as (λ b. is_on way number ≡ b → is_on way number ≡ false) [
        | true ↦ λ on.
            let cut = cut_at way number on in
            let before = cut.0 in
            let is : way ≡ before ++ number ∷ cut.1.0 = cut.1.1 in
            let inside : length before < length way = omega (arith, ap length is, length-append before (number ∷ cut.1.0)) in
            let here : get_or way (length before) 0 ≡ number = ap (λ xs. get_or xs (length before) 0) is ∙ get_or-append_seam before number cut.1.0 in
            absurd (are.all place (length before) none within_nodes inside (here ∙ sym has_number) zero_is)
        | false ↦ λ off. off
      ] refl
    where
      get_or-append_seam : (xs : List ℕ) (y : ℕ) (ys : List ℕ) → get_or (xs ++ y ∷ ys) (length xs) 0 ≡ y
      get_or-append_seam [] y ys = refl
      get_or-append_seam (x ∷ xs) y ys = get_or-append_seam xs y ys

-- a state that is kept and is not the root has a place
pub kept_found : (nodes : List Node) (number : ℕ) → IsKept nodes number → number ≢ 0 → position (λ (n : Node). n.number == number) nodes ≡ None → ⊥
kept_found nodes number kept some none = elim kept [
  | inl zero_is ↦ some zero_is
  | inr is ↦ let e : false ≡ true = place_some nodes number None none ∙ is in cc
]
