-- States with several children, after a change and after a forgetting step.
use Rattle.std.proofs.Common.{◌≡◌, ◌≢◌, ℕ, ◌+◌, ◌<◌, ◌≤◌, ◌==◌, List, [], length, get_or, Some, None, true, false, ◌⊎◌, inl, inr, sym, ap, ◌∙◌, arith, refl}
use Rattle.std.specs.List.{position}
use Rattle.std.specs.List.Sorted.{IsStrictlyIncreasing}
use Rattle.std.proofs.lemmas.Bool.Decides.{nat_tests}
use Rattle.vs_entries.specs.declared.entry.Entry.{Entry}
use Rattle.vs_undo.specs.declared.parts.Node.{Node}
use Rattle.vs_undo.specs.declared.parts.Parts.{Parts}
use Rattle.vs_undo.specs.Forgetting.{has_other_child, nodes_through, promoted}
use Rattle.vs_undo.specs.Forks.{IsStraightBelow}
use Rattle.vs_undo.specs.History.{pushed}
use Rattle.vs_undo.specs.Numbers.{numbers}
use Rattle.vs_undo.specs.Sound.{child_of, IsSound}
use Rattle.vs_undo.specs.Ways.{node_at, parent_at, is_on, way_of}
use Rattle.vs_undo.proofs.ChangeLemmas.{was_there}
use Rattle.vs_undo.proofs.DepthLemmas.{number_of}
use Rattle.vs_undo.proofs.ForgetLemmas.{other_there}
use Rattle.vs_undo.proofs.NodeLemmas.{at_place, found_at, no_place}
use Rattle.vs_undo.proofs.PartLemmas.{only_parent_was}
use Rattle.vs_undo.proofs.PromoteLemmas.{parent_was as promoted_parent, up_from, up_other, up_child, or_child}
use Rattle.vs_undo.proofs.PushLemmas.{parent_was, parent_after}

abbrev pub none : Node
none = record { number = 0; parent = 0; last_child = 0; time = 0; save = 0; entries = [] }

-- a change with a parent has a place
placed : (nodes : List Node) (k p : ℕ) → parent_at nodes k ≡ Some p → (i : ℕ) × ((i < length nodes) × (((get_or nodes i none).number ≡ k) × ((get_or nodes i none).parent ≡ p)))
placed nodes k p is =
    let test = λ (n : Node). n.number == k in
    let there = was_there (λ (n : Node). n.parent) (node_at nodes k) p is in
    elim (position test nodes) as (λ o. position test nodes ≡ o → (i : ℕ) × ((i < length nodes) × (((get_or nodes i none).number ≡ k) × ((get_or nodes i none).parent ≡ p)))) [
      | None ↦ λ at. absurd (let e : None ≡ Some there.0 = sym (no_place test nodes at) ∙ there.1.0 in cc)
      | Some i ↦ λ at.
          let found = found_at test nodes i none at in
          let e : Some (get_or nodes i none) ≡ Some there.0 = sym found ∙ there.1.0 in
          let same : get_or nodes i none ≡ there.0 = cc in
          (i, ((at_place test nodes i at).0, (number_of nodes k (get_or nodes i none) found, ap (λ (n : Node). n.parent) same ∙ there.1.1)))
    ] refl

-- Each of the first so many changes whose parent has a lesser number than this is the child last used of it.
abbrev pub AreLastUsed : Parts → ℕ → ℕ → Type 0
AreLastUsed parts count fork =
    (i : ℕ) → i < count → (get_or parts.nodes i none).parent < fork → child_of parts (get_or parts.nodes i none).parent ≡ (get_or parts.nodes i none).number

pub straight_below : (parts : Parts) (fork : ℕ) → AreLastUsed parts (length parts.nodes) fork → IsStraightBelow fork parts.nodes
straight_below parts fork are = λ a b p less is_a is_b. sym (last_is a p less is_a) ∙ last_is b p less is_b
  where
    last_is : (k p : ℕ) → p < fork → parent_at parts.nodes k ≡ Some p → child_of parts p ≡ k
    last_is k p less is =
        let at = placed parts.nodes k p is in
        ap (child_of parts) (sym at.1.1.1) ∙ (are at.0 at.1.0 (omega (arith, less, at.1.1.1)) ∙ at.1.1.0)

-- one more change is the child last used of its parent, or its parent has no lesser number
pub last_used_more : (parts : Parts) (count was fork : ℕ) → fork ≤ was → AreLastUsed parts count was
    → ((get_or parts.nodes count none).parent < fork → child_of parts (get_or parts.nodes count none).parent ≡ (get_or parts.nodes count none).number)
    → AreLastUsed parts (count + 1) fork
last_used_more parts count was fork fits are here = λ i within less.
    elim (i == count) as (λ b. b ≡ (i == count) → child_of parts (get_or parts.nodes i none).parent ≡ (get_or parts.nodes i none).number) [
      | true ↦ λ t.
          let same : i ≡ count = grind (arith, nat_tests) in
          ap (λ k. child_of parts (get_or parts.nodes k none).parent) same ∙ (here (omega (arith, less, ap (λ k. (get_or parts.nodes k none).parent) same)) ∙ ap (λ k. (get_or parts.nodes k none).number) (sym same))
      | false ↦ λ t. let d : i ≢ count = grind (arith, nat_tests) in are i (omega (arith, d)) (omega (arith, less, fits))
    ] refl

pub pushed_straight : (entries : List Entry) (time : ℕ) (parts : Parts) (sound : IsSound parts) (was fork : ℕ) → fork ≤ was → (child_of parts parts.current ≢ 0 → fork ≤ parts.current)
    → IsStraightBelow was parts.nodes → IsStraightBelow fork (pushed entries time parts).nodes
pushed_straight entries time parts sound was fork fits own straight = λ a b p less is_a is_b.
    elim (from a p is_a) [
      | inl old_a ↦ elim (from b p is_b) [
        | inl old_b ↦ straight a b p (omega (arith, less, fits)) old_a old_b
        | inr new_b ↦ absurd (beside a p less old_a new_b.1)
      ]
      | inr new_a ↦ elim (from b p is_b) [
        | inl old_b ↦ absurd (beside b p less old_b new_a.1)
        | inr new_b ↦ new_a.0 ∙ sym new_b.0
      ]
    ]
  where
    from : (k p : ℕ) → parent_at (pushed entries time parts).nodes k ≡ Some p → (parent_at parts.nodes k ≡ Some p) ⊎ ((k ≡ parts.last + 1) × (p ≡ parts.current))
    from k p is = parent_was entries time parts sound k p (sym (parent_after entries time parts sound k) ∙ is)

    beside : (k p : ℕ) → p < fork → parent_at parts.nodes k ≡ Some p → p ≡ parts.current → ⊥
    beside k p less is same =
        let bound = own (λ e. sound.children.some p k is (ap (child_of parts) same ∙ e)) in
        absurd (omega (arith, less, same, bound))

pub no_other : (child fork : ℕ) (nodes : List Node) → IsStrictlyIncreasing (numbers nodes) → parent_at nodes child ≡ Some 0 → 0 < fork → IsStraightBelow fork nodes → has_other_child child nodes ≡ false
no_other child fork nodes rising top some straight =
    elim (has_other_child child nodes) as (λ b. has_other_child child nodes ≡ b → b ≡ false) [
      | true ↦ λ is. let other = other_there child nodes rising is in absurd (other.1.1 (straight other.0 child 0 some other.1.0 top))
      | false ↦ λ is. refl
    ] refl

pub promoted_straight : (parts : Parts) (sound : IsSound parts) (child : ℕ) (top : parent_at parts.nodes child ≡ Some 0) (lone : (k : ℕ) → parent_at parts.nodes k ≡ Some 0 → k ≡ child)
    (fork : ℕ) → child < fork → IsStraightBelow fork parts.nodes → IsStraightBelow fork (promoted child parts).nodes
promoted_straight parts sound child top lone fork before straight = λ a b q less is_a is_b.
    let from_a = promoted_parent parts sound child top lone a q is_a in
    let from_b = promoted_parent parts sound child top lone b q is_b in
    elim (or_child parts sound child top lone from_a.1.0) [
      | inl child_a ↦ elim (or_child parts sound child top lone from_b.1.0) [
        | inl child_b ↦ straight a b child before (from_a.1.1.0 ∙ ap Some child_a) (from_b.1.1.0 ∙ ap Some child_b)
        | inr other_b ↦ absurd (from_b.0 (lone b (from_b.1.1.0 ∙ ap Some (at_zero from_b.1.0 from_a.1.0 q other_b child_a from_b.1.1.1 from_a.1.1.1))))
      ]
      | inr other_a ↦ elim (or_child parts sound child top lone from_b.1.0) [
        | inl child_b ↦ absurd (from_a.0 (lone a (from_a.1.1.0 ∙ ap Some (at_zero from_a.1.0 from_b.1.0 q other_a child_b from_a.1.1.1 from_b.1.1.1))))
        | inr other_b ↦ straight a b q less
            (from_a.1.1.0 ∙ ap Some (sym (up_other parts sound child top lone from_a.1.0 other_a) ∙ from_a.1.1.1))
            (from_b.1.1.0 ∙ ap Some (sym (up_other parts sound child top lone from_b.1.0 other_b) ∙ from_b.1.1.1))
      ]
    ]
  where
    at_zero : (p r q : ℕ) → p ≢ child → r ≡ child → up_from child p ≡ q → up_from child r ≡ q → p ≡ 0
    at_zero p r q other same up_p up_r = sym (up_other parts sound child top lone p other) ∙ (up_p ∙ (sym up_r ∙ (ap (up_from child) same ∙ up_child parts sound child top lone)))

pub none_straight : (nodes : List Node) → IsStraightBelow 0 nodes
none_straight nodes = λ a b p less. absurd (omega (arith, less))

pub through_straight : (child fork : ℕ) (nodes : List Node) → IsStraightBelow fork nodes → IsStraightBelow fork (nodes_through child nodes)
through_straight child fork nodes straight = λ a b p less is_a is_b.
    let on = λ (k : ℕ). is_on (way_of nodes k) child in
    straight a b p less (only_parent_was on nodes a p is_a).1 (only_parent_was on nodes b p is_b).1

-- the parents say it alone
pub same_straight : (old new : List Node) → ((k : ℕ) → parent_at new k ≡ parent_at old k) → (fork : ℕ) → IsStraightBelow fork old → IsStraightBelow fork new
same_straight old new same fork straight = λ a b p less is_a is_b. straight a b p less (sym (same a) ∙ is_a) (sym (same b) ∙ is_b)

pub first_straight : (fork : ℕ) (nodes : List Node) → nodes ≡ [] → IsStraightBelow fork nodes
first_straight fork nodes empty = λ a b p less is_a is_b. absurd (let e : None ≡ Some p = ap (λ ns. parent_at ns a) (sym empty) ∙ is_a in cc)
