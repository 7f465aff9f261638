-- Where a change is the first one and has one child at most, that child alone gets another parent.
use Rattle.std.proofs.Common.{◌≡◌, ◌≢◌, ◌↔◌, ℕ, suc, ◌+◌, ◌<◌, ◌==◌, not, if◌then◌else◌, List, [], ◌∷◌, length, get_or, map, drop, Some, option_map, true, false, sym, ap, subst, ◌∙◌, arith, refl, length-drop}
use Rattle.std.specs.List.{filter, position}
use Rattle.std.specs.List.Sorted.{IsStrictlyIncreasing}
use Rattle.std.proofs.lemmas.Bool.Decides.{nat_tests}
use Rattle.std.proofs.lemmas.List.{get_or-drop}
use Rattle.std.proofs.lemmas.List.Kept.{AllPairs-from_increasing}
use Rattle.vs_undo.specs.declared.parts.Node.{Node}
use Rattle.vs_undo.specs.Beside.{at_root}
use Rattle.vs_undo.specs.Forgetting.{raised}
use Rattle.vs_undo.specs.History.{changed}
use Rattle.vs_undo.specs.Numbers.{numbers}
use Rattle.vs_undo.specs.Ways.{parent_at}
use Rattle.vs_undo.proofs.ForkLemmas.{none}
use Rattle.vs_undo.proofs.NodeLemmas.{at_place}
use Rattle.vs_undo.proofs.NumberLemmas.{length_numbers, number_at}
use Rattle.vs_undo.proofs.PartLemmas.{only_rising}
use Rattle.vs_undo.proofs.SearchLemmas.{index_found}
use Rattle.vs_undo.proofs.TakeLemmas.{taken_out}

-- a change with another parent stays
raised_other : (child : ℕ) (node : Node) → node.parent ≢ child → raised child node ≡ node
raised_other child node other = let e : (node.parent == child) ≡ false = grind (arith, nat_tests) in ap (λ b. if b then record node { parent = 0 } else node) e

raised_none : (child : ℕ) (nodes : List Node) → ((k : ℕ) → k < length nodes → (get_or nodes k none).parent ≢ child) → map (raised child) nodes ≡ nodes
raised_none child [] other = refl
raised_none child (node ∷ nodes) other =
    ap (λ (n : Node). n ∷ map (raised child) nodes) (raised_other child node (other 0 (omega arith)))
    ∙ ap (λ (ns : List Node). node ∷ ns) (raised_none child nodes (λ k within. other (suc k) (omega (arith, within))))

-- Among changes in order, those whose parent is this child are those with this number.
record IsOnly (child only : ℕ) (nodes : List Node) : Type 0 where
  is : (k : ℕ) → k < length nodes → (get_or nodes k none).parent ≡ child → (get_or nodes k none).number ≡ only
  has : (k : ℕ) → k < length nodes → (get_or nodes k none).number ≡ only → (get_or nodes k none).parent ≡ child
  up : (a b : ℕ) → a < b → b < length nodes → (get_or nodes a none).number < (get_or nodes b none).number

raised_only : (child only : ℕ) (nodes : List Node) → IsOnly child only nodes → changed only at_root nodes ≡ map (raised child) nodes
raised_only child only [] are = refl
raised_only child only (node ∷ nodes) are =
    elim (node.number == only) as (λ b. b ≡ (node.number == only) → (if b then at_root node ∷ nodes else node ∷ changed only at_root nodes) ≡ raised child node ∷ map (raised child) nodes) [
      | true ↦ λ t.
          let here : node.number ≡ only = grind (arith, nat_tests) in
          let own : node.parent ≡ child = are.has 0 (omega arith) here in
          let e : (node.parent == child) ≡ true = grind (arith, nat_tests) in
          let others = raised_none child nodes (λ k within same. absurd (let n = are.is (suc k) (omega (arith, within)) same in let less = are.up 0 (suc k) (omega arith) (omega (arith, within)) in omega (arith, n, less, here))) in
          ap (λ b. (if b then record node { parent = 0 } else node) ∷ nodes) (sym e) ∙ ap (λ (ns : List Node). raised child node ∷ ns) (sym others)
      | false ↦ λ t.
          let other : node.number ≢ only = grind (arith, nat_tests) in
          let rest = raised_only child only nodes (record {
            is = λ k within. are.is (suc k) (omega (arith, within));
            has = λ k within. are.has (suc k) (omega (arith, within));
            up = λ a b less within. are.up (suc a) (suc b) (omega (arith, less)) (omega (arith, within));
          }) in
          ap (λ (n : Node). n ∷ changed only at_root nodes) (sym (raised_other child node (λ same. other (are.is 0 (omega arith) same)))) ∙ ap (λ (ns : List Node). raised child node ∷ ns) rest
    ] refl

module _ (nodes : List Node) (rising : IsStrictlyIncreasing (numbers nodes)) (child only : ℕ) (first : position (λ (node : Node). node.number == child) nodes ≡ Some 0)
    (are : (k : ℕ) → (parent_at nodes k ≡ Some child) ↔ ((only ≢ 0) × (k ≡ only))) where
  abbrev rest : List Node
  rest = drop 1 nodes

  pub some_first : 0 < length nodes
  some_first = (at_place (λ (node : Node). node.number == child) nodes 0 first).0

  taken : rest ≡ filter (λ (node : Node). not (node.number == child)) nodes
  taken = taken_out nodes rising child 0 first

  pub rest_rising : IsStrictlyIncreasing (numbers rest)
  rest_rising = subst (λ ns. IsStrictlyIncreasing (numbers ns)) (sym taken) (only_rising (λ k. not (k == child)) nodes rising)

  at_rest : (k : ℕ) → get_or rest k none ≡ get_or nodes (suc k) none
  at_rest k = get_or-drop 1 nodes k none ∙ ap (λ i. get_or nodes i none) (let e : 1 + k ≡ suc k = omega arith in e)

  inside : (k : ℕ) → k < length rest → suc k < length nodes
  inside k within = omega (arith, within, length-drop 1 nodes)

  above : (a b : ℕ) → a < b → b < length (numbers nodes) → get_or (numbers nodes) a 0 < get_or (numbers nodes) b 0
  above a b less within = AllPairs-from_increasing (numbers nodes) rising a b 0 less within

  parent_is : (k : ℕ) → k < length rest → parent_at nodes (get_or rest k none).number ≡ Some (get_or rest k none).parent
  parent_is k within =
      ap (λ (n : Node). parent_at nodes n.number) (at_rest k)
      ∙ (ap (option_map (λ (n : Node). n.parent)) (index_found nodes (suc k) none rising (inside k within)) ∙ ap (λ (n : Node). Some n.parent) (sym (at_rest k)))

  number_some : (k : ℕ) → k < length rest → (get_or rest k none).number ≢ 0
  number_some k within =
      let more = above 0 (suc (suc k)) (omega arith) (omega (arith, inside k within, length_numbers nodes)) in
      λ zero. absurd (omega (arith, more, number_at nodes (suc k) none (inside k within), ap (λ (n : Node). n.number) (at_rest k), zero))

  rest_only : IsOnly child only rest
  rest_only = record {
    is = λ k within same. ((are (get_or rest k none).number).0 (parent_is k within ∙ ap Some same)).1;
    has = λ k within same.
        let e : Some (get_or rest k none).parent ≡ Some child = sym (parent_is k within) ∙ (are (get_or rest k none).number).1 ((λ zero. number_some k within (same ∙ zero)), same) in
        cc;
    up = λ a b less within.
        let more = above (suc (suc a)) (suc (suc b)) (omega (arith, less)) (omega (arith, inside b within, length_numbers nodes)) in
        omega (arith, more, number_at nodes (suc a) none (omega (arith, less, inside b within)), number_at nodes (suc b) none (inside b within), ap (λ (n : Node). n.number) (at_rest a), ap (λ (n : Node). n.number) (at_rest b));
  }

  pub first_raised : changed only at_root rest ≡ map (raised child) (filter (λ (node : Node). not (node.number == child)) nodes)
  first_raised = raised_only child only rest rest_only ∙ ap (map (raised child)) taken
