-- The change at the place of a number is the only one that has it.
use Rattle.std.proofs.Common.{◌≡◌, ℕ, suc, ◌+◌, ◌<◌, ◌==◌, not, if◌then◌else◌, cond, Bool, true, false, List, [], ◌∷◌, ◌++◌, length, get_or, take, drop, Some, None, sym, ap, ◌∙◌, arith, refl, length-drop}
use Rattle.std.specs.List.{filter, position, remove}
use Rattle.std.specs.List.Sorted.{IsStrictlyIncreasing}
use Rattle.std.proofs.lemmas.Bool.Decides.{nat_tests}
use Rattle.std.proofs.Math.Seq.{split_at}
use Rattle.std.proofs.lemmas.List.{get_or-take, get_or-drop, length-take}
use Rattle.std.proofs.lemmas.List.Elements.{filter-append}
use Rattle.std.proofs.lemmas.List.Kept.{AllPairs-from_increasing}
use Rattle.vs_undo.specs.declared.parts.Node.{Node}
use Rattle.vs_undo.specs.Ways.{node_at}
use Rattle.vs_undo.specs.Numbers.{numbers}
use Rattle.vs_undo.proofs.DepthLemmas.{number_of}
use Rattle.vs_undo.proofs.NodeLemmas.{at_place, found_at}
use Rattle.vs_undo.proofs.NumberLemmas.{length_numbers, number_at}

filter_all : (p : Node → Bool) (nodes : List Node) (d : Node) → ((k : ℕ) → k < length nodes → p (get_or nodes k d) ≡ true) → filter p nodes ≡ nodes
filter_all p [] d passes = refl
filter_all p (node ∷ nodes) d passes =
    ap (λ b. cond b (node ∷ filter p nodes) (filter p nodes)) (passes 0 (omega arith)) ∙ ap (λ (ns : List Node). node ∷ ns) (filter_all p nodes d (λ k within. passes (suc k) (omega (arith, within))))

-- a number that no change has
pub none_out : (nodes : List Node) (number : ℕ) → node_at nodes number ≡ None → nodes ≡ filter (λ (n : Node). not (n.number == number)) nodes
none_out [] number none = refl
none_out (node ∷ nodes) number none =
    elim (node.number == number) as (λ b. (if b then Some node else node_at nodes number) ≡ None → node ∷ nodes ≡ cond (not b) (node ∷ filter (λ (n : Node). not (n.number == number)) nodes) (filter (λ (n : Node). not (n.number == number)) nodes)) [
      | true ↦ λ e. absurd (cc)
      | false ↦ λ e. ap (λ (ns : List Node). node ∷ ns) (none_out nodes number e)
    ] none

module _ (nodes : List Node) (rising : IsStrictlyIncreasing (numbers nodes)) (number i : ℕ) (is : position (λ (n : Node). n.number == number) nodes ≡ Some i) where
  abbrev none : Node
  none = record { number = 0; parent = 0; last_child = 0; time = 0; save = 0; entries = [] }

  within : i < length nodes
  within = (at_place (λ (n : Node). n.number == number) nodes i is).0

  here : (get_or nodes i none).number ≡ number
  here = number_of nodes number (get_or nodes i none) (found_at (λ (n : Node). n.number == number) nodes i none is)

  up : (a b : ℕ) → a < b → b < length nodes → (get_or nodes a none).number < (get_or nodes b none).number
  up a b lt inside =
      let pair = AllPairs-from_increasing (numbers nodes) rising (suc a) (suc b) 0 (omega arith) (omega (arith, length_numbers nodes)) in
      omega (arith, pair, number_at nodes a none (omega arith), number_at nodes b none inside)

  abbrev passes : Node → Bool
  passes node = not (node.number == number)

  front : filter passes (take i nodes) ≡ take i nodes
  front = filter_all passes (take i nodes) none (λ k lt.
      let below : k < i = let h = simp length-take at lt in omega arith in
      let differ = up k i below within in
      let e : ((get_or nodes k none).number == number) ≡ false = let h = here in grind (arith, nat_tests) in
      ap passes (get_or-take i nodes k none below) ∙ ap not e)

  back : filter passes (drop (suc i) nodes) ≡ drop (suc i) nodes
  back = filter_all passes (drop (suc i) nodes) none (λ k lt.
      let inside : suc i + k < length nodes = omega (arith, length-drop (suc i) nodes) in
      let differ = up i (suc i + k) (omega arith) inside in
      let e : ((get_or nodes (suc i + k) none).number == number) ≡ false = let h = here in grind (arith, nat_tests) in
      ap passes (get_or-drop (suc i) nodes k none) ∙ ap not e)

  pub taken_out : remove nodes i ≡ filter (λ (n : Node). not (n.number == number)) nodes
  taken_out =
      let out : passes (get_or nodes i none) ≡ false = let e : ((get_or nodes i none).number == number) ≡ true = let h = here in grind (arith, nat_tests) in ap not e in
      sym (ap (filter passes) (split_at nodes i none within) ∙ (filter-append passes (take i nodes) (get_or nodes i none ∷ drop (suc i) nodes)
      ∙ (ap (λ (ns : List Node). ns ++ filter passes (get_or nodes i none ∷ drop (suc i) nodes)) front
      ∙ ap (λ (ns : List Node). take i nodes ++ ns) (ap (λ b. cond b (get_or nodes i none ∷ filter passes (drop (suc i) nodes)) (filter passes (drop (suc i) nodes))) out ∙ back))))

-- the same, where the place was looked for in a list that is equal
pub taken_at : (nodes seen : List Node) → seen ≡ nodes → IsStrictlyIncreasing (numbers nodes) → (number i : ℕ) → position (λ (n : Node). n.number == number) seen ≡ Some i
    → remove nodes i ≡ filter (λ (n : Node). not (n.number == number)) nodes
taken_at nodes seen same rising number i is = taken_out nodes rising number i (ap (position (λ (n : Node). n.number == number)) (sym same) ∙ is)
