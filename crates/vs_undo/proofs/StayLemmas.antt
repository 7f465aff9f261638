-- The parts of a tree's soundness stay where what they speak of stays.
use Rattle.std.proofs.Common.{◌≡◌, ℕ, zero, suc, ◌+◌, ◌<◌, ◌≤◌, List, [], ◌∷◌, ◌++◌, length, get_or, map, Some, option_map, unwrap_or, inl, inr, sym, ap, subst, ◌∙◌, arith}
use Rattle.std.specs.List.Sorted.{IsStrictlyIncreasing}
use Rattle.std.proofs.lemmas.List.{map-append}
use Rattle.vs_undo.specs.declared.parts.Node.{Node}
use Rattle.vs_undo.specs.declared.parts.Parts.{Parts}
use Rattle.vs_undo.specs.Ways.{node_at, parent_at, save_at, IsKept}
use Rattle.vs_undo.specs.Numbers.{numbers}
use Rattle.vs_undo.specs.Sound.{AreNumbers, AreSaves}
use Rattle.vs_undo.proofs.ChangeLemmas.{seen, was_there}
use Rattle.vs_undo.proofs.MoveLemmas.{kept_same}
use Rattle.vs_undo.proofs.NumberLemmas.{increasing_push, index_kept, length_numbers, number_at}

-- the save number of a state is seen through what leaves it
pub save_seen : (f : Node → Node) → ((node : Node) → (f node).save ≡ node.save) → (new old : List Node) (k : ℕ) → option_map f (node_at new k) ≡ option_map f (node_at old k) → save_at new k ≡ save_at old k
save_seen f same new old k e = ap (λ o. unwrap_or o 0) (seen f (λ n. n.save) same (node_at new k) (node_at old k) e)

pub saves_same : (new old : Parts) → ((k : ℕ) → save_at new.nodes k ≡ save_at old.nodes k) → new.last_save ≡ old.last_save → AreSaves old → AreSaves new
saves_same new old same last saves = record {
  differ = λ a b some is. saves.differ a b (λ e. some (same a ∙ e)) (sym (same a) ∙ (is ∙ same b));
  below = λ k. omega (arith, same k, last, saves.below k);
  last = omega (arith, last, saves.last);
}

-- a state that is kept was kept
pub kept_before : (new old : List Node) → ((k : ℕ) → parent_at new k ≡ parent_at old k) → (k : ℕ) → IsKept new k → IsKept old k
kept_before new old same k kept = elim kept [ inl at_root ↦ inl at_root | inr some ↦ inr (kept_same (node_at new k) (node_at old k) (same k) some) ]

pub numbers_same : (new old : Parts) → map (λ (n : Node). n.number) new.nodes ≡ map (λ (n : Node). n.number) old.nodes → ((k : ℕ) → IsKept new.nodes k → IsKept old.nodes k) → new.last ≡ old.last
    → AreNumbers old → AreNumbers new
numbers_same new old same was last are = record {
  rising = subst (λ ns. IsStrictlyIncreasing (0 ∷ ns)) (sym same) are.rising;
  below = λ k kept. omega (arith, are.below k (was k kept), last);
  read = λ k kept. are.read k (was k kept);
  last = omega (arith, are.last, last);
}

pub entries_same : (f : Node → Node) → ((node : Node) → (f node).entries ≡ node.entries) → (new old : List Node) → ((k : ℕ) → option_map f (node_at new k) ≡ option_map f (node_at old k))
    → ((k : ℕ) (node : Node) → node_at old k ≡ Some node → 0 < length node.entries) → (k : ℕ) (node : Node) → node_at new k ≡ Some node → 0 < length node.entries
entries_same f same new old at entries k node is =
    let was = was_there f (node_at old k) (f node) (sym (at k) ∙ ap (option_map f) is) in
    let e : length was.0.entries ≡ length node.entries = ap length (sym (same was.0) ∙ (ap (λ (n : Node). n.entries) was.1.1 ∙ same node)) in
    omega (arith, e, entries k was.0 was.1.0)

-- no number of the list is above the last
pub bound : (parts : Parts) → AreNumbers parts → (k : ℕ) → k < length (numbers parts.nodes) → get_or (numbers parts.nodes) k 0 ≤ parts.last
bound parts are zero within = omega arith
bound parts are (suc k) within =
    let none : Node = record { number = 0; parent = 0; last_child = 0; time = 0; save = 0; entries = [] } in
    let inside : k < length parts.nodes = omega (arith, length_numbers parts.nodes) in
    omega (arith, are.below (get_or parts.nodes k none).number (index_kept parts.nodes k none inside), number_at parts.nodes k none inside)

-- a change with the next number is the last of all
pub grown_rising : (parts : Parts) (node : Node) → AreNumbers parts → node.number ≡ parts.last + 1 → IsStrictlyIncreasing (numbers (parts.nodes ++ node ∷ []))
grown_rising parts node are is =
    let more = increasing_push (numbers parts.nodes) node.number parts.last are.rising (bound parts are) (omega arith) in
    subst (λ ns. IsStrictlyIncreasing (0 ∷ ns)) (sym (map-append (λ (n : Node). n.number) parts.nodes (node ∷ []))) more
