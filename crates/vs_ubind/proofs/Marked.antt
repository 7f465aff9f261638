-- What the next write changes in the data of a file: save numbers alone.
use Rattle.std.proofs.Common.{◌≡◌, ℕ, zero, suc, ◌+◌, ◌-◌, ◌<◌, ◌≤◌, ◌==◌, ◌&&◌, not, if◌then◌else◌, Bool, true, false, List, [], ◌∷◌, length, map, reverse, option_map, unwrap_or, slice_index, get_or, refl, sym, ap, ◌∙◌, arith}
use Rattle.std.specs.List.{filter}
use Rattle.std.specs.List.Sorted.{IsStrictlyIncreasing}
use Rattle.std.proofs.lemmas.Bool.Decides.{nat_tests}
use Rattle.std.proofs.lemmas.Grind.{get_or_tail}
use Rattle.std.proofs.lemmas.List.{length-map}
use Rattle.vs_undo.specs.declared.parts.Node.{Node}
use Rattle.vs_undo.specs.declared.parts.Parts.{Parts}
use Rattle.vs_undo.specs.Ways.{node_at}
use Rattle.vs_undo.specs.Sound.{child_of}
use Rattle.vs_undo.specs.Numbers.{numbers}
use Rattle.vs_undo.specs.History.{changed, marked, next_save, unmarked, with_save}
use Rattle.vs_undo.proofs.ChangeLemmas.{seen}
use Rattle.vs_undo.proofs.MarkLemmas.{marked_differs, saveless, unmarked_number}
use Rattle.vs_ubind.specs.Unbound.{after_in, before_in, chain_of, filed, filed_change, last_save_of, newest_of, other_children, save_of, saved_change, time_of, used_within, with_next}

-- each number is above the one before it
abbrev pub Rises : ℕ → List Node → Type 0
Rises below [] = Unit {0}
Rises below (node ∷ nodes) = (below < node.number) × Rises node.number nodes

pub rises_from : (nodes : List Node) (below : ℕ) → IsStrictlyIncreasing (below ∷ map (λ (n : Node). n.number) nodes) → Rises below nodes
rises_from [] below rising = tt
rises_from (node ∷ nodes) below rising = (
  rising 0 (omega arith),
  rises_from nodes node.number (λ k within.
      let xs = node.number ∷ map (λ (n : Node). n.number) nodes in
      let one : k + 1 - 1 ≡ k = omega arith in
      let two : k + 1 + 1 - 1 ≡ k + 1 = omega arith in
      let this : slice_index (below ∷ xs) (k + 1) ≡ slice_index xs k = get_or_tail below xs (k + 1) 0 (omega arith) ∙ ap (λ i. get_or xs i 0) one in
      let next : slice_index (below ∷ xs) (k + 1 + 1) ≡ slice_index xs (k + 1) = get_or_tail below xs (k + 1 + 1) 0 (omega arith) ∙ ap (λ i. get_or xs i 0) two in
      let up = rising (k + 1) (omega (arith, within)) in
      omega (arith, this, next, up)),
)

-- ---- the changes after a write
module _ (current save : ℕ) where
  abbrev marked_one : Node → Node
  marked_one node = record node { save = if node.number == current then save else (if node.save == save then 0 else node.save) }

  other_one : (node : Node) → (node.number == current) ≡ false → marked_one node ≡ unmarked save node
  other_one node other =
      ap (λ b. record node { save = if b then save else (if node.save == save then 0 else node.save) }) other
      ∙ (elim (node.save == save) as (λ b. record node { save = if b then 0 else node.save } ≡ (if b then record node { save = 0 } else node)) [ true ↦ refl | false ↦ refl ])

  this_one : (node : Node) → (node.number == current) ≡ true → with_save save (unmarked save node) ≡ marked_one node
  this_one node this =
      (elim (node.save == save) as (λ b. with_save save (if b then record node { save = 0 } else node) ≡ record node { save = save }) [ true ↦ refl | false ↦ refl ])
      ∙ ap (λ b. record node { save = if b then save else (if node.save == save then 0 else node.save) }) (sym this)

  none_after : (nodes : List Node) (below : ℕ) → Rises below nodes → current ≤ below → map (unmarked save) nodes ≡ map marked_one nodes
  none_after [] below rises past = refl
  none_after (node ∷ nodes) below rises past =
      let other : (node.number == current) ≡ false = let up = rises.0 in grind (arith, nat_tests) in
      ap (λ n. n ∷ map (unmarked save) nodes) (sym (other_one node other)) ∙ ap (λ ns. marked_one node ∷ ns) (none_after nodes node.number rises.1 (omega (arith, rises.0, past)))

  all_marked : (nodes : List Node) (below : ℕ) → Rises below nodes → changed current (with_save save) (map (unmarked save) nodes) ≡ map marked_one nodes
  all_marked [] below rises = refl
  all_marked (node ∷ nodes) below rises =
      ap (λ n. if n == current then with_save save (unmarked save node) ∷ map (unmarked save) nodes else unmarked save node ∷ changed current (with_save save) (map (unmarked save) nodes)) (unmarked_number save node)
      ∙ (elim (node.number == current) as (λ b. b ≡ (node.number == current) → (if b then with_save save (unmarked save node) ∷ map (unmarked save) nodes else unmarked save node ∷ changed current (with_save save) (map (unmarked save) nodes)) ≡ marked_one node ∷ map marked_one nodes) [
        | true ↦ λ is. ap (λ n. n ∷ map (unmarked save) nodes) (this_one node (sym is)) ∙ ap (λ ns. marked_one node ∷ ns) (none_after nodes node.number rises.1 (let same = sym is in grind (arith, nat_tests)))
        | false ↦ λ is. ap (λ n. n ∷ changed current (with_save save) (map (unmarked save) nodes)) (sym (other_one node (sym is))) ∙ ap (λ ns. marked_one node ∷ ns) (all_marked nodes node.number rises.1)
      ] refl)

abbrev resaved : Parts → Node → Node
resaved parts node = record node { save = save_of true parts node }

same_all : (nodes : List Node) → map (λ (n : Node). record n { save = n.save }) nodes ≡ nodes
same_all [] = refl
same_all (node ∷ nodes) = ap (λ ns. node ∷ ns) (same_all nodes)

marked_nodes : (parts : Parts) → IsStrictlyIncreasing (numbers parts.nodes) → (marked parts).nodes ≡ map (resaved parts) parts.nodes
marked_nodes parts rising =
    elim (parts.current == 0) as (λ b. (if b then record parts { last_save = next_save parts } else record parts { nodes = changed parts.current (with_save (next_save parts)) (map (unmarked (next_save parts)) parts.nodes); last_save = next_save parts }).nodes
    ≡ map (λ (n : Node). record n { save = if b then n.save else (if n.number == parts.current then next_save parts else (if n.save == next_save parts then 0 else n.save)) }) parts.nodes) [
      | true ↦ sym (same_all parts.nodes)
      | false ↦ all_marked parts.current (next_save parts) parts.nodes 0 (rises_from parts.nodes 0 rising)
    ]

marked_save : (parts : Parts) → (marked parts).last_save ≡ next_save parts
marked_save parts =
    elim (parts.current == 0) as (λ b. (if b then record parts { last_save = next_save parts } else record parts { nodes = changed parts.current (with_save (next_save parts)) (map (unmarked (next_save parts)) parts.nodes); last_save = next_save parts }).last_save ≡ next_save parts) [
      | true ↦ refl
      | false ↦ refl
    ]

-- ---- what a file says of them
other_same : (parts : Parts) (nodes : List Node) (parent first : ℕ) → other_children (map (resaved parts) nodes) parent first ≡ other_children nodes parent first
other_same parts [] parent first = refl
other_same parts (node ∷ nodes) parent first =
    let p = λ (n : Node). (n.parent == parent) && not (n.number == first) in
    elim (p node) as (λ b. map (λ (n : Node). n.number) (if b then resaved parts node ∷ filter p (map (resaved parts) nodes) else filter p (map (resaved parts) nodes)) ≡ map (λ (n : Node). n.number) (if b then node ∷ filter p nodes else filter p nodes)) [
      | true ↦ ap (λ ns. node.number ∷ ns) (other_same parts nodes parent first)
      | false ↦ other_same parts nodes parent first
    ]

module _ (parts : Parts) (rising : IsStrictlyIncreasing (numbers parts.nodes)) where
  abbrev new : Parts
  new = marked parts

  child_same : (k : ℕ) → child_of new k ≡ child_of parts k
  child_same k =
      let d = marked_differs parts in
      ap (λ c. if k == 0 then c else unwrap_or (option_map (λ (node : Node). node.last_child) (node_at new.nodes k)) 0) d.root_child
      ∙ ap (λ o. if k == 0 then parts.root_child else unwrap_or o 0) (seen saveless (λ n. n.last_child) (λ _. refl) (node_at new.nodes k) (node_at parts.nodes k) (d.at k))

  chain_same : (parent : ℕ) → chain_of new parent ≡ chain_of parts parent
  chain_same parent =
      ap (λ c. c ∷ reverse (other_children new.nodes parent c)) (child_same parent)
      ∙ ap (λ os. child_of parts parent ∷ reverse os) (ap (λ ns. other_children ns parent (child_of parts parent)) (marked_nodes parts rising) ∙ other_same parts parts.nodes parent (child_of parts parent))

  used_same : (most number : ℕ) → used_within most new number ≡ used_within most parts number
  used_same zero number = refl
  used_same (suc most) number =
      ap (λ c. if c == 0 then number else used_within most new c) (child_same number)
      ∙ ap (λ n. if child_of parts number == 0 then number else n) (used_same most (child_of parts number))

  count_same : length new.nodes ≡ length parts.nodes
  count_same = ap length (marked_nodes parts rising) ∙ length-map parts.nodes (resaved parts)

  newest_same : newest_of new ≡ newest_of parts
  newest_same =
      let d = marked_differs parts in
      ap (λ n. used_within n new new.current) count_same ∙ ap (λ c. used_within (length parts.nodes) new c) d.current ∙ used_same (length parts.nodes) parts.current

  time_same : time_of new ≡ time_of parts
  time_same =
      let d = marked_differs parts in
      ap (λ c. unwrap_or (option_map (λ (node : Node). node.time) (node_at new.nodes c)) 0) d.current
      ∙ ap (λ o. unwrap_or o 0) (seen saveless (λ n. n.time) (λ _. refl) (node_at new.nodes parts.current) (node_at parts.nodes parts.current) (d.at parts.current))

  changes_same : (nodes : List Node) → map (filed_change new) (map (resaved parts) nodes) ≡ map (saved_change true parts) nodes
  changes_same [] = refl
  changes_same (node ∷ nodes) =
      ap (λ chain. record (saved_change true parts node) { alt_next = after_in chain node.number; alt_prev = before_in chain node.number } ∷ map (filed_change new) (map (resaved parts) nodes)) (chain_same node.parent)
      ∙ ap (λ cs. saved_change true parts node ∷ cs) (changes_same nodes)

  filed_marked : (digest : List ℕ) (lines : ℕ) → record (filed digest lines parts) { last_save = next_save parts; changes = map (saved_change true parts) parts.nodes } ≡ filed digest lines new
  filed_marked digest lines =
      let d = marked_differs parts in
      let head : child_of new new.current ≡ child_of parts parts.current = ap (λ c. child_of new c) d.current ∙ child_same parts.current in
      let all : map (filed_change new) new.nodes ≡ map (saved_change true parts) parts.nodes = ap (λ ns. map (filed_change new) ns) (marked_nodes parts rising) ∙ changes_same parts.nodes in
      λ i. record {
        digest = digest;
        lines = lines;
        oldest = sym d.root_child i;
        newest = sym newest_same i;
        current_head = sym head i;
        heads = sym count_same i;
        last = sym d.last i;
        current = sym d.current i;
        time = sym time_same i;
        last_save = sym (marked_save parts) i;
        changes = sym all i;
      }

-- the data for a tree, or for it after the next write
pub filed_next : (next : Bool) (digest : List ℕ) (lines : ℕ) (parts : Parts) → IsStrictlyIncreasing (numbers parts.nodes)
    → record (filed digest lines parts) { last_save = last_save_of next parts; changes = map (saved_change next parts) parts.nodes } ≡ filed digest lines (with_next next parts)
filed_next false digest lines parts rising = refl
filed_next true digest lines parts rising = filed_marked parts rising digest lines
