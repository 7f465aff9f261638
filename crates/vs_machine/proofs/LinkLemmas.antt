-- What a tree says of moves, it says without its entries: each word on moves passes through a tree that has none.
use Rattle.std.proofs.Common.{◌≡◌, ℕ, zero, suc, ◌-◌, ◌==◌, ◌&&◌, ◌||◌, nat_lt, max, min, if◌then◌else◌, true, false, List, [], ◌∷◌, length, map, get_or, Option, Some, None, Ok, Err, option_map, unwrap_or, is_some, ap, ◌∙◌, refl}
use Rattle.std.specs.List.{find, filter}
use Rattle.std.proofs.lemmas.List.{length-map}
use Rattle.vs_undo.specs.declared.parts.Node.{Node}
use Rattle.vs_undo.specs.declared.parts.Parts.{Parts}
use Rattle.vs_undo.specs.declared.error.UndoErr.TheVariants.{NotKept, AtOldest, AtNewest}
use Rattle.vs_undo.specs.History.{links_of, without_entries}
use Rattle.vs_undo.specs.Numbers.{above, below, numbers}
use Rattle.vs_undo.specs.Sound.{child_of}
use Rattle.vs_undo.specs.Ways.{node_at, parent_at, save_at, start}
use Rattle.vs_undo.specs.Writes.{earlier_save, earlier_write, later_save, later_write, lesser, last_number, nth_save_above, nth_save_below, save_above, save_below, save_on, saver}
use Rattle.vs_undo.proofs.NodeLemmas.{at-links_of, parent_at-links_of}
use Rattle.vs_machine.specs.Moves.{found_or, goal_of, is_kept}
use Rattle.vs_undo.specs.Ways.{way_of, way_within}
use Rattle.vs_machine.specs.declared.moves.Move.{Move}
use Rattle.vs_machine.specs.declared.moves.Move.TheVariants.{Back, To, Forward, Earlier, Later, EarlierWrites, LaterWrites}

abbrev pub bare : List Node → List Node
bare nodes = map without_entries nodes

-- a field that is no entry
field_in : {Y : Type 0} (field : Node → Y) → ((node : Node) → field (without_entries node) ≡ field node) → (o : Option Node) → option_map field (option_map without_entries o) ≡ option_map field o
field_in field same None = refl
field_in field same (Some node) = ap Some (same node)

field_at : {Y : Type 0} (field : Node → Y) → ((node : Node) → field (without_entries node) ≡ field node) → (nodes : List Node) (k : ℕ) → option_map field (node_at (bare nodes) k) ≡ option_map field (node_at nodes k)
field_at field same nodes k = ap (option_map field) (at-links_of nodes k) ∙ field_in field same (node_at nodes k)

some_in : (o : Option Node) → is_some (option_map without_entries o) ≡ is_some o
some_in None = refl
some_in (Some node) = refl

pub kept-bare : (nodes : List Node) (k : ℕ) → is_kept (bare nodes) k ≡ is_kept nodes k
kept-bare nodes k = ap (λ b. (k == 0) || b) (ap is_some (at-links_of nodes k) ∙ some_in (node_at nodes k))

child-bare : (parts : Parts) (k : ℕ) → child_of (links_of parts) k ≡ child_of parts k
child-bare parts k = ap (λ o. if k == 0 then parts.root_child else unwrap_or o 0) (field_at (λ (n : Node). n.last_child) (λ _. refl) parts.nodes k)

save_at-bare : (nodes : List Node) (k : ℕ) → save_at (bare nodes) k ≡ save_at nodes k
save_at-bare nodes k = ap (λ o. unwrap_or o 0) (field_at (λ (n : Node). n.save) (λ _. refl) nodes k)

changes-bare : (nodes : List Node) → map (λ (n : Node). n.number) (bare nodes) ≡ map (λ (n : Node). n.number) nodes
changes-bare [] = refl
changes-bare (node ∷ nodes) = ap (λ ns. node.number ∷ ns) (changes-bare nodes)

numbers-bare : (nodes : List Node) → numbers (bare nodes) ≡ numbers nodes
numbers-bare nodes = ap (λ ns. 0 ∷ ns) (changes-bare nodes)

below-bare : (nodes : List Node) (k : ℕ) → below (bare nodes) k ≡ below nodes k
below-bare nodes k = ap (filter (λ n. nat_lt n k)) (numbers-bare nodes)

above-bare : (nodes : List Node) (k : ℕ) → above (bare nodes) k ≡ above nodes k
above-bare nodes k = ap (filter (λ n. nat_lt k n)) (numbers-bare nodes)

last-bare : (nodes : List Node) → last_number (bare nodes) ≡ last_number nodes
last-bare nodes = ap (λ ns. get_or ns (length (bare nodes)) 0) (numbers-bare nodes) ∙ ap (λ n. get_or (numbers nodes) n 0) (length-map nodes without_entries)

save_below-bare : (nodes : List Node) (bound : ℕ) → save_below (bare nodes) bound ≡ save_below nodes bound
save_below-bare [] bound = refl
save_below-bare (node ∷ nodes) bound = ap (λ s. max (if nat_lt node.save bound then node.save else 0) s) (save_below-bare nodes bound)

nth_below-bare : (nodes : List Node) (by bound : ℕ) → nth_save_below (bare nodes) by bound ≡ nth_save_below nodes by bound
nth_below-bare nodes zero bound = refl
nth_below-bare nodes (suc by) bound = nth_below-bare nodes by (save_below (bare nodes) bound) ∙ ap (nth_save_below nodes by) (save_below-bare nodes bound)

save_above-bare : (nodes : List Node) (bound : ℕ) → save_above (bare nodes) bound ≡ save_above nodes bound
save_above-bare [] bound = refl
save_above-bare (node ∷ nodes) bound = ap (λ s. lesser (if nat_lt bound node.save then node.save else 0) s) (save_above-bare nodes bound)

nth_above-bare : (nodes : List Node) (by bound : ℕ) → nth_save_above (bare nodes) by bound ≡ nth_save_above nodes by bound
nth_above-bare nodes zero bound = refl
nth_above-bare nodes (suc by) bound =
    ap (λ s. if save_above (bare nodes) bound == 0 then 0 else s) (nth_above-bare nodes by (save_above (bare nodes) bound))
    ∙ ap (λ s. if s == 0 then 0 else nth_save_above nodes by s) (save_above-bare nodes bound)

save_on-bare : (nodes : List Node) (way : List ℕ) → save_on (bare nodes) way ≡ save_on nodes way
save_on-bare nodes [] = refl
save_on-bare nodes (number ∷ way) = ap (λ s. max s (save_on (bare nodes) way)) (save_at-bare nodes number) ∙ ap (λ s. max (save_at nodes number) s) (save_on-bare nodes way)

saver_in : (nodes : List Node) (save : ℕ) → option_map (λ (n : Node). n.number) (find (λ (n : Node). n.save == save) (bare nodes)) ≡ option_map (λ (n : Node). n.number) (find (λ (n : Node). n.save == save) nodes)
saver_in [] save = refl
saver_in (node ∷ nodes) save =
    elim (node.save == save) as (λ b. option_map (λ (n : Node). n.number) (if b then Some (without_entries node) else find (λ (n : Node). n.save == save) (bare nodes))
    ≡ option_map (λ (n : Node). n.number) (if b then Some node else find (λ (n : Node). n.save == save) nodes)) [ true ↦ refl | false ↦ saver_in nodes save ]

saver-bare : (nodes : List Node) (save : ℕ) → saver (bare nodes) save ≡ saver nodes save
saver-bare nodes save = ap (λ o. unwrap_or o 0) (saver_in nodes save)

earlier_save-bare : (nodes : List Node) (way : List ℕ) (by : ℕ) → earlier_save (bare nodes) way by ≡ earlier_save nodes way by
earlier_save-bare nodes way by =
    ap (λ own. if own == 0 then nth_save_below (bare nodes) (by - 1) (save_on (bare nodes) way) else nth_save_below (bare nodes) by own) (save_at-bare nodes (start way))
    ∙ (ap (λ s. if save_at nodes (start way) == 0 then s else nth_save_below (bare nodes) by (save_at nodes (start way)))
    (nth_below-bare nodes (by - 1) (save_on (bare nodes) way) ∙ ap (nth_save_below nodes (by - 1)) (save_on-bare nodes way))
    ∙ ap (λ s. if save_at nodes (start way) == 0 then nth_save_below nodes (by - 1) (save_on nodes way) else s) (nth_below-bare nodes by (save_at nodes (start way))))

later_save-bare : (nodes : List Node) (way : List ℕ) (by : ℕ) → later_save (bare nodes) way by ≡ later_save nodes way by
later_save-bare nodes way by =
    let belongs = ap (λ own. if own == 0 then save_on (bare nodes) way else own) (save_at-bare nodes (start way))
    ∙ ap (λ s. if save_at nodes (start way) == 0 then s else save_at nodes (start way)) (save_on-bare nodes way) in
    nth_above-bare nodes by _ ∙ ap (nth_save_above nodes by) belongs

earlier_write-bare : (nodes : List Node) (way : List ℕ) (by : ℕ) → earlier_write (bare nodes) way by ≡ earlier_write nodes way by
earlier_write-bare nodes way by =
    ap (λ s. if s == 0 then 0 else saver (bare nodes) s) (earlier_save-bare nodes way by)
    ∙ ap (λ s. if earlier_save nodes way by == 0 then 0 else s) (saver-bare nodes (earlier_save nodes way by))

later_write-bare : (nodes : List Node) (way : List ℕ) (by : ℕ) → later_write (bare nodes) way by ≡ later_write nodes way by
later_write-bare nodes way by =
    ap (λ s. if s == 0 then last_number (bare nodes) else saver (bare nodes) s) (later_save-bare nodes way by)
    ∙ (ap (λ n. if later_save nodes way by == 0 then n else saver (bare nodes) (later_save nodes way by)) (last-bare nodes)
    ∙ ap (λ s. if later_save nodes way by == 0 then last_number nodes else s) (saver-bare nodes (later_save nodes way by)))

-- one step of a way
step-bare : (most k : ℕ) (nodes : List Node) → ((p : ℕ) → way_within most (bare nodes) p ≡ way_within most nodes p) → (o : Option ℕ)
    → unwrap_or (option_map (λ p. k ∷ way_within most (bare nodes) p) o) [] ≡ unwrap_or (option_map (λ p. k ∷ way_within most nodes p) o) []
step-bare most k nodes on None = refl
step-bare most k nodes on (Some p) = ap (λ (way : List ℕ). k ∷ way) (on p)

within-bare : (most : ℕ) (nodes : List Node) (k : ℕ) → way_within most (bare nodes) k ≡ way_within most nodes k
within-bare zero nodes k = refl
within-bare (suc most) nodes k =
    ap (λ o. unwrap_or (option_map (λ p. k ∷ way_within most (bare nodes) p) o) []) (parent_at-links_of nodes k)
    ∙ step-bare most k nodes (within-bare most nodes) (parent_at nodes k)

pub way-bare : (nodes : List Node) (k : ℕ) → way_of (bare nodes) k ≡ way_of nodes k
way-bare nodes k = ap (λ most. way_within most (bare nodes) k) (length-map nodes without_entries) ∙ within-bare (length nodes) nodes k

-- where a move leads
pub goal-links_of : (step : Move) (parts : Parts) → goal_of step (links_of parts) ≡ goal_of step parts
goal-links_of Back parts = ap (found_or AtOldest) (parent_at-links_of parts.nodes parts.current)
goal-links_of (To number) parts = ap (λ b. if b then Ok number else Err (NotKept number)) (kept-bare parts.nodes number)
goal-links_of Forward parts = ap (λ child. if child == 0 then Err AtNewest else Ok child) (child-bare parts parts.current)
goal-links_of (Earlier by) parts = ap (λ (ns : List ℕ). if length ns == 0 then Err AtOldest else Ok (get_or ns (length ns - by) 0)) (below-bare parts.nodes parts.current)
goal-links_of (Later by) parts = ap (λ (ns : List ℕ). if length ns == 0 then Err AtNewest else Ok (get_or ns (min by (length ns) - 1) 0)) (above-bare parts.nodes parts.current)
goal-links_of (EarlierWrites by) parts =
    ap (λ way. if (earlier_save (bare parts.nodes) way by == 0) && (parts.current == 0) then Err AtOldest else Ok (earlier_write (bare parts.nodes) way by)) (way-bare parts.nodes parts.current)
    ∙ (let way = way_of parts.nodes parts.current in ap (λ s. if (s == 0) && (parts.current == 0) then Err AtOldest else Ok (earlier_write (bare parts.nodes) way by)) (earlier_save-bare parts.nodes way by)
    ∙ ap (λ n. if (earlier_save parts.nodes way by == 0) && (parts.current == 0) then Err AtOldest else Ok n) (earlier_write-bare parts.nodes way by))
goal-links_of (LaterWrites by) parts =
    ap (λ way. if (later_save (bare parts.nodes) way by == 0) && (parts.current == last_number (bare parts.nodes)) then Err AtNewest else Ok (later_write (bare parts.nodes) way by)) (way-bare parts.nodes parts.current)
    ∙ (let way = way_of parts.nodes parts.current in ap (λ s. if (s == 0) && (parts.current == last_number (bare parts.nodes)) then Err AtNewest else Ok (later_write (bare parts.nodes) way by)) (later_save-bare parts.nodes way by)
    ∙ (ap (λ n. if (later_save parts.nodes way by == 0) && (parts.current == n) then Err AtNewest else Ok (later_write (bare parts.nodes) way by)) (last-bare parts.nodes)
    ∙ ap (λ n. if (later_save parts.nodes way by == 0) && (parts.current == last_number parts.nodes) then Err AtNewest else Ok n) (later_write-bare parts.nodes way by)))
