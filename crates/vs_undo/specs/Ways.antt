-- The ways of a tree of numbered states, each a list from a state up to the root, which has the number 0 and is left out.
use Rattle.std.specs.Prelude.{ℕ, zero, suc, ◌≡◌, ◌≢◌, ◌-◌, ◌<◌, ◌≤◌, ◌==◌, ◌++◌, Bool, List, [], ◌∷◌, length, get_or, reverse, Option, Some, None}
use Rattle.std.specs.Prelude.{option_map, unwrap_or, IsSome, ◌⊎◌}
use Rattle.std.specs.List.{find, list_any}
use Rattle.vs_undo.specs.declared.parts.Node.{Node}

-- the change with this number
abbrev pub node_at : List Node → ℕ → Option Node
node_at nodes number = find (λ node. node.number == number) nodes

-- the parent of the change with this number
abbrev pub parent_at : List Node → ℕ → Option ℕ
parent_at nodes number = option_map (λ (node : Node). node.parent) (node_at nodes number)

-- a state's own save number, or 0
abbrev pub save_at : List Node → ℕ → ℕ
save_at nodes number = unwrap_or (option_map (λ (node : Node). node.save) (node_at nodes number)) 0

-- the state where a way begins
abbrev pub start : List ℕ → ℕ
start [] = 0
start (number ∷ way) = number

-- the state where a part of a way begins that ends below this state
abbrev pub start_below : List ℕ → ℕ → ℕ
start_below [] top = top
start_below (number ∷ way) top = number

-- Each state of the list has the next one as its parent, and the last one the root.
abbrev pub IsWay : (ℕ → Option ℕ) → List ℕ → Type 0
IsWay parent [] = Unit {0}
IsWay parent (number ∷ way) = (parent number ≡ Some (start way)) × IsWay parent way

-- a state lies on a way
abbrev pub is_on : List ℕ → ℕ → Bool
is_on way number = list_any (λ n. n == number) way

-- This is the way from a state up to the root.
pub record IsWayOf (nodes : List Node) (number : ℕ) (way : List ℕ) : Type 0 where
  pub is_way : IsWay (λ k. parent_at nodes k) way
  pub starts : start way ≡ number

-- the way from a state up to the root, or so many changes of it where it has more
abbrev pub way_within : ℕ → List Node → ℕ → List ℕ
way_within zero nodes number = []
way_within (suc most) nodes number = unwrap_or (option_map (λ parent. number ∷ way_within most nodes parent) (parent_at nodes number)) []

-- the way from a state up to the root, which has no more changes than there are
abbrev pub way_of : List Node → ℕ → List ℕ
way_of nodes number = way_within (length nodes) nodes number

-- The way of a state has been followed to another state, from which it goes on over so many changes at most.
pub record Follows (nodes : List Node) (number : ℕ) (way : List ℕ) (at left : ℕ) : Type 0 where
  pub rest : List ℕ
  pub is_way : IsWay (λ k. parent_at nodes k) (way ++ rest)
  pub starts : start (way ++ rest) ≡ number
  pub goes_on : start rest ≡ at
  pub short : length rest ≤ left

-- A state has a way to the root.
pub record HasWay (nodes : List Node) (number : ℕ) : Type 0 where
  pub way : List ℕ
  pub is : IsWayOf nodes number way

-- The state is kept: it is the root, or a change has its number.
abbrev pub IsKept : List Node → ℕ → Type 0
IsKept nodes number = (number ≡ 0) ⊎ IsSome (node_at nodes number)

-- No change is the root, and every way through parents ends there.
pub record IsTree (nodes : List Node) : Type 0 where
  pub root : node_at nodes 0 ≡ None
  pub ways : (number : ℕ) → IsKept nodes number → HasWay nodes number

-- The path goes up one way to where both ways meet, and down the other.
pub record IsBetween (from to path : List ℕ) : Type 0 where
  pub up : List ℕ
  pub down : List ℕ
  pub rest : List ℕ
  pub from_is : from ≡ up ++ rest
  pub to_is : to ≡ down ++ rest
  pub differ : 0 < length up → 0 < length down → get_or up (length up - 1) 0 ≢ get_or down (length down - 1) 0
  pub path_is : path ≡ up ++ reverse down
