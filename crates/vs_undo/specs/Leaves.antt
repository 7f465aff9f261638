-- The changes without children.
use Rattle.std.specs.Prelude.{ℕ, ◌≡◌, ◌≢◌, ◌<◌, ◌==◌, not, Bool, List, length, get_or, map}
use Rattle.std.specs.List.{filter, list_any, AllZip}
use Rattle.vs_undo.specs.declared.parts.Node.{Node}
use Rattle.vs_undo.specs.declared.leaves.Leaf.{Leaf}
use Rattle.vs_undo.specs.Ways.{way_of, IsWayOf}

-- some change has this state as its parent
abbrev pub has_child : List Node → ℕ → Bool
has_child nodes number = list_any (λ (node : Node). node.parent == number) nodes

-- So many changes lie on the way from a state up to the root.
pub record HasDepth (nodes : List Node) (number depth : ℕ) : Type 0 where
  pub way : List ℕ
  pub is_way : IsWayOf nodes number way
  pub changes : depth ≡ length way

-- These are the depths of the changes, each at the place of its change. A depth that is not known yet is 0.
pub record AreDepths (nodes : List Node) (depths : List ℕ) : Type 0 where
  pub count : length depths ≡ length nodes
  pub known : (place : ℕ) (node : Node) → place < length nodes → get_or depths place 0 ≢ 0
      → HasDepth nodes (get_or nodes place node).number (get_or depths place 0)

-- The leaf is this change, with its save number and the number of changes on its way to the root.
pub record IsLeaf (nodes : List Node) (node : Node) (leaf : Leaf) : Type 0 where
  pub number : leaf.number ≡ node.number
  pub save : leaf.save ≡ node.save
  pub depth : HasDepth nodes node.number leaf.changes

-- These are the changes without a child, by rising number.
abbrev pub AreLeaves : List Node → List Leaf → Type 0
AreLeaves nodes leaves = AllZip (IsLeaf nodes) (filter (λ (node : Node). not (has_child nodes node.number)) nodes) leaves

-- the leaf of a change
abbrev pub leaf_of : List Node → Node → Leaf
leaf_of nodes node = record { number = node.number; changes = length (way_of nodes node.number); save = node.save }

-- the changes without a child, by rising number
abbrev pub leaves_of : List Node → List Leaf
leaves_of nodes = map (leaf_of nodes) (filter (λ (node : Node). not (has_child nodes node.number)) nodes)
