-- The oldest states are forgotten while more changes are kept than a number says.
use Rattle.std.specs.Prelude.{ℕ, zero, suc, ◌≡◌, ◌≢◌, ◌-◌, ◌==◌, ◌&&◌, nat_lt, not, if◌then◌else◌, Bool, List, [], length, get_or, map, Option, Some, None}
use Rattle.std.specs.List.{filter, list_any}
use Rattle.vs_entries.specs.declared.entry.Entry.{Entry}
use Rattle.vs_undo.specs.declared.keep.Keep.{Keep}
use Rattle.vs_undo.specs.declared.parts.Node.{Node}
use Rattle.vs_undo.specs.declared.parts.Parts.{Parts}
use Rattle.vs_undo.specs.Ways.{is_on, way_of}
use Rattle.vs_undo.specs.Sound.{child_of, IsSound}
use Rattle.vs_undo.specs.History.{put, pushed, history_pushed, History}

-- the last state of a way, which is a child of the oldest one
abbrev pub top_of : List ℕ → ℕ
top_of way = get_or way (length way - 1) 0

-- the child of the oldest state that lies on the way of the current one, or 0 where that is the oldest
abbrev pub oldest_child : Parts → ℕ
oldest_child parts = top_of (way_of parts.nodes parts.current)

-- A sound tree whose current state is a change without children, as a new one is.
pub record IsFresh (parts : Parts) : Type 0 where
  pub sound : IsSound parts
  pub some : parts.current ≢ 0
  pub leaf : child_of parts parts.current ≡ 0

-- the oldest state has a child other than this one
abbrev pub has_other_child : ℕ → List Node → Bool
has_other_child child nodes = list_any (λ (node : Node). (node.parent == 0) && not (node.number == child)) nodes

-- the changes whose ways pass this one, itself included
abbrev pub nodes_through : ℕ → List Node → List Node
nodes_through child nodes = filter (λ (node : Node). is_on (way_of nodes node.number) child) nodes

-- the tree without the other children of the oldest state and all that is below them
abbrev pub dropped : ℕ → Parts → Parts
dropped child parts = record parts { nodes = nodes_through child parts.nodes; root_child = child }

-- a change whose parent is the oldest state, where it was this one
abbrev pub raised : ℕ → Node → Node
raised child node = if node.parent == child then record node { parent = 0 } else node

-- the tree in which this child of the oldest state is the oldest, and its number is kept no longer
abbrev pub promoted : ℕ → Parts → Parts
promoted child parts =
    record parts { nodes = map (raised child) (filter (λ (node : Node). not (node.number == child)) parts.nodes); root_child = child_of parts child }

-- what is left of a tree, and the number that its oldest state had before
pub record Remainder : Type 0 where
  pub tree : Parts
  pub root : ℕ

-- one forgetting step: where the oldest state has children beside the way of the current one they go, and else it is forgotten itself
abbrev pub forgotten_once : Remainder → Remainder
forgotten_once left =
    if has_other_child (oldest_child left.tree) left.tree.nodes then record left { tree = dropped (oldest_child left.tree) left.tree }
    else record { tree = promoted (oldest_child left.tree) left.tree; root = oldest_child left.tree }

-- so many forgetting steps, which end where no more changes are kept than this
abbrev pub forgotten_within : ℕ → ℕ → Remainder → Remainder
forgotten_within zero levels left = left
forgotten_within (suc most) levels left =
    if nat_lt levels (length left.tree.nodes) then forgotten_within most levels (forgotten_once left) else left

-- what is left of a tree where this many changes may be kept; each step takes one at least
abbrev pub forgotten : ℕ → Parts → Remainder
forgotten levels parts = forgotten_within (length parts.nodes) levels (record { tree = parts; root = 0 })

-- a number of a state that was promoted, or none for 0
abbrev pub promoted_root : ℕ → Option ℕ
promoted_root root = if root == 0 then None else Some root

-- the history of which this many changes may be kept: the text of its oldest state is the one that this had before
abbrev pub history_forgotten : ℕ → History → History
history_forgotten levels history = record {
  links = (forgotten levels history.links).tree;
  texts = put 0 (history.texts (forgotten levels history.links).root) history.texts;
}

-- what is left of the tree after one more change, with these entries, that is kept as this says
abbrev pub tree_kept : List Entry → Keep → Parts → Remainder
tree_kept entries keep parts = forgotten keep.levels (pushed entries keep.time parts)

-- the number that the oldest state after such a change had before, or none for 0: the entries have no part in it
abbrev pub root_kept : Keep → Parts → Option ℕ
root_kept keep links = promoted_root (tree_kept [] keep links).root

-- the history after a change to this text that is kept as this says
abbrev pub history_kept : List (List ℕ) → Keep → History → History
history_kept text keep history = history_forgotten keep.levels (history_pushed text keep.time history)
