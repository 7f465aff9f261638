-- What is kept of the changes that were passed, to find the neighbours of each in the chain of its parent.
use Rattle.std.specs.Prelude.{ℕ, ◌≡◌, ◌==◌, ◌&&◌, not, Bool, List, get_or, reverse, unwrap_or}
use Rattle.std.specs.BTreeMap.{get, BTreeMap}
use Rattle.std.specs.Ordering.{nat_cmp}
use Rattle.vs_undo.specs.declared.parts.Node.{Node}
use Rattle.vs_undo.specs.declared.parts.Parts.{Parts}
use Rattle.vs_undo.specs.Sound.{child_of}
use Rattle.vs_ubind.specs.Unbound.{after_in, before_in, chain_of, other_children}

-- a child of this state, and not the one last used
abbrev pub is_other : Parts → ℕ → Node → Bool
is_other parts state node = (node.parent == state) && not (node.number == child_of parts state)

-- The map has of each state the last of these changes that is such a child.
abbrev pub AreLast : Parts → List Node → BTreeMap ℕ ℕ → Type 0
AreLast parts nodes passed = (state none : ℕ) →
    unwrap_or (get nat_cmp passed state) none ≡ get_or (reverse (other_children nodes state (child_of parts state))) 0 none

-- The map has of each state the first of these changes that is such a child.
abbrev pub AreFirst : Parts → List Node → BTreeMap ℕ ℕ → Type 0
AreFirst parts nodes passed = (state none : ℕ) → unwrap_or (get nat_cmp passed state) none ≡ get_or (other_children nodes state (child_of parts state)) 0 none

-- the change after this one in the chain of its parent, or 0
abbrev pub alt_next_of : Parts → Node → ℕ
alt_next_of parts node = after_in (chain_of parts node.parent) node.number

-- the change before this one in the chain of its parent, or 0
abbrev pub alt_prev_of : Parts → Node → ℕ
alt_prev_of parts node = before_in (chain_of parts node.parent) node.number
