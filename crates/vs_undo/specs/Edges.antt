-- How the entries of a tree lead between the states, whatever a state is: a text, or its number of lines.
use Rattle.std.specs.Prelude.{ℕ, ◌≡◌, Bool, true, false, List, [], ◌∷◌, Some}
use Rattle.vs_entries.specs.declared.entry.Entry.{Entry}
use Rattle.vs_undo.specs.declared.parts.Node.{Node}
use Rattle.vs_undo.specs.declared.parts.Parts.{Parts}
use Rattle.vs_undo.specs.Ways.{node_at, is_on, IsWayOf}

module _ {X : Type 0} (Leads : Entry → X → X → Type 0) where
  -- Entries lead from one to the other, one after another.
  abbrev pub IsLed : List Entry → X → X → Type 0
  IsLed [] from to = from ≡ to
  IsLed (entry ∷ entries) from to = (x : X) × (Leads entry from x × IsLed entries x to)

  -- Entries lead from a state to its parent, or from the parent to it.
  abbrev pub IsEdge : Bool → List Entry → X → X → Type 0
  IsEdge true entries state parent = IsLed entries state parent
  IsEdge false entries state parent = IsLed entries parent state

  -- The entries of the changes lead towards the root where this says so, and else away from it.
  abbrev pub AreEdges : List Node → (ℕ → Bool) → (ℕ → X) → Type 0
  AreEdges nodes back states =
      (number : ℕ) (node : Node) → node_at nodes number ≡ Some node → IsEdge (back number) node.entries (states number) (states node.parent)

  -- These are the states of the tree: the entries of the changes on the way of the current state lead back, all others forward.
  pub record AreStates (parts : Parts) (states : ℕ → X) : Type 0 where
    pub way : List ℕ
    pub is_way : IsWayOf parts.nodes parts.current way
    pub edges : AreEdges parts.nodes (is_on way) states
