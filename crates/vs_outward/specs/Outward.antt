-- Which changes of a tree do not fit a text: the entries are applied outward, from the current state on.
use Rattle.std.specs.Prelude.{ℕ, ◌≡◌, ◌≤◌, if◌then◌else◌, Bool, List, [], ◌∷◌, Option, Some, option_map, unwrap_or}
use Rattle.vs_entries.specs.declared.entry.Entry.{Entry}
use Rattle.vs_entries.specs.Entries.{Leads}
use Rattle.vs_undo.specs.declared.parts.Node.{Node}
use Rattle.vs_undo.specs.declared.parts.Parts.{Parts}
use Rattle.vs_undo.specs.Ways.{node_at, parent_at, is_on, IsWayOf}
use Rattle.vs_undo.specs.Edges.{IsLed}

-- the entries of the change with this number
abbrev pub entries_at : List Node → ℕ → List Entry
entries_at nodes number = unwrap_or (option_map (λ (node : Node). node.entries) (node_at nodes number)) []

-- These changes are crossed from one state to another, the last one first: from the change to its parent where this says so, and
-- else from the parent to the change.
abbrev pub IsOut : (ℕ → Option ℕ) → (ℕ → Bool) → ℕ → List ℕ → ℕ → Type 0
IsOut parent back from [] to = to ≡ from
IsOut parent back from (number ∷ path) to =
    (p : ℕ) × ((parent number ≡ Some p) × (to ≡ (if back number then p else number)) × IsOut parent back from path (if back number then number else p))

-- These changes lie between the current state and another one, the last one first: those on the way of the current state lead towards
-- the root, and all others away from it.
pub record IsOutward (parts : Parts) (path : List ℕ) (to : ℕ) : Type 0 where
  pub way : List ℕ
  pub is_way : IsWayOf parts.nodes parts.current way
  pub out : IsOut (λ k. parent_at parts.nodes k) (is_on way) parts.current path to

-- The entries of these changes lead from one to the other, change after change, the last change first in the list.
abbrev pub LeadsOver : {X : Type 0} (L : Entry → X → X → Type 0) → List Node → List ℕ → X → X → Type 0
LeadsOver L nodes [] from to = to ≡ from
LeadsOver {X = X} L nodes (number ∷ path) from to = (x : X) × (LeadsOver L nodes path from x × IsLed L (entries_at nodes number) x to)

-- The change does not fit the current text: one of its entries leads to no text within the limits, while all changes before it on the
-- way from the current state do.
pub record IsMisfit (parts : Parts) (text : List (List ℕ)) (number : ℕ) : Type 0 where
  pub path : List ℕ
  pub to : ℕ
  pub outward : IsOutward parts (number ∷ path) to
  pub here : List (List ℕ)
  pub led : LeadsOver Leads parts.nodes path text here
  pub none : (there : List (List ℕ)) → IsLed Leads (entries_at parts.nodes number) here there → ⊥

-- It is the least such change.
pub record IsFirstMisfit (parts : Parts) (text : List (List ℕ)) (number : ℕ) : Type 0 where
  pub is : IsMisfit parts text number
  pub first : (other : ℕ) → IsMisfit parts text other → number ≤ other
