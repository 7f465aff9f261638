-- What holds of every undo tree.
use Rattle.std.specs.Prelude.{ℕ, ◌≡◌, ◌≢◌, ◌<◌, ◌≤◌, ◌==◌, if◌then◌else◌, unwrap_or, option_map, Some, length}
use Rattle.std.specs.List.Sorted.{IsStrictlyIncreasing}
use Rattle.vs_undo.specs.declared.TheConstants.{MAX_LAST, MAX_READ_NUMBER, MAX_SAVE}
use Rattle.vs_undo.specs.declared.parts.Node.{Node}
use Rattle.vs_undo.specs.declared.parts.Parts.{Parts}
use Rattle.vs_undo.specs.Numbers.{numbers}
use Rattle.vs_undo.specs.Ways.{node_at, parent_at, save_at, IsKept, IsTree}

-- the child last used of a state, or 0
abbrev pub child_of : Parts → ℕ → ℕ
child_of parts number =
    if number == 0 then parts.root_child else unwrap_or (option_map (λ (node : Node). node.last_child) (node_at parts.nodes number)) 0

-- The child last used of a state is a child of it, and is there exactly where the state has a child.
pub record AreChildren (parts : Parts) : Type 0 where
  pub each : (number : ℕ) → child_of parts number ≢ 0 → parent_at parts.nodes (child_of parts number) ≡ Some number
  pub some : (number child : ℕ) → parent_at parts.nodes child ≡ Some number → child_of parts number ≢ 0

-- No two states have the same save number, and none has one above the last.
pub record AreSaves (parts : Parts) : Type 0 where
  pub differ : (a b : ℕ) → save_at parts.nodes a ≢ 0 → save_at parts.nodes a ≡ save_at parts.nodes b → a ≡ b
  pub below : (number : ℕ) → save_at parts.nodes number ≤ parts.last_save
  pub last : parts.last_save ≤ MAX_SAVE

-- The numbers of the changes rise from at least 1, and none is above the last.
pub record AreNumbers (parts : Parts) : Type 0 where
  pub rising : IsStrictlyIncreasing (numbers parts.nodes)
  pub below : (number : ℕ) → IsKept parts.nodes number → number ≤ parts.last
  pub read : (number : ℕ) → IsKept parts.nodes number → number ≤ MAX_READ_NUMBER
  pub last : parts.last ≤ MAX_LAST

-- The changes are a tree with a current state, with children last used that are children, with numbers and save numbers as a
-- file may have them, and each change has an entry.
pub record IsSound (parts : Parts) : Type 0 where
  pub tree : IsTree parts.nodes
  pub current : IsKept parts.nodes parts.current
  pub children : AreChildren parts
  pub numbers : AreNumbers parts
  pub saves : AreSaves parts
  pub entries : (number : ℕ) (node : Node) → node_at parts.nodes number ≡ Some node → 0 < length node.entries
