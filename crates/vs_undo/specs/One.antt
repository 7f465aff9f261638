-- A tree with its text has one history.
use Rattle.std.specs.Prelude.{ℕ, ◌≡◌, List}
use Rattle.vs_undo.specs.declared.parts.Parts.{Parts}
use Rattle.vs_undo.specs.History.{History, IsHistory}
use Rattle.vs_undo.specs.Ways.{IsKept, IsTree}

-- The histories have the same tree, and the same text at each number that is kept.
pub record AreSame (one other : History) : Type 0 where
  pub links : one.links ≡ other.links
  pub texts : (number : ℕ) → IsKept one.links.nodes number → one.texts number ≡ other.texts number

-- The histories that a tree with its text is have the same text at each number that is kept.
abbrev pub OneHistory : Type 0
OneHistory = (parts : Parts) (text : List (List ℕ)) (one other : History) → IsTree parts.nodes → IsHistory parts text one →
    IsHistory parts text other → AreSame one other
