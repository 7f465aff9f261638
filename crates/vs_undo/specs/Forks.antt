-- Which states have one child at most.
use Rattle.std.specs.Prelude.{ℕ, ◌≡◌, ◌<◌, List, Some}
use Rattle.vs_undo.specs.declared.parts.Node.{Node}
use Rattle.vs_undo.specs.Ways.{parent_at}

-- No state with a lesser number than this has two children.
abbrev pub IsStraightBelow : ℕ → List Node → Type 0
IsStraightBelow fork nodes = (a b p : ℕ) → p < fork → parent_at nodes a ≡ Some p → parent_at nodes b ≡ Some p → a ≡ b
