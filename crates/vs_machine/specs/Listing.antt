-- What `:undolist` shows of a history.
use Rattle.std.specs.Prelude.{ℕ, ◌==◌, if◌then◌else◌, List, [], ◌∷◌, ◌++◌, map, codes, decimal}
use Rattle.vs_text.specs.Text.{file_of}
use Rattle.vs_undo.specs.declared.parts.Node.{Node}
use Rattle.vs_undo.specs.declared.leaves.Leaf.{Leaf}
use Rattle.vs_undo.specs.Leaves.{leaves_of}
use Rattle.vs_machine.specs.Shown.{padded}

-- a save number, or a dash where there is none
abbrev pub saved : ℕ → List ℕ
saved save = if save == 0 then codes "-" else decimal save

-- the line of a change without children: its number, the changes on the way from the oldest state to it, and its save number
abbrev pub leaf_line : Leaf → List ℕ
leaf_line leaf = padded 6 (decimal leaf.number) ++ (padded 8 (decimal leaf.changes) ++ padded 6 (saved leaf.save))

-- a line for each of these, after a first line that names the columns
abbrev pub listed : List Leaf → List (List ℕ)
listed [] = codes "Nothing to undo" ∷ []
listed (leaf ∷ leaves) = codes "number changes saved" ∷ map leaf_line (leaf ∷ leaves)

-- the changes without children by rising number, in bytes
abbrev pub listing : List Node → List ℕ
listing nodes = file_of (listed (leaves_of nodes))
