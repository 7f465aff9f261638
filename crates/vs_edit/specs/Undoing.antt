-- The way back from a text over the splices since the last commit.
use Rattle.std.specs.Prelude.{ℕ, ◌≡◌, ◌+◌, ◌≤◌, List, [], ◌∷◌, length}
use Rattle.vs_text.specs.Text.{bytes_of}
use Rattle.vs_edit.specs.Splices.{splice}
use Rattle.vs_edit.specs.declared.vec_store.Undo.{Undo}

-- the text after a step back
abbrev pub before : Undo → List (List ℕ) → List (List ℕ)
before undo text = splice text undo.top undo.count undo.lines.items

-- the text after these steps back, the newest splice first
abbrev pub undone : List Undo → List (List ℕ) → List (List ℕ)
undone [] text = text
undone (undo ∷ undos) text = undone undos (before undo text)

-- A vector with this capacity has room for the text, which has this number of bytes.
pub record IsHeld (capacity bytes : ℕ) (text : List (List ℕ)) : Type 0 where
  pub room : length text ≤ capacity
  pub counted : bytes ≡ bytes_of text

-- Every text on the way back is held, and each step back lies within its text.
abbrev pub LeadsBack : ℕ → ℕ → List (List ℕ) → List Undo → Type 0
LeadsBack capacity bytes text [] = IsHeld capacity bytes text
LeadsBack capacity bytes text (undo ∷ undos) =
    IsHeld capacity bytes text × (undo.top + undo.count ≤ length text) × LeadsBack capacity undo.bytes (before undo text) undos
