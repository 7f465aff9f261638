-- Which entries a change has after a move.
use Rattle.std.specs.Prelude.{ℕ, ◌≡◌, if◌then◌else◌, Bool, List, [], ◌∷◌, ◌++◌, Some}
use Rattle.vs_entries.specs.declared.entry.Entry.{Entry}
use Rattle.vs_entries.specs.Entries.{applied, led_back}
use Rattle.vs_undo.specs.declared.parts.Node.{Node}
use Rattle.vs_undo.specs.Ways.{node_at, is_on}

-- the entries that lead back, where some are applied to a text one after another
abbrev pub all_led_back : List Entry → List (List ℕ) → List Entry
all_led_back [] text = []
all_led_back (entry ∷ entries) text = all_led_back entries (applied entry text) ++ led_back entry text ∷ []

-- These entries are, for a change with this number, those that lead back: its own were applied to the text at the end of its edge
-- from which the edge is crossed.
abbrev pub AreLedBack : List Node → (ℕ → Bool) → (ℕ → List (List ℕ)) → ℕ → List Entry → Type 0
AreLedBack nodes back texts number entries =
    (node : Node) → node_at nodes number ≡ Some node → entries ≡ all_led_back node.entries (texts (if back number then number else node.parent))

-- the entries of a change after a move, given the ways of the states before and after it: where only one of them passes the change,
-- those that lead back, and else its own
abbrev pub exchanged : List ℕ → List ℕ → (ℕ → List (List ℕ)) → Node → List Entry
exchanged from to texts node =
    if is_on from node.number then (if is_on to node.number then node.entries else all_led_back node.entries (texts node.number))
    else (if is_on to node.number then all_led_back node.entries (texts node.parent) else node.entries)
