-- Which tree the data of an undo file stands for (docs/FORMATS.md, "Undo file"). Links are read as the format says: the parent of
-- a change is `next` of the first change of its chain, and the first of a chain is the child last used.
use Rattle.std.specs.Prelude.{ℕ, ◌≡◌, ◌≢◌, ◌⊎◌, ◌<◌, ◌≤◌, Bool, false, List, [], ◌∷◌, length, Contains, Some}
use Rattle.std.specs.List.Sorted.{IsStrictlyIncreasing}
use Rattle.vs_entries.specs.declared.entry.Entry.{Entry}
use Rattle.vs_undo.specs.declared.parts.Node.{Node}
use Rattle.vs_undo.specs.declared.parts.Parts.{Parts}
use Rattle.vs_undo.specs.Numbers as tree
use Rattle.vs_undo.specs.Ways.{node_at}
use Rattle.vs_undo.specs.History.{links_of}
use Rattle.vs_ufile.specs.Values as file
use Rattle.vs_ufile.specs.Decode.{KeepsRules}
use Rattle.vs_ufile.specs.Descent.{IsLastUsed}
use Rattle.vs_ufile.specs.Tree.{IsChange, IsParent}

-- an entry of the file, with this flag
abbrev pub taken : Bool → file.Entry → Entry
taken flag entry = record { top = entry.top; bottom = entry.bottom; lines = entry.lines; empty = flag }

-- entries of which the last one has this flag
abbrev pub flagged : Bool → List file.Entry → List Entry
flagged flag [] = []
flagged flag (entry ∷ []) = taken flag entry ∷ []
flagged flag (entry ∷ next ∷ entries) = taken false entry ∷ flagged flag (next ∷ entries)

-- the entries of a change: one that exchanges nothing where it has none
abbrev pub entries_in : Bool → List file.Entry → List Entry
entries_in flag [] = record { top = 0; bottom = 1; lines = []; empty = flag } ∷ []
entries_in flag (entry ∷ entries) = flagged flag (entry ∷ entries)

-- The flag of the last entry alone. The next entry works on the stored form, in which the others' flags do not show.
abbrev pub last_flag : List Entry → List Entry
last_flag [] = []
last_flag (entry ∷ []) = entry ∷ []
last_flag (entry ∷ next ∷ entries) = record entry { empty = false } ∷ last_flag (next ∷ entries)

-- The save number that a change keeps: its own, unless a change with a greater number has it too.
abbrev pub IsKeptSave : List file.Change → file.Change → ℕ → Type 0
IsKeptSave changes change save =
    ((save ≡ change.save) × (change.save ≢ 0 → (other : file.Change) → Contains changes other → other.save ≡ change.save → other.number ≤ change.number))
    ⊎ ((save ≡ 0) × ((other : file.Change) × Contains changes other × (other.save ≡ change.save) × (change.number < other.number)))

-- a change of the file stands for a change of a tree
pub record StandsFor (changes : List file.Change) (change : file.Change) (node : Node) : Type 0 where
  pub number : node.number ≡ change.number
  pub parent : IsParent changes change.number node.parent
  pub last_child : IsLastUsed changes change.number node.last_child
  pub time : node.time ≡ change.time
  pub save : IsKeptSave changes change node.save
  pub entries : last_flag node.entries ≡ last_flag (entries_in change.empty change.entries)

-- the greatest of a field and of these numbers
pub record IsGreatest (field : ℕ) (IsNumber : ℕ → Type 0) (greatest : ℕ) : Type 0 where
  pub field_below : field ≤ greatest
  pub below : (n : ℕ) → IsNumber n → n ≤ greatest
  pub one : (greatest ≡ field) ⊎ IsNumber greatest

-- some change has this save number
abbrev pub HasSave : List file.Change → ℕ → Type 0
HasSave changes save = (change : file.Change) × Contains changes change × (change.save ≡ save)

-- The data of a file stands for this tree.
pub record Means (history : file.History) (parts : Parts) : Type 0 where
  pub count : length parts.nodes ≡ length history.changes
  pub rising : IsStrictlyIncreasing (tree.numbers parts.nodes)
  pub changes : (n : ℕ) (node : Node) → node_at parts.nodes n ≡ Some node → (change : file.Change) × Contains history.changes change ×
      StandsFor history.changes change node
  pub root_child : IsLastUsed history.changes 0 parts.root_child
  pub at_head : history.current_head ≢ 0 → IsParent history.changes history.current_head parts.current
  pub at_newest : history.current_head ≡ 0 → parts.current ≡ history.newest
  pub last : IsGreatest history.last (IsChange history.changes) parts.last
  pub last_save : IsGreatest history.last_save (HasSave history.changes) parts.last_save

-- The data stands for one tree at most, but for flags of entries that do not show.
abbrev pub OneMeaning : Type 0
OneMeaning =
    (history : file.History) (a b : Parts) → KeepsRules history → Means history a → Means history b
    → (links_of a ≡ links_of b) × ((n : ℕ) (x y : Node) → node_at a.nodes n ≡ Some x → node_at b.nodes n ≡ Some y → last_flag x.entries ≡ last_flag y.entries)
