-- What an undo file says of a tree (docs/FORMATS.md, "Undo file").
use Rattle.std.specs.Prelude.{ℕ, zero, suc, ◌+◌, ◌==◌, ◌&&◌, not, if◌then◌else◌, Bool, true, false, List, [], ◌∷◌, length, get_or, map, reverse, option_map}
use Rattle.std.specs.Prelude.{unwrap_or}
use Rattle.std.specs.List.{filter, position}
use Rattle.vs_entries.specs.declared.entry.Entry.{Entry}
use Rattle.vs_undo.specs.declared.parts.Node.{Node}
use Rattle.vs_undo.specs.declared.parts.Parts.{Parts}
use Rattle.vs_undo.specs.Ways.{node_at}
use Rattle.vs_undo.specs.Sound.{child_of}
use Rattle.vs_undo.specs.History.{marked, next_save}
use Rattle.vs_ufile.specs.Values as file

-- the place of a number in a list, or past its end
abbrev pub place_in : List ℕ → ℕ → ℕ
place_in numbers n = unwrap_or (position (λ m. m == n) numbers) (length numbers)

-- the number after this one, or 0
abbrev pub after_in : List ℕ → ℕ → ℕ
after_in numbers n = get_or numbers (place_in numbers n + 1) 0

-- the number before this one, or 0
abbrev pub before_in : List ℕ → ℕ → ℕ
before_in numbers n = get_or (0 ∷ numbers) (place_in numbers n) 0

-- the children of a state but this one, by rising number
abbrev pub other_children : List Node → ℕ → ℕ → List ℕ
other_children nodes parent first = map (λ (node : Node). node.number) (filter (λ (node : Node). (node.parent == parent) && not (node.number == first)) nodes)

-- the chain of the children of a state: the one last used, and then the others by falling number
abbrev pub chain_of : Parts → ℕ → List ℕ
chain_of parts parent = child_of parts parent ∷ reverse (other_children parts.nodes parent (child_of parts parent))

-- the state where the way over the children last used ends, or so many changes on
abbrev pub used_within : ℕ → Parts → ℕ → ℕ
used_within zero parts number = number
used_within (suc most) parts number = if child_of parts number == 0 then number else used_within most parts (child_of parts number)

-- the state where the way over the children last used from the current state ends
abbrev pub newest_of : Parts → ℕ
newest_of parts = used_within (length parts.nodes) parts parts.current

-- the time of the current state, 0 for the root
abbrev pub time_of : Parts → ℕ
time_of parts = unwrap_or (option_map (λ (node : Node). node.time) (node_at parts.nodes parts.current)) 0

-- the flag of a change: that of its last entry
abbrev pub flag_of : List Entry → Bool
flag_of [] = false
flag_of (entry ∷ []) = entry.empty
flag_of (entry ∷ next ∷ entries) = flag_of (next ∷ entries)

-- an entry as an undo file has it
abbrev pub filed_entry : Entry → file.Entry
filed_entry entry = record { top = entry.top; bottom = entry.bottom; count = 0; lines = entry.lines }

-- a change of a tree as an undo file has it
abbrev pub filed_change : Parts → Node → file.Change
filed_change parts node = record {
  number = node.number;
  next = node.parent;
  prev = node.last_child;
  alt_next = after_in (chain_of parts node.parent) node.number;
  alt_prev = before_in (chain_of parts node.parent) node.number;
  empty = flag_of node.entries;
  time = node.time;
  save = node.save;
  entries = map filed_entry node.entries;
}

-- the data of an undo file for a tree, at a text with this digest and this number of stored lines
abbrev pub filed : List ℕ → ℕ → Parts → file.History
filed digest lines parts = record {
  digest = digest;
  lines = lines;
  oldest = parts.root_child;
  newest = newest_of parts;
  current_head = child_of parts parts.current;
  heads = length parts.nodes;
  last = parts.last;
  current = parts.current;
  time = time_of parts;
  last_save = parts.last_save;
  changes = map (filed_change parts) parts.nodes;
}

-- the tree, or the tree after the next write
abbrev pub with_next : Bool → Parts → Parts
with_next false parts = parts
with_next true parts = marked parts

-- the save number of a change, or the one that it has after the next write
abbrev pub save_of : Bool → Parts → Node → ℕ
save_of false parts node = node.save
save_of true parts node =
    if parts.current == 0 then node.save
    else if node.number == parts.current then next_save parts
    else if node.save == next_save parts then 0
    else node.save

-- a change of the file, with that save number
abbrev pub saved_change : Bool → Parts → Node → file.Change
saved_change next parts node = record (filed_change parts node) { save = save_of next parts node }

-- the last save number, or the one after the next write
abbrev pub last_save_of : Bool → Parts → ℕ
last_save_of false parts = parts.last_save
last_save_of true parts = next_save parts
