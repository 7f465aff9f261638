-- Histories: a tree of texts, one of which is current.
use Rattle.std.specs.Prelude.{ℕ, ◌≡◌, ◌==◌, ◌+◌, min, if◌then◌else◌, List, [], ◌∷◌, ◌++◌, map}
use Rattle.vs_undo.specs.declared.TheConstants.{MAX_SAVE}
use Rattle.vs_entries.specs.declared.entry.Entry.{Entry}
use Rattle.vs_entries.specs.Entries.{Leads, LeadsCount}
use Rattle.vs_undo.specs.declared.parts.Node.{Node}
use Rattle.vs_undo.specs.declared.parts.Parts.{Parts}
use Rattle.vs_undo.specs.Ways.{start}
use Rattle.vs_undo.specs.Edges.{AreStates}

-- a change without its entries
abbrev pub without_entries : Node → Node
without_entries node = record node { entries = [] }

-- what a tree has without its entries: numbers, parents, children last used, times and save numbers
abbrev pub links_of : Parts → Parts
links_of parts = record parts { nodes = map without_entries parts.nodes }

-- the changes, of which the first one with this number is another
abbrev pub changed : ℕ → (Node → Node) → List Node → List Node
changed number f [] = []
changed number f (node ∷ nodes) = if node.number == number then f node ∷ nodes else node ∷ changed number f nodes

-- the tree where a state has this child last used
abbrev pub with_child : ℕ → ℕ → Parts → Parts
with_child parent child parts =
    if parent == 0 then record parts { root_child = child }
    else record parts { nodes = changed parent (λ (node : Node). record node { last_child = child }) parts.nodes }

-- the tree where each state on a way is the child last used of its parent
abbrev pub used : List ℕ → Parts → Parts
used [] parts = parts
used (number ∷ way) parts = used way (with_child (start way) number parts)

-- the tree after a move to the state where this way begins
abbrev pub moved : List ℕ → Parts → Parts
moved way parts = record (used way parts) { current = start way }

-- a change with other entries
abbrev pub with_entries : List Entry → Node → Node
with_entries entries node = record node { entries = entries }

-- the changes, of which those on a path have these entries
abbrev pub installed : List ℕ → List (List Entry) → List Node → List Node
installed [] turned nodes = nodes
installed (number ∷ path) [] nodes = nodes
installed (number ∷ path) (entries ∷ turned) nodes = installed path turned (changed number (with_entries entries) nodes)

-- the tree after a move along a path to the state where this way begins, with the entries of the edges turned
abbrev pub arrived : List ℕ → List (List Entry) → List ℕ → Parts → Parts
arrived path turned way parts = moved way (record parts { nodes = installed path turned parts.nodes })

-- a change that is made now
abbrev pub new_node : List Entry → ℕ → Parts → Node
new_node entries time parts = record { number = parts.last + 1; parent = parts.current; last_child = 0; time = time; save = 0; entries = entries }

-- the tree with one more change, a child of the current state that is current then
abbrev pub pushed : List Entry → ℕ → Parts → Parts
pushed entries time parts =
    record (with_child parts.current (parts.last + 1) (record parts { nodes = parts.nodes ++ new_node entries time parts ∷ [] }))
    { current = parts.last + 1; last = parts.last + 1 }

-- the states, of which one is another
abbrev pub put : {X : Type 0} → ℕ → X → (ℕ → X) → ℕ → X
put number x states k = if k == number then x else states k

-- a change that does not have this save number
abbrev pub unmarked : ℕ → Node → Node
unmarked save node = if node.save == save then record node { save = 0 } else node

-- a change with this save number
abbrev pub with_save : ℕ → Node → Node
with_save save node = record node { save = save }

-- the save number that the next write has
abbrev pub next_save : Parts → ℕ
next_save parts = min (parts.last_save + 1) MAX_SAVE

-- the tree after a write: the current change has the next save number, and no other change has it
abbrev pub marked : Parts → Parts
marked parts =
    if parts.current == 0 then record parts { last_save = next_save parts }
    else record parts {
      nodes = changed parts.current (with_save (next_save parts))
          (map (unmarked (next_save parts)) parts.nodes);
      last_save = next_save parts;
    }

-- a tree of states and the text of each
pub record History : Type 0 where
  pub links : Parts
  pub texts : ℕ → List (List ℕ)

-- A tree with its current text is this history.
pub record IsHistory (parts : Parts) (text : List (List ℕ)) (history : History) : Type 0 where
  pub links : links_of parts ≡ history.links
  pub are_states : AreStates Leads parts history.texts
  pub current : history.texts parts.current ≡ text

-- the history after a move to the state where this way begins
abbrev pub history_at : List ℕ → History → History
history_at way history = record history { links = moved way history.links }

-- The entries of a tree fit a current text of so many lines in stored form.
pub record FitsCount (parts : Parts) (lines : ℕ) : Type 0 where
  pub counts : ℕ → ℕ
  pub are_states : AreStates LeadsCount parts counts
  pub current : lines ≡ counts parts.current

-- The entries of a tree fit a current text.
pub record FitsText (parts : Parts) (text : List (List ℕ)) : Type 0 where
  pub texts : ℕ → List (List ℕ)
  pub are_states : AreStates Leads parts texts
  pub current : text ≡ texts parts.current

-- the history after a change to this text
abbrev pub history_pushed : List (List ℕ) → ℕ → History → History
history_pushed text time history = record {
  links = pushed [] time history.links;
  texts = put (history.links.last + 1) text history.texts;
}

-- the tree of one state
abbrev pub first_parts : Parts
first_parts = record { nodes = []; root_child = 0; current = 0; last = 0; last_save = 0 }

-- the history of one state
abbrev pub first_history : List (List ℕ) → History
first_history text = record { links = first_parts; texts = λ _. text }

-- the history after a write
abbrev pub history_marked : History → History
history_marked history = record history { links = marked history.links }
