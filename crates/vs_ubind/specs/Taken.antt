-- Parts of the tree that the data of an undo file stands for.
use Rattle.std.specs.Prelude.{ℕ, ◌≡◌, ◌<◌, ◌≤◌, ◌==◌, if◌then◌else◌, List, length, get_or, Contains, Some, unwrap_or}
use Rattle.std.specs.BTreeMap.{get, BTreeMap}
use Rattle.std.specs.Ordering.{nat_cmp}
use Rattle.vs_undo.specs.declared.parts.Node.{Node}
use Rattle.vs_undo.specs.Ways.{parent_at}
use Rattle.vs_ufile.specs.Values as file
use Rattle.vs_ubind.specs.Meaning.{entries_in, StandsFor}

-- a change of the tree, with this parent, child last used and save number
abbrev pub taken_change : file.Change → ℕ → ℕ → ℕ → Node
taken_change change parent child save = record {
  number = change.number;
  parent = parent;
  last_child = child;
  time = change.time;
  save = save;
  entries = entries_in change.empty change.entries;
}

-- The map has with each save number the greatest number of a change that has it.
pub record AreSavers (changes : List file.Change) (savers : BTreeMap ℕ ℕ) : Type 0 where
  pub found : (change : file.Change) → Contains changes change → (n : ℕ) × (get nat_cmp savers change.save ≡ Some n) × (change.number ≤ n)
  pub held : (save n : ℕ) → get nat_cmp savers save ≡ Some n → (change : file.Change) × Contains changes change × (change.save ≡ save) × (change.number ≡ n)

-- The changes of the file stand for these, one for one.
pub record AreTaken (changes : List file.Change) (nodes : List Node) : Type 0 where
  pub count : length nodes ≡ length changes
  pub each : (i : ℕ) (change : file.Change) (node : Node) → i < length changes → StandsFor changes (get_or changes i change) (get_or nodes i node)

-- the current state: the parent of the current head, or the newest state where there is none
abbrev pub current_of : List Node → file.History → ℕ
current_of nodes history = if history.current_head == 0 then history.newest else unwrap_or (parent_at nodes history.current_head) 0
