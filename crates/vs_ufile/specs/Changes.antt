-- Changes as the code keeps them.
use Rattle.std.specs.Prelude.{◌≡◌, ℕ, suc, List, unwrap_or}
use Rattle.std.specs.Option.{option_map}
use Rattle.std.specs.Ordering.{nat_cmp}
use Rattle.std.specs.BTreeMap.{get, BTreeMap}
use Rattle.vs_ufile.specs.declared.changes.PlacedChange.{PlacedChange}
use Rattle.vs_ufile.specs.Values.{change_of}
use Rattle.vs_ufile.specs.Reading.{Placed, index_of}

-- a change that was read, with what is left behind it
abbrev pub placed_of : PlacedChange → Placed
placed_of p = record { left = p.left; change = change_of p.change }

-- the index has each number's place in the list, counted from 1
pub record IsIndex (index : BTreeMap ℕ ℕ) (numbers : List ℕ) : Type 0 where
  pub at : (n : ℕ) → get nat_cmp index n ≡ option_map suc (index_of n numbers)

-- the place of the change with this number, counted from 1, or 0 where none has it
abbrev pub place_of : List ℕ → ℕ → ℕ
place_of numbers n = unwrap_or (option_map suc (index_of n numbers)) 0
