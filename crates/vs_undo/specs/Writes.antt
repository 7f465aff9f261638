-- Save numbers of a tree, and the states that they lead to.
use Rattle.std.specs.Prelude.{ℕ, zero, suc, ◌≡◌, ◌≢◌, ◌-◌, ◌==◌, nat_lt, max, min, if◌then◌else◌, IsTrue, List, [], ◌∷◌, length, get_or, unwrap_or, option_map}
use Rattle.std.specs.List.{find, list_any, Contains}
use Rattle.std.specs.List.Sorted.{IsStrictlyIncreasing}
use Rattle.vs_undo.specs.declared.parts.Node.{Node}
use Rattle.vs_undo.specs.Numbers.{numbers}
use Rattle.vs_undo.specs.declared.parts.Parts.{Parts}
use Rattle.vs_undo.specs.Ways.{save_at, start, IsWayOf}

-- Some change has this save number.
abbrev pub IsSave : List Node → ℕ → Type 0
IsSave nodes save = (save ≢ 0) × IsTrue (list_any (λ (node : Node). node.save == save) nodes)

-- These are the save numbers of the changes, in rising order.
pub record AreInOrder (nodes : List Node) (saves : List ℕ) : Type 0 where
  pub rising : IsStrictlyIncreasing saves
  pub each : (save : ℕ) → Contains saves save → IsSave nodes save
  pub all : (save : ℕ) → IsSave nodes save → Contains saves save

-- the greatest save number below a bound, or 0
abbrev pub save_below : List Node → ℕ → ℕ
save_below [] bound = 0
save_below (node ∷ nodes) bound = max (if nat_lt node.save bound then node.save else 0) (save_below nodes bound)

-- the greatest save number below a bound, so many times over, or 0 where there are fewer
abbrev pub nth_save_below : List Node → ℕ → ℕ → ℕ
nth_save_below nodes zero bound = bound
nth_save_below nodes (suc by) bound = nth_save_below nodes by (save_below nodes bound)

-- the lesser of two numbers, where 0 stands for none
abbrev pub lesser : ℕ → ℕ → ℕ
lesser a b = if a == 0 then b else (if b == 0 then a else min a b)

-- the least save number above a bound, or 0
abbrev pub save_above : List Node → ℕ → ℕ
save_above [] bound = 0
save_above (node ∷ nodes) bound = lesser (if nat_lt bound node.save then node.save else 0) (save_above nodes bound)

-- the least save number above a bound, so many times over, or 0 where there are fewer
abbrev pub nth_save_above : List Node → ℕ → ℕ → ℕ
nth_save_above nodes zero bound = bound
nth_save_above nodes (suc by) bound = if save_above nodes bound == 0 then 0 else nth_save_above nodes by (save_above nodes bound)

-- the greatest save number on a way, or 0
abbrev pub save_on : List Node → List ℕ → ℕ
save_on nodes [] = 0
save_on nodes (number ∷ way) = max (save_at nodes number) (save_on nodes way)

-- the save number that the state where a way begins belongs to
abbrev pub belongs : List Node → List ℕ → ℕ
belongs nodes way = if save_at nodes (start way) == 0 then save_on nodes way else save_at nodes (start way)

-- the state with this save number, or the oldest where there is none
abbrev pub saver : List Node → ℕ → ℕ
saver nodes save = unwrap_or (option_map (λ (node : Node). node.number) (find (λ (node : Node). node.save == save) nodes)) 0

-- The save number that a move back by so many writes goes to, or 0. From a state without one of its own the number that it
-- belongs to is the first.
abbrev pub earlier_save : List Node → List ℕ → ℕ → ℕ
earlier_save nodes way by =
    if save_at nodes (start way) == 0 then nth_save_below nodes (by - 1) (save_on nodes way) else nth_save_below nodes by (save_at nodes (start way))

-- the state that a move back by so many writes goes to
abbrev pub earlier_write : List Node → List ℕ → ℕ → ℕ
earlier_write nodes way by = if earlier_save nodes way by == 0 then 0 else saver nodes (earlier_save nodes way by)

-- the save number that a move forward by so many writes goes to, or 0
abbrev pub later_save : List Node → List ℕ → ℕ → ℕ
later_save nodes way by = nth_save_above nodes by (belongs nodes way)

-- the last number that is kept
abbrev pub last_number : List Node → ℕ
last_number nodes = get_or (numbers nodes) (length nodes) 0

-- the state that a move forward by so many writes goes to
abbrev pub later_write : List Node → List ℕ → ℕ → ℕ
later_write nodes way by = if later_save nodes way by == 0 then last_number nodes else saver nodes (later_save nodes way by)

-- A move back by so many writes goes from the current state to this one.
pub record IsEarlierWrite (parts : Parts) (by goal : ℕ) : Type 0 where
  pub way : List ℕ
  pub is_way : IsWayOf parts.nodes parts.current way
  pub is : goal ≡ earlier_write parts.nodes way by
  pub moves : earlier_save parts.nodes way by ≡ 0 → parts.current ≢ 0

-- There are fewer writes than a move back asks for, and the current state is the oldest.
pub record IsAtOldestWrite (parts : Parts) (by : ℕ) : Type 0 where
  pub way : List ℕ
  pub is_way : IsWayOf parts.nodes parts.current way
  pub fewer : earlier_save parts.nodes way by ≡ 0
  pub oldest : parts.current ≡ 0

-- A move forward by so many writes goes from the current state to this one.
pub record IsLaterWrite (parts : Parts) (by goal : ℕ) : Type 0 where
  pub way : List ℕ
  pub is_way : IsWayOf parts.nodes parts.current way
  pub is : goal ≡ later_write parts.nodes way by
  pub moves : later_save parts.nodes way by ≡ 0 → parts.current ≢ last_number parts.nodes

-- There are fewer writes than a move forward asks for, and the current state is the last one kept.
pub record IsAtNewestWrite (parts : Parts) (by : ℕ) : Type 0 where
  pub way : List ℕ
  pub is_way : IsWayOf parts.nodes parts.current way
  pub fewer : later_save parts.nodes way by ≡ 0
  pub newest : parts.current ≡ last_number parts.nodes
