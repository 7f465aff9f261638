-- Where the moves over a history lead.
use Rattle.std.specs.Prelude.{ℕ, ◌==◌, ◌&&◌, ◌||◌, if◌then◌else◌, Bool, List, length, min, max}
use Rattle.std.specs.Prelude.{Result, Ok, Err, Option, Some, None, is_some, ◌≤◌, ⊤}
use Rattle.vs_undo.specs.declared.error.UndoErr.{UndoErr}
use Rattle.vs_undo.specs.declared.error.UndoErr.TheVariants.{NotKept, AtOldest, AtNewest}
use Rattle.vs_undo.specs.declared.parts.Node.{Node}
use Rattle.vs_undo.specs.declared.parts.Parts.{Parts}
use Rattle.vs_undo.specs.Ways.{node_at, parent_at, way_of}
use Rattle.vs_undo.specs.Sound.{child_of}
use Rattle.vs_undo.specs.Numbers.{above, below, nth_above, nth_below}
use Rattle.vs_undo.specs.Writes.{earlier_save, earlier_write, later_save, later_write, last_number}
use Rattle.vs_machine.specs.declared.moves.Move.{Move}
use Rattle.vs_machine.specs.declared.moves.Move.TheVariants.{Back, To, Forward, Earlier, Later, EarlierWrites, LaterWrites}

-- a state has this number
abbrev pub is_kept : List Node → ℕ → Bool
is_kept nodes number = (number == 0) || is_some (node_at nodes number)

-- a state that is there, or else why there is none
abbrev pub found_or : UndoErr → Option ℕ → Result ℕ UndoErr
found_or error None = Err error
found_or error (Some number) = Ok number

-- where a move leads, or why there is nowhere to go
abbrev pub goal_of : Move → Parts → Result ℕ UndoErr
goal_of Back parts = found_or AtOldest (parent_at parts.nodes parts.current)
goal_of (To number) parts = if is_kept parts.nodes number then Ok number else Err (NotKept number)
goal_of Forward parts = if child_of parts parts.current == 0 then Err AtNewest else Ok (child_of parts parts.current)
goal_of (Earlier by) parts = if length (below parts.nodes parts.current) == 0 then Err AtOldest else Ok (nth_below parts.nodes parts.current by)
goal_of (Later by) parts = if length (above parts.nodes parts.current) == 0 then Err AtNewest else Ok (nth_above parts.nodes parts.current by)
goal_of (EarlierWrites by) parts =
    let way = way_of parts.nodes parts.current in
    if (earlier_save parts.nodes way by == 0) && (parts.current == 0) then Err AtOldest else Ok (earlier_write parts.nodes way by)
goal_of (LaterWrites by) parts =
    let way = way_of parts.nodes parts.current in
    if (later_save parts.nodes way by == 0) && (parts.current == last_number parts.nodes) then Err AtNewest else Ok (later_write parts.nodes way by)

-- the moves of `:undo`, `:earlier` and `:later`
abbrev pub undo_move : Option ℕ → Move
undo_move None = Back
undo_move (Some number) = To number

-- the move of `:earlier`
abbrev pub earlier_move : ℕ → Bool → Move
earlier_move by writes = if writes then EarlierWrites by else Earlier by

-- the move of `:later`
abbrev pub later_move : ℕ → Bool → Move
later_move by writes = if writes then LaterWrites by else Later by

-- A move that counts goes at least one step.
abbrev pub HasSteps : Move → Type 0
HasSteps Back = ⊤
HasSteps (To number) = ⊤
HasSteps Forward = ⊤
HasSteps (Earlier by) = 1 ≤ by
HasSteps (Later by) = 1 ≤ by
HasSteps (EarlierWrites by) = 1 ≤ by
HasSteps (LaterWrites by) = 1 ≤ by

-- the line of the cursor after a move to a text with this number of lines: its number stays as far as there are lines
abbrev pub kept_within : ℕ → ℕ → ℕ
kept_within lines cursor = min (max 1 cursor) lines
