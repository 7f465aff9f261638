-- Which state is the saved one after states were forgotten.
use Rattle.std.specs.Prelude.{ℕ, ◌==◌, if◌then◌else◌, List, Option, Some, None, option_and_then}
use Rattle.vs_undo.specs.declared.parts.Node.{Node}
use Rattle.vs_machine.specs.Moves.{is_kept}

-- The number of a state after a change that left these changes, by the number that the oldest state had before: it is 0 where the state
-- has become the oldest one. There is none where another one took the place of state 0, or where the state is kept no longer.
abbrev pub number_after : ℕ → List Node → ℕ → Option ℕ
number_after oldest nodes number = if number == oldest then Some 0 else if number == 0 then None else if is_kept nodes number then Some number else None

-- the number of the saved state after a command, where there is one: only a change forgets states
abbrev pub saved_after : Option ℕ → List Node → Option ℕ → Option ℕ
saved_after None nodes saved = saved
saved_after (Some oldest) nodes saved = option_and_then (number_after oldest nodes) saved
