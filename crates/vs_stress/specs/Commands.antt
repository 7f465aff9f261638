-- The commands of the stress mode: for each number one, which puts ten lines at the end of the text, moves line 2 before the first
-- one, substitutes a colon for the first dot of line 1, or takes the last of these back; and `preserve` after all.
use Rattle.std.specs.Prelude.{ℕ, zero, suc, ◌+◌, ◌%◌, Bool, false, List, [], ◌∷◌, ◌++◌, codes, decimal, Option, Some, None, Result, Ok, Err}
use Rattle.vs_exparse.specs.Command.{Command, wants_block}
use Rattle.vs_exparse.specs.Meaning.{meaning_of}
use Rattle.vs_exparse.specs.declared.command.ExErr.{ExErr}
use Rattle.vs_exparse.specs.declared.command.ExErr.TheVariants.{E492}
use Rattle.vs_excmd.specs.Request.{Instruction}

-- ---- the lines

-- a line of a block: the number of the command, a dot, and a digit
abbrev pub numbered : ℕ → ℕ → List ℕ
numbered number digit = decimal number ++ 46 ∷ (48 + digit) ∷ []

-- the lines of a block for the digits below this one
abbrev pub block_to : ℕ → ℕ → List (List ℕ)
block_to number zero = []
block_to number (suc digit) = block_to number digit ++ numbered number digit ∷ []

-- the four commands, by the rest of their numbers after a division by 4, with their blocks
abbrev pub line_by : ℕ → List ℕ
line_by zero = codes "u"
line_by (suc zero) = codes "$a"
line_by (suc (suc zero)) = codes "2m0"
line_by (suc (suc (suc rest))) = codes "1s/\\V./:/"

-- the block of a command by its number modulo 4: ten lines after `1`, no line after the others
abbrev pub block_by : ℕ → ℕ → List (List ℕ)
block_by number zero = []
block_by number (suc zero) = block_to number 10
block_by number (suc (suc rest)) = []

-- the line of the command with this number
abbrev pub line_of : ℕ → List ℕ
line_of number = line_by (number % 4)

-- the block of the command with this number
abbrev pub block_of : ℕ → List (List ℕ)
block_of number = block_by number (number % 4)

-- the line of the last command
abbrev pub last_line : List ℕ
last_line = codes "preserve"

-- ---- what they mean

-- the command of a line, or its error. None of the lines above is no command.
abbrev pub parsed_of : Result (Option Command) ExErr → Result Command ExErr
parsed_of (Ok (Some command)) = Ok command
parsed_of (Ok None) = Err E492
parsed_of (Err error) = Err error

-- whether a line is a command that takes a block
abbrev pub takes_block : Result (Option Command) ExErr → Bool
takes_block (Ok (Some command)) = wants_block command
takes_block (Ok None) = false
takes_block (Err error) = false

-- the command that a line means, with its block
abbrev pub instruction_of : List ℕ → List (List ℕ) → Instruction
instruction_of line block = record { parsed = parsed_of (meaning_of line); block = block }

-- the command of a number, and the last one
abbrev pub generated : ℕ → Instruction
generated number = instruction_of (line_of number) (block_of number)

-- the last command
abbrev pub preserves : Instruction
preserves = instruction_of last_line []

-- the commands of the numbers from 1 on, and the last one
abbrev pub generated_to : ℕ → List Instruction
generated_to zero = []
generated_to (suc count) = generated_to count ++ generated (suc count) ∷ []

-- all commands of so many
abbrev pub stress_commands : ℕ → List Instruction
stress_commands count = generated_to count ++ preserves ∷ []
