-- The commands of a script. A line that stands in no block is no command, a command by itself, or the head of a block.
use Rattle.std.specs.Prelude.{ℕ, Bool, true, false, ◌≡◌, ◌==◌, if◌then◌else◌, List, [], ◌∷◌, ◌++◌, Option, Some, None, Result, Ok, Err, ⊤}
use Rattle.vs_exparse.specs.Command.{Command, command_of, wants_block}
use Rattle.vs_exparse.specs.Form.{HasForm}
use Rattle.vs_exparse.specs.Meaning.{meaning_of}
use Rattle.vs_exparse.specs.declared.command.ExErr.{ExErr}
use Rattle.vs_excmd.specs.Request.{Instruction}
use Rattle.vs_script.specs.declared.kind.ScriptLine.{ScriptLine}
use Rattle.vs_script.specs.declared.kind.ScriptLine.TheVariants as line

-- a command, or the error of its line, with the lines of its block
abbrev pub instruction : Result Command ExErr → List (List ℕ) → Instruction
instruction parsed block = record { parsed = parsed; block = block }

-- what a line says that stands in no block
pub data LineKind : Type 0 where
  NoCommand : LineKind
  Alone : Result Command ExErr → LineKind
  Head : Command → LineKind

-- A command that wants a block is the head of one. An error has none.
abbrev pub kind_from : Result (Option Command) ExErr → LineKind
kind_from (Ok None) = NoCommand
kind_from (Ok (Some command)) = if wants_block command then Head command else Alone (Ok command)
kind_from (Err error) = Alone (Err error)

-- what a line is, by what it means
unfoldable pub kind_of : List ℕ → LineKind
kind_of line = kind_from (meaning_of line)

-- whether a line is a command without a block, or an error
abbrev pub is_alone : LineKind → Bool
is_alone NoCommand = false
is_alone (Alone parsed) = true
is_alone (Head command) = false

-- what the code says of a line
abbrev pub IsKind : ScriptLine → LineKind → Type 0
IsKind line.NoCommand kind = kind ≡ NoCommand
IsKind line.Alone kind = is_alone kind ≡ true
IsKind (line.Head command) kind = kind ≡ Head (command_of command)

-- whether a line that was read is a command or an error
abbrev pub is_found : ScriptLine → Bool
is_found line.NoCommand = false
is_found line.Alone = true
is_found (line.Head command) = true

-- The head of a block has its form, and wants its block.
abbrev pub HasHeadForm : ScriptLine → Type 0
HasHeadForm line.NoCommand = ⊤
HasHeadForm line.Alone = ⊤
HasHeadForm (line.Head command) = HasForm (command_of command) × (wants_block (command_of command) ≡ true)

-- a line that ends a block
abbrev pub is_dot : List ℕ → Bool
is_dot [] = false
is_dot (byte ∷ []) = byte == 46
is_dot (byte ∷ next ∷ rest) = false

abbrev mutual
  -- the commands of a script's lines, where this is made of a block without its dot
  pub commands_by : (Command → List (List ℕ) → List Instruction) → List (List ℕ) → List Instruction
  commands_by unended [] = []
  commands_by unended (line ∷ lines) = elim (kind_of line) [
    | NoCommand ↦ commands_by unended lines
    | Alone parsed ↦ instruction parsed [] ∷ commands_by unended lines
    | Head command ↦ block_by unended command [] lines
  ]

  -- a block goes on up to its dot
  pub block_by : (Command → List (List ℕ) → List Instruction) → Command → List (List ℕ) → List (List ℕ) → List Instruction
  block_by unended command block [] = unended command block
  block_by unended command block (line ∷ lines) =
      if is_dot line then instruction (Ok command) block ∷ commands_by unended lines else block_by unended command (block ++ line ∷ []) lines

-- at the script's end a block ends too
abbrev pub at_end : Command → List (List ℕ) → List Instruction
at_end command block = instruction (Ok command) block ∷ []

-- the commands of a script's lines
abbrev pub commands_of : List (List ℕ) → List Instruction
commands_of lines = commands_by at_end lines

-- where more may come, a block without its dot is no command yet
abbrev pub not_yet : Command → List (List ℕ) → List Instruction
not_yet command block = []

-- the commands that are whole in the first lines of a script, whatever follows
abbrev pub whole_of : List (List ℕ) → List Instruction
whole_of lines = commands_by not_yet lines
