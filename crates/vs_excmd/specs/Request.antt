-- Commands of a script with their blocks.
use Rattle.std.specs.Prelude.{ℕ, Bool, true, false, not, ◌≡◌, ◌<◌, ◌⊎◌, ⊤, List, [], length, All, Result, Ok, Err, IsTrue}
use Rattle.vs_text.specs.Text.{bytes_of}
use Rattle.vs_text.specs.Limits.{IsShort}
use Rattle.vs_text.specs.declared.TheConstants.{MAX_LINES, MAX_TEXT_BYTES}
use Rattle.vs_exparse.specs.Command.{Command, command_of, result_of, wants_block}
use Rattle.vs_exparse.specs.Form.{HasForm}
use Rattle.vs_exparse.specs.declared.command.Command as borrowed
use Rattle.vs_exparse.specs.declared.command.ExErr.{ExErr}
use Rattle.vs_excmd.specs.declared.request.Block.{Block}
use Rattle.vs_excmd.specs.declared.request.Block.TheVariants as block
use Rattle.vs_excmd.specs.declared.request.Request.{Request}

-- a command of a script, or the error of its line, with the lines of its block
pub record Instruction : Type 0 where
  pub parsed : Result Command ExErr
  pub block : List (List ℕ)

-- lines that alone are more than a text may have
abbrev pub PassLimits : List (List ℕ) → Type 0
PassLimits lines = (MAX_LINES < length lines) ⊎ (MAX_TEXT_BYTES < bytes_of lines)

-- A block stands for these lines. One for which no memory was found stands for any.
abbrev pub StandsFor : Block → List (List ℕ) → Type 0
StandsFor block.Absent lines = lines ≡ []
StandsFor (block.Lines kept) lines = kept.items ≡ lines
StandsFor block.TooLong lines = ¬ All IsShort lines
StandsFor block.TooMany lines = All IsShort lines × PassLimits lines
StandsFor block.NoMemory lines = ⊤

-- A request stands for this command of a script.
pub record IsRequest (request : Request) (instruction : Instruction) : Type 0 where
  pub parsed : result_of request.parsed ≡ instruction.parsed
  pub block : StandsFor request.block instruction.block

-- whether a command came without a block
abbrev pub is_absent : Block → Bool
is_absent block.Absent = true
is_absent (block.Lines kept) = false
is_absent block.TooLong = false
is_absent block.TooMany = false
is_absent block.NoMemory = false

-- A command has the form that the grammar gives it, and a block stands with it exactly where it takes one. An error has none.
abbrev pub FitsBlock : Result borrowed.Command ExErr → Block → Type 0
FitsBlock (Err error) block = IsTrue (is_absent block)
FitsBlock (Ok command) block = HasForm (command_of command) × (is_absent block ≡ not (wants_block (command_of command)))

-- what holds of each request that is read from a script
abbrev pub IsFormed : Request → Type 0
IsFormed request = FitsBlock request.parsed request.block
