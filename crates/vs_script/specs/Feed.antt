-- How the commands of a script come of its lines, one by one.
use Rattle.std.specs.Prelude.{◌≡◌, ℕ, true, List, [], ◌∷◌, ◌++◌, Option, Some, None, Result, Ok, if◌then◌else◌, ⊤}
use Rattle.vs_exparse.specs.Command.{Command, command_of, wants_block}
use Rattle.vs_exparse.specs.Form as exparse
use Rattle.vs_exparse.specs.declared.command.ExErr.{ExErr}
use Rattle.vs_excmd.specs.Request.{Instruction, IsFormed, IsRequest}
use Rattle.vs_excmd.specs.declared.request.Request.{Request}
use Rattle.vs_script.specs.Block.{Holds, IsCounted}
use Rattle.vs_script.specs.Script.{LineKind, NoCommand, Alone, Head, instruction, is_alone, kind_of, is_dot}
use Rattle.vs_script.specs.declared.block.OpenBlock.{OpenBlock}
use Rattle.vs_script.specs.declared.feed.CommandFeed.{CommandFeed}
use Rattle.vs_script.specs.declared.feed.Fed.{Fed}
use Rattle.vs_script.specs.declared.feed.Fed.TheVariants as fed

-- where a script is read: between two commands, or within the block of one, after these lines of it
pub data Reading : Type 0 where
  Between : Reading
  Within : Command → List (List ℕ) → Reading

-- the command that a line ends, if it ends one, and where the script is read then
pub record Taken : Type 0 where
  pub ended : Option Instruction
  pub reading : Reading

-- what comes of a line that stands in no block
abbrev pub taken_as : LineKind → Taken
taken_as NoCommand = record { ended = None; reading = Between }
taken_as (Alone parsed) = record { ended = Some (instruction parsed []); reading = Between }
taken_as (Head command) = record { ended = None; reading = Within command [] }

-- what comes of a line of a block
abbrev pub taken_in : Command → List (List ℕ) → List ℕ → Taken
taken_in command block line = if is_dot line
    then record { ended = Some (instruction (Ok command) block); reading = Between }
    else record { ended = None; reading = Within command (block ++ line ∷ []) }

-- what comes of the next line
abbrev pub takes : Reading → List ℕ → Taken
takes Between line = taken_as (kind_of line)
takes (Within command block) line = taken_in command block line

-- the command that the script's end ends, where a block is open
abbrev pub ended_last : Reading → Option Instruction
ended_last Between = None
ended_last (Within command block) = Some (instruction (Ok command) block)

-- ---- the code

-- A block that is open is that of this command, with these lines so far. The command has its form and takes a block.
pub record BlockIsAt (block : OpenBlock) (command : Command) (lines : List (List ℕ)) : Type 0 where
  pub head : command_of block.head ≡ command
  pub holds : Holds block.lines lines
  pub counted : IsCounted block.lines
  pub form : exparse.HasForm command
  pub wants : wants_block command ≡ true

-- a block that is open, or none, stands for where the script is read
abbrev pub IsOpenAt : Option OpenBlock → Reading → Type 0
IsOpenAt None Between = ⊤
IsOpenAt None (Within command lines) = ⊥
IsOpenAt (Some block) Between = ⊥
IsOpenAt (Some block) (Within command lines) = BlockIsAt block command lines

-- the feed stands where the script is read
abbrev pub IsAt : CommandFeed → Reading → Type 0
IsAt feed reading = IsOpenAt feed.block reading

-- the feed stands somewhere in its script
abbrev pub IsReady : CommandFeed → Type 0
IsReady feed = (reading : Reading) × IsAt feed reading

-- a request stands for the command that was ended, and there is none where none was
abbrev pub IsEnded : Option Request → Option Instruction → Type 0
IsEnded None None = ⊤
IsEnded None (Some instruction) = ⊥
IsEnded (Some request) None = ⊥
IsEnded (Some request) (Some instruction) = IsRequest request instruction

-- what the code says of a line by itself is what it ends
abbrev pub HasEnded : Fed → List ℕ → Option Instruction → Type 0
HasEnded fed.Nothing line ended = ended ≡ None
HasEnded fed.Alone line ended = (parsed : Result Command ExErr) × (kind_of line ≡ Alone parsed) × (ended ≡ Some (instruction parsed []))
HasEnded (fed.Block request) line ended = IsEnded (Some request) ended

-- a line that is said to be a command by itself is one, and a request that a block ended has its form
abbrev pub HasForm : Fed → List ℕ → Type 0
HasForm fed.Nothing line = ⊤
HasForm fed.Alone line = is_alone (kind_of line) ≡ true
HasForm (fed.Block request) line = IsFormed request
