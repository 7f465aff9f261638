-- How a reader takes the commands of a script.
use Rattle.std.specs.Prelude.{ℕ, true, false, List, [], ◌∷◌, ◌≡◌}
use Rattle.vs_host.specs.World.{Scene}
use Rattle.vs_excmd.specs.Request.{Instruction, IsRequest}
use Rattle.vs_excmd.specs.declared.request.Request.{Request}
use Rattle.vs_script.specs.Ahead.{Ahead, GoesOn, lines_ahead, whole_lines}
use Rattle.vs_script.specs.Script.{commands_of, whole_of}

-- the commands that are still to be read
abbrev pub commands_ahead : Ahead → Scene → List Instruction
commands_ahead reader scene = commands_of (lines_ahead reader scene)

-- the commands that are whole in the first bytes of a script, whatever follows
abbrev pub whole_commands : List ℕ → List Instruction
whole_commands bytes = whole_of (whole_lines bytes)

-- A request was read. It stands for the first command that was ahead.
pub record TakesRequest (request : Request) (old new : Ahead) (before after : Scene) : Type 0 where
  pub first : Instruction
  pub meant : IsRequest request first
  pub ahead : commands_ahead old before ≡ first ∷ commands_ahead new after
  pub whole : new.ended ≡ false → GoesOn whole_commands (λ bytes. first ∷ whole_commands bytes) old new before after

-- The script's end was reached, with no command before it.
pub record TakesNone (old new : Ahead) (before after : Scene) : Type 0 where
  pub ahead : commands_ahead old before ≡ []
  pub ended : new.ended ≡ true
  pub script : after.script ≡ []
