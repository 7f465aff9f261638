-- What is known of the stress mode between two of its commands.
use Rattle.std.specs.Prelude.{ℕ, Bool, not, List, [], ◌≡◌, ◌+◌, ◌++◌, length, map, IsTrue}
use Rattle.vs_host.specs.Names.{names_of_file}
use Rattle.vs_host.specs.Trace.{Snapshot, Each}
use Rattle.vs_host.specs.World.{Tells, Scene}
use Rattle.vs_disk.specs.Names.{SameAt}
use Rattle.vs_pair.specs.Pair.{is_foreign}
use Rattle.vs_pair.specs.Steps.{BothMoved}
use Rattle.vs_excmd.specs.Request.{Instruction}
use Rattle.vs_machine.specs.declared.command.Mark.{Mark}
use Rattle.vs_safety.specs.History.{syncs_of}
use Rattle.vs_safety.specs.Causes.{IsCounted, output_count}
use Rattle.vs_session.specs.declared.session.Session.{Session}
use Rattle.vs_session.specs.Fits.{Fits}
use Rattle.vs_session.specs.Made.{LeavesNoneMade}
use Rattle.vs_stress.specs.Commands.{stress_commands}
use Rattle.vs_top.specs.History.{Past, any_error, commands_then}
use Rattle.vs_top.specs.Run.{KeepsMarks, opened_file}
use Rattle.vs_top.specs.Stress.{TellsStress, IsBeforeLine, stress_history, stress_name, stress_state, stress_document, stress_turns}
use Rattle.vs_top.specs.StressCalls.{HasRunTo, StressCalls}
use Rattle.vs_top.specs.Turns.{KeepsOpenFile}

-- These commands were answered, the last of them to this scene, and nothing was written.
pub record StressTold (OfHost : Scene → Type 0) (old now : Scene) (session : Session) (marks : List Mark) (clean : Bool) (past : Past) : Type 0 where
  pub kept : KeepsMarks (opened_file old stress_name) marks past
  pub errors : clean ≡ not (any_error (opened_file old stress_name).state past)
  pub fits : Fits session now.folder (stress_state old past) (syncs_of (stress_history old past))
  pub moments : List Snapshot
  pub added : now.trace ≡ moments ++ old.trace
  pub safe : Each (IsBeforeLine (names_of_file stress_name) old (stress_document old) (stress_turns old past)) moments
  pub spared : SameAt (is_foreign (names_of_file stress_name)) old.folder now.folder
  pub ran : HasRunTo OfHost old past now
  pub calls : StressCalls old now
  pub cleared : LeavesNoneMade old.folder now.folder
  pub here : BothMoved (names_of_file stress_name) now.folder
  pub output : now.output ≡ old.output
  pub answers : length now.answers ≡ length old.answers + length (stress_turns old past)
  pub counted : IsCounted output_count old now

-- over any host
pub record IsStressTurn (OfHost : Scene → Type 0) (tells : Tells) (old now : Scene) (session : Session) (marks : List Mark) (clean : Bool)
    (commands : List Instruction) : Type 0 where
  pub told : TellsStress tells → (past : Past) × (commands_then past [] ≡ commands) × StressTold OfHost old now session marks clean past
  pub keeps : KeepsOpenFile tells stress_name old now session marks
  pub script : now.script ≡ old.script
  pub times : IsTrue tells.clock → now.answers ≡ old.answers ++ map (λ mark. mark.at) marks

-- There was no memory for more than the first of the commands.
pub record StopsStress (OfHost : Scene → Type 0) (tells : Tells) (count : ℕ) (old now : Scene) (session : Session) (marks : List Mark) : Type 0 where
  pub commands : List Instruction
  pub rest : List Instruction
  pub first : stress_commands count ≡ commands ++ rest
  pub clean : Bool
  pub turn : IsStressTurn OfHost tells old now session marks clean commands
