-- The calls of the stress mode from one scene to the next: which of them failed, that no file stands under a name under which a swap file is
-- made, and who may read what is made.
use Rattle.std.specs.Prelude.{◌≡◌, ◌<◌, ℕ, true, List, [], ◌∷◌, ◌++◌, ⊤, length, IfSome}
use Rattle.vs_faults.specs.Faults.{HasCause}
use Rattle.vs_host.specs.Names.{names_of_file}
use Rattle.vs_host.specs.Trace.{GoesOn}
use Rattle.vs_host.specs.World.{Scene, HasNewest}
use Rattle.vs_host.specs.declared.names.Names.{Names}
use Rattle.vs_disk.specs.Runs.{Inside}
use Rattle.vs_pair.specs.Steps.{BothMoved}
use Rattle.vs_machine.specs.Machine.{took_effect}
use Rattle.vs_safety.specs.Texts.{IsFlag}
use Rattle.vs_session.specs.Session.{SessionState, is_fault, sync_of}
use Rattle.vs_top.specs.Calls.{OpensClean, StepCalls}
use Rattle.vs_top.specs.History.{CommandRun, Past}
use Rattle.vs_top.specs.Readers.{MakesOwn}
use Rattle.vs_top.specs.Stress.{stress_name, stress_state}

-- All calls from one scene to another, which is that of a host of the type, worked on the folder, after the clock had given these answers.
pub record HasWorked (OfHost : Scene → Type 0) (answers : List ℕ) (old new : Scene) : Type 0 where
  pub of_host : OfHost new
  pub newest : HasNewest new
  pub clock : new.answers ≡ old.answers ++ answers
  pub output : new.output ≡ old.output
  pub moments : GoesOn (Inside new (λ folder. ⊤)) old.trace new.trace

-- A command that began in one scene and ended in another. Its sync is acknowledged as both have it, and a failed call that is answered
-- happened in it.
pub record StressStep (names : Names) (state : SessionState) (command : CommandRun) (old new : Scene) : Type 0 where
  pub calls : StepCalls names state command old new
  pub flag : IfSome (sync_of state command.instruction command.ended)
      (λ sync. IsFlag names (took_effect command.ended.mark.outcome) old.folder new.folder sync.acknowledged)
  pub cause : HasCause old.folder_faults new.folder_faults (is_fault command.ended.mark.outcome ≡ true)

-- These commands led from the start to this scene: the opening to a first one, and each command from the scene in which the one before
-- ended to its own.
abbrev pub HasRunTo : (Scene → Type 0) → Scene → Past → Scene → Type 0
HasRunTo OfHost start [] now = HasWorked OfHost [] start now × OpensClean (names_of_file stress_name) start now
HasRunTo OfHost start (last ∷ past) now =
    (asked : Scene) × HasRunTo OfHost start past asked × HasWorked OfHost (last.ended.mark.at ∷ []) asked now
    × StressStep (names_of_file stress_name) (stress_state start past) last asked now

-- At each moment once a command has begun no image has a file under a name under which a swap file is made, and at each each file that was
-- made is for its owner alone.
pub record StressCalls (start now : Scene) : Type 0 where
  pub moved : GoesOn (λ m. length start.answers < m.answered → BothMoved (names_of_file stress_name) m.folder) start.trace now.trace
  pub readers : MakesOwn start now
