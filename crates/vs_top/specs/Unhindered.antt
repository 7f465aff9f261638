-- Runs that nothing hinders, and how they end.
use Rattle.std.specs.Prelude.{ℕ, List, ◌≡◌, ◌≤◌, ◌⊎◌, length}
use Rattle.vs_faults.specs.Faults.{HasRisen}
use Rattle.vs_host.specs.Names.{names_of_file}
use Rattle.vs_host.specs.World.{Tells, Scene, content_of}
use Rattle.vs_script.specs.Ahead.{script_limit}
use Rattle.vs_machine.specs.declared.command.Mark.{Mark}
use Rattle.vs_machine.specs.declared.command.Outcome.TheVariants as outcome
use Rattle.vs_session.specs.Fits.{HasSwap}
use Rattle.vs_top.specs.Run.{TellsRun, FileFits}
use Rattle.vs_top.specs.Stress.{TellsStress, stress_name}
use Rattle.vs_top.specs.declared.ending.Ending.{Ending}
use Rattle.vs_top.specs.declared.ending.Ending.TheVariants as ending

-- File and script are within their limits, no swap file is there, and no count of faults rose.
pub record IsUnhindered (tells : Tells) (name : List ℕ) (old new : Scene) : Type 0 where
  pub told : TellsRun tells
  pub free : HasSwap (names_of_file name) old.folder → ⊥
  pub file : FileFits (content_of old name)
  pub script : length old.script ≤ script_limit
  pub no_script_fault : ¬ HasRisen old.script_faults new.script_faults
  pub no_out_fault : ¬ HasRisen old.out_faults new.out_faults
  pub no_folder_fault : ¬ HasRisen old.folder_faults new.folder_faults

-- The file is within its limits, no swap file is there, and no count of faults rose.
pub record IsStressUnhindered (tells : Tells) (old new : Scene) : Type 0 where
  pub told : TellsStress tells
  pub free : HasSwap (names_of_file stress_name) old.folder → ⊥
  pub file : FileFits (content_of old stress_name)
  pub no_out_fault : ¬ HasRisen old.out_faults new.out_faults
  pub no_folder_fault : ¬ HasRisen old.folder_faults new.folder_faults

-- a run that came to its end, or had no memory
abbrev pub IsThrough : Ending → Type 0
IsThrough end = (end ≡ ending.Done) ⊎ (end ≡ ending.WithErrors) ⊎ (end ≡ ending.NoMemory)

-- each command was carried out or answered with an error, or had no memory
abbrev pub IsThroughMark : Mark → Type 0
IsThroughMark mark = (mark.outcome ≡ outcome.Done) ⊎ (mark.outcome ≡ outcome.NoMemory)
