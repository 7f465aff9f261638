-- What two sessions make by turns: a command of one of them is one more of its own commands, and none of the other's.
use Rattle.std.proofs.Common.{◌≡◌, true, IsSome, ◌∷◌, subst}
use Rattle.vs_host.specs.Disk.{Disk, mode_in}
use Rattle.vs_host.specs.World.{Scene}
use Rattle.vs_disk.specs.Modes.{HasModes}
use Rattle.vs_disk.proofs.Modes.{has_kept}
use Rattle.vs_excmd.specs.Request.{Instruction}
use Rattle.vs_family.specs.declared.which.Which.{Which}
use Rattle.vs_family.specs.declared.which.Which.TheVariants as which
use Rattle.vs_session.specs.Modes.{KeepsReaders}
use Rattle.vs_session.specs.Session.{Ended, writes_files}
use Rattle.vs_top.specs.History.{CommandRun}
use Rattle.vs_top.specs.PairHistory.{AnswerList, Answered, BothFiles, file_for, past_of}
use Rattle.vs_top.specs.PairPromise.{MakesReadableBoth}
use Rattle.vs_top.specs.Readers.{EachWrites, MakesOwn}
use Rattle.vs_top.proofs.Readers.{makes_then}

module _ (files : BothFiles) (answers : AnswerList) (start asked ended : Scene) (was : MakesReadableBoth files answers start asked) where
  pub both_own : MakesOwn asked ended → MakesReadableBoth files answers start ended
  both_own own allowed owner found = makes_then allowed start asked ended (was allowed owner found) (own allowed owner)

  module _ (command : Instruction) (how : Ended) (same : how.found ≡ asked.folder) where
    abbrev run : CommandRun
    run = record { instruction = command; ended = how }

    module _ (P : Which → Disk → Type 0) where
      abbrev Found : Which → Type 0
      Found session = (each : Which) → EachWrites (P each) (past_of each (Answered session run ∷ answers))

      earlier : (session : Which) → Found session → (each : Which) → EachWrites (P each) (past_of each answers)
      earlier which.One found which.One = (found which.One).1
      earlier which.One found which.Two = found which.Two
      earlier which.Two found which.One = found which.One
      earlier which.Two found which.Two = (found which.Two).1

      newest : (session : Which) → Found session → writes_files command.parsed ≡ true → P session how.found
      newest which.One found writes = (found which.One).0 writes
      newest which.Two found writes = (found which.Two).0 writes

    pub both_command : (session : Which) → KeepsReaders (file_for session files).name command asked ended → MakesReadableBoth files (Answered session run ∷ answers) start ended
    both_command session keeps allowed owner found =
        let Allows : Which → Disk → Type 0 = λ each disk. IsSome (mode_in disk (file_for each files).name) × HasModes allowed (file_for each files).name start.folder in
        let so_far = was allowed owner (earlier Allows session found) in
        makes_then allowed start asked ended so_far (keeps.each allowed owner (λ writes.
        let at = newest Allows session found writes in (
          subst (λ (d : Disk). IsSome (mode_in d (file_for session files).name)) same at.0,
          has_kept allowed (file_for session files).name start.folder asked.folder so_far.1 at.1,
        )))
