-- How work on a folder goes on that makes files like another one: the modes that the other one had are allowed at each moment.
use Rattle.std.proofs.Common.{List, Result, IsErr, IsTrue, arith}
use Rattle.vs_faults.specs.Faults.{HasCause}
use Rattle.vs_host.specs.Disk.{Disk, Name}
use Rattle.vs_host.specs.Trace.{Kind}
use Rattle.vs_host.specs.World.{Tells, Scene, IsTold, ChangesFolder}
use Rattle.vs_disk.specs.Modes.{KeepsModes, MakesLike}
use Rattle.vs_disk.specs.Runs.{NoneFails}
use Rattle.vs_disk.proofs.Modes.{has_kept, modes_then}
use Rattle.vs_disk.proofs.Quiet.{last_then}
use Rattle.vs_disk.proofs.Runs.{one_call, runs_as, runs_on, frames, fails_call}
use Rattle.vs_pair.specs.Acts.{Acts}
use Rattle.vs_ubind.specs.Storing.{ActsLike, Works}

pub works_of : (tells : Tells) (step : Disk → Disk → Type 0) (old new : Scene) → Acts tells step old new → Works tells step old new
works_of tells step old new acts = record { frame = acts.frame; later = acts.later; runs = acts.runs; last = acts.last }

-- one call, whatever it answers
pub works_call : (tells : Tells) (step : Disk → Disk → Type 0) (kind : Kind) (names : List Name) {T E : Type 0} (result : Result T E) (old new : Scene) → ChangesFolder old new
    → HasCause old.folder_faults new.folder_faults (IsErr result) → (IsTrue tells.folder → IsTold kind names result old new) → (IsTrue tells.folder → step old.folder new.folder) → Works tells step old new
works_call tells step kind names result old new frame cause told here = record {
  frame = frame;
  later = cause.later;
  runs = λ tells_it. one_call step kind names result old new frame (told tells_it) (here tells_it);
  last = λ tells_it. fails_call kind names result old new (told tells_it);
}

-- work that went on after work in which no call failed, by one step that passes on
pub works_on : (tells : Tells) (S : Disk → Disk → Type 0) → ((a b c : Disk) → S a b → S b c → S a c) → (old mid new : Scene) → NoneFails tells old mid → Works tells S old mid → Works tells S mid new → Works tells S old new
works_on tells S passes old mid new none first second = record {
  frame = frames old mid new first.frame second.frame;
  later = omega (arith, first.later, second.later);
  runs = λ told. runs_on S passes old mid new first.frame (first.runs told) (second.runs told);
  last = λ told. last_then old mid new (none.quiet told) (second.last told);
}

module _ (tells : Tells) (model : Name) where
  pub like_of : (step : Disk → Disk → Type 0) (old new : Scene) → Acts tells step old new → ActsLike tells model step old new
  like_of step old new acts = record { frame = acts.frame; later = acts.later; runs = acts.runs; last = acts.last; modes = λ told allowed may has. acts.modes told allowed may }

  pub like_works : (step : Disk → Disk → Type 0) (old new : Scene) → Works tells step old new → MakesLike tells model old new → ActsLike tells model step old new
  like_works step old new works modes = record { frame = works.frame; later = works.later; runs = works.runs; last = works.last; modes = modes }

  pub works_of_like : (step : Disk → Disk → Type 0) (old new : Scene) → ActsLike tells model step old new → Works tells step old new
  works_of_like step old new acts = record { frame = acts.frame; later = acts.later; runs = acts.runs; last = acts.last }

  pub like_as : (S U : Disk → Disk → Type 0) (old new : Scene) → (IsTrue tells.folder → (d : Disk) → S old.folder d → U old.folder d) → ActsLike tells model S old new → ActsLike tells model U old new
  like_as S U old new leads acts = record { frame = acts.frame; later = acts.later; runs = λ told. runs_as S U old new (leads told) (acts.runs told); last = acts.last; modes = acts.modes }

  -- files like the same one go on to be made: it has kept the modes that are allowed
  pub modes_like_on : (old mid new : Scene) → ChangesFolder old mid → MakesLike tells model old mid → MakesLike tells model mid new → MakesLike tells model old new
  modes_like_on old mid new frame first second told allowed may has =
      runs_on (KeepsModes allowed) (modes_then allowed) old mid new frame (first told allowed may has)
      (second told allowed may (has_kept allowed model old.folder mid.folder (first told allowed may has).now has))

  pub like_on : (S : Disk → Disk → Type 0) → ((a b c : Disk) → S a b → S b c → S a c) → (old mid new : Scene) → NoneFails tells old mid → ActsLike tells model S old mid → ActsLike tells model S mid new
      → ActsLike tells model S old new
  like_on S passes old mid new none first second =
      like_works S old new (works_on tells S passes old mid new none (works_of_like S old mid first) (works_of_like S mid new second)) (modes_like_on old mid new first.frame first.modes second.modes)
