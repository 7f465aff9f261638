-- What a session of two answers to a command.
use Rattle.std.specs.Prelude.{◌≡◌, ◌≤◌, ◌+◌, true, Option, IsSomeAnd, IsTrue}
use Rattle.vs_faults.specs.Faults.{HasCause}
use Rattle.vs_host.specs.World.{Tells, Scene}
use Rattle.vs_exparse.specs.Command.{result_of}
use Rattle.vs_excmd.specs.declared.request.Request.{Request}
use Rattle.vs_session.specs.Calls.{AnswersRequest}
use Rattle.vs_session.specs.Fits.{FitsUndo, IsFault, IsTimed, SameFile, StepsIn, generation_of, is_clean_session}
use Rattle.vs_session.specs.Session.{quits}
use Rattle.vs_session.specs.declared.session.Session.{Session}
use Rattle.vs_session.specs.declared.session.Step.{Step}
use Rattle.vs_session.specs.declared.session.Step.TheVariants as steps
use Rattle.vs_multi.specs.declared.multi.MultiStep.{MultiStep}
use Rattle.vs_multi.specs.declared.multi.MultiStep.TheVariants as answer

-- The session took a step: all that a step of a session promises.
pub record TakesStep (tells : Tells) (request : Request) (answered : Step) (before after : Session) (old new : Scene) : Type 0 where
  pub step : AnswersRequest tells request answered before after old new
  pub undo : FitsUndo after
  pub file : SameFile before after
  pub room : generation_of after ≤ generation_of before + 1
  pub quit : answered ≡ steps.Quit → quits (result_of request.parsed) (is_clean_session before) ≡ true
  pub clock : IsTrue tells.clock → IsTimed answered old new
  pub frame : StepsIn old new
  pub cause : HasCause old.folder_faults new.folder_faults (IsFault answered)

-- A session that was not finished took a step, and goes on. After one that was, nothing is done.
abbrev pub AnswersWhere : Tells → Request → MultiStep → Option Session → Option Session → Scene → Scene → Type 0
AnswersWhere tells request answer.Ended before after old new = (after ≡ before) × (new ≡ old)
AnswersWhere tells request (answer.Step answered) before after old new =
    IsSomeAnd before (λ was. IsSomeAnd after (λ is. TakesStep tells request answered was is old new))
