use Rattle.vs_ufile.proofs.Early.{none_is_early}
use Rattle.vs_ufile.proofs.answer.none_is_early.Goals as goal

pub returns : goal.returns
returns c = none_is_early
