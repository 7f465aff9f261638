use Rattle.vs_ufile.proofs.Late.{none_is_late}
use Rattle.vs_ufile.proofs.answer.none_is_late.Goals as goal

pub returns : goal.returns
returns c = none_is_late
