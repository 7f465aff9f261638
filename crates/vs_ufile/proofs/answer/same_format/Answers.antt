use Rattle.vs_ufile.proofs.Faults.{same_format}
use Rattle.vs_ufile.proofs.answer.same_format.Goals as goal

pub returns : goal.returns
returns c = same_format
