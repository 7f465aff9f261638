use Rattle.vs_top.proofs.Due.{ends_due}
use Rattle.vs_top.proofs.laws.mode_due.Goals as goal

pub returns : goal.returns
returns c = ends_due
