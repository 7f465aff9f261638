use Rattle.vs_ubind.proofs.Ones.{one_bound}
use Rattle.vs_ubind.proofs.laws.one_bound.Goals as goal

pub returns : goal.returns
returns c = one_bound
