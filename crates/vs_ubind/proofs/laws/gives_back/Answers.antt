use Rattle.vs_ubind.proofs.Ones.{gives_back}
use Rattle.vs_ubind.proofs.laws.gives_back.Goals as goal

pub returns : goal.returns
returns c = gives_back
