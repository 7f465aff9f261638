use Rattle.vs_ubind.proofs.Somes.{some_tree}
use Rattle.vs_ubind.proofs.laws.some_meaning.Goals as goal

pub returns : goal.returns
returns c = some_tree
