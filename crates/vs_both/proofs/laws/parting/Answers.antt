use Rattle.vs_both.proofs.Parties.{are_beside}
use Rattle.vs_both.proofs.laws.parting.Goals as goal

pub returns : goal.returns
returns c = are_beside
