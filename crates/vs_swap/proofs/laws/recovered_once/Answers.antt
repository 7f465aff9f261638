use Rattle.vs_swap.proofs.Standing.{one_recovered}
use Rattle.vs_swap.proofs.laws.recovered_once.Goals as goal

pub returns : goal.returns
returns c = one_recovered
