use Rattle.vs_swap.proofs.Standing.{once}
use Rattle.vs_swap.proofs.laws.stands_once.Goals as goal

pub returns : goal.returns
returns c = once
