use Rattle.vs_swap.proofs.Standing.{written_stands}
use Rattle.vs_swap.proofs.laws.pages_stand.Goals as goal

pub returns : goal.returns
returns c = written_stands
