use Rattle.vs_safety.proofs.Holding.{lasts}
use Rattle.vs_safety.proofs.laws.lasting.Goals as goal

pub returns : goal.returns
returns c = lasts
