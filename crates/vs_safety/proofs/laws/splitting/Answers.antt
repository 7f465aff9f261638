use Rattle.vs_safety.proofs.Splits.{greatest}
use Rattle.vs_safety.proofs.laws.splitting.Goals as goal

pub returns : goal.returns
returns c = greatest
