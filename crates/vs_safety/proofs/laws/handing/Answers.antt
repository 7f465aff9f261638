use Rattle.vs_safety.proofs.Handed.{keeps_hands}
use Rattle.vs_safety.proofs.laws.handing.Goals as goal

pub returns : goal.returns
returns c = keeps_hands
