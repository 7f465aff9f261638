use Rattle.vs_pair.proofs.Spared.{fit_spared}
use Rattle.vs_pair.proofs.laws.sparing.Goals as goal

pub returns : goal.returns
returns c = fit_spared
