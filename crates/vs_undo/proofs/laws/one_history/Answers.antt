use Rattle.vs_undo.proofs.OneLemmas.{one_history}
use Rattle.vs_undo.proofs.laws.one_history.Goals as goal

pub returns : goal.returns
returns c = one_history
