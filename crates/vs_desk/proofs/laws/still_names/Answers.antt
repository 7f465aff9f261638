use Rattle.vs_desk.proofs.Stillness.{still_apart, still_fits, still_lasts, still_settled}
use Rattle.vs_desk.proofs.laws.still_names.Goals as goal

pub returns-clause-fits : goal.returns-clause-fits
returns-clause-fits c = still_fits

pub returns-clause-settled : goal.returns-clause-settled
returns-clause-settled c = still_settled

pub returns-clause-lasts : goal.returns-clause-lasts
returns-clause-lasts c = still_lasts

pub returns-clause-apart : goal.returns-clause-apart
returns-clause-apart c = still_apart
