use Rattle.vs_paged.proofs.SyncLemmas.{fits_kept, fits_recovers}
use Rattle.vs_paged.proofs.laws.leaving.Goals as goal

pub returns-clause-fits : goal.returns-clause-fits
returns-clause-fits c = fits_kept

pub returns-clause-recovers : goal.returns-clause-recovers
returns-clause-recovers c = λ paged old new text syncs same fits. fits_recovers paged new text syncs (fits_kept paged old new text syncs same fits)
