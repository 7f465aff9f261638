use Rattle.vs_pair.specs.Pair.{shown_in}
use Rattle.vs_paged.proofs.PageLemmas.{low_paged}
use Rattle.vs_paged.proofs.SyncLemmas.{fits_between, fits_recovers}
use Rattle.vs_paged.proofs.laws.fitting.Goals as goal

pub returns-clause-between : goal.returns-clause-between
returns-clause-between c = fits_between

pub returns-clause-recovers : goal.returns-clause-recovers
returns-clause-recovers c = fits_recovers

pub returns-clause-low : goal.returns-clause-low
returns-clause-low c = λ paged disk text syncs fits. low_paged (shown_in paged.pair disk) paged.tree text fits.pages
