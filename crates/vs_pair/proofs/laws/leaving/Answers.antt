use Rattle.vs_pair.specs.Pair.{is_swap}
use Rattle.vs_pair.proofs.AwayLemmas.{away_same}
use Rattle.vs_pair.proofs.MadeFiles.{synced_same}
use Rattle.vs_pair.proofs.Others.{fit_kept, recovers_kept, rises_kept}
use Rattle.vs_pair.proofs.laws.leaving.Goals as goal

pub returns-clause-fit : goal.returns-clause-fit
returns-clause-fit c = fit_kept

pub returns-clause-recovers : goal.returns-clause-recovers
returns-clause-recovers c = λ names old new syncs older same all. recovers_kept names old new same syncs older all

pub returns-clause-rises : goal.returns-clause-rises
returns-clause-rises c = λ names start old new same rises. rises_kept names old new same start rises

pub returns-clause-names : goal.returns-clause-names
returns-clause-names c = λ names old new syncs. synced_same (is_swap names) old new syncs

pub returns-clause-away : goal.returns-clause-away
returns-clause-away c = away_same
