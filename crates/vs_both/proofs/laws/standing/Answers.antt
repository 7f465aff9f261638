use Rattle.vs_both.proofs.Images.{between_kept, none_kept, recovers_kept}
use Rattle.vs_both.proofs.laws.standing.Goals as goal

pub returns-clause-recovers : goal.returns-clause-recovers
returns-clause-recovers c = λ party old new documents has same. recovers_kept party has old new same documents

pub returns-clause-none : goal.returns-clause-none
returns-clause-none c = λ party old new has same. none_kept party has old new same

pub returns-clause-between : goal.returns-clause-between
returns-clause-between c = λ party old new syncs has same. between_kept party has old new same syncs
