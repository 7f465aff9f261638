use Rattle.vs_both.proofs.Names.{first_stays_apart, second_stays_apart, settled_apart}
use Rattle.vs_both.proofs.Both.{beside_swapped}
use Rattle.vs_both.proofs.laws.apartness.Goals as goal

pub returns-clause-settled : goal.returns-clause-settled
returns-clause-settled c = settled_apart

pub returns-clause-first : goal.returns-clause-first
returns-clause-first c = first_stays_apart

pub returns-clause-second : goal.returns-clause-second
returns-clause-second c = second_stays_apart

pub returns-clause-swapped : goal.returns-clause-swapped
returns-clause-swapped c = beside_swapped
