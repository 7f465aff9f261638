use Rattle.vs_safety.proofs.Endings.{cut_sync, quits}
use Rattle.vs_safety.proofs.laws.ending.Goals as goal

pub returns-clause-syncs : goal.returns-clause-syncs
returns-clause-syncs c = λ others names line start now ended new past sync written waits. cut_sync others names line start past now waits ended new sync written

pub returns-clause-quits : goal.returns-clause-quits
returns-clause-quits c = λ others names line start now mid new past written waits. quits others names line start past now waits mid new written
