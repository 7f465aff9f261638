use Rattle.vs_safety.proofs.Endings.{stopped, cut_turn}
use Rattle.vs_safety.proofs.laws.running.Goals as goal

pub returns-clause-stops : goal.returns-clause-stops
returns-clause-stops c = λ others names line start now past. stopped others names line start past now

pub returns-clause-cut : goal.returns-clause-cut
returns-clause-cut c = λ others names line start now ended new past turn written waits. cut_turn others names line start past now waits ended new turn written
