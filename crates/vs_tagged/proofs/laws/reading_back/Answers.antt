use Rattle.vs_tagged.proofs.Lines.{reads_other, reads_own}
use Rattle.vs_tagged.proofs.laws.reading_back.Goals as goal

pub returns-clause-own : goal.returns-clause-own
returns-clause-own c = reads_own

pub returns-clause-other : goal.returns-clause-other
returns-clause-other c = reads_other
