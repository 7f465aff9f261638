use Rattle.vs_top.proofs.PairOutput.{own_output, own_run}
use Rattle.vs_top.proofs.laws.pair_output.Goals as goal

pub returns-clause-answers : goal.returns-clause-answers
returns-clause-answers c = own_output

pub returns-clause-run : goal.returns-clause-run
returns-clause-run c = own_run
