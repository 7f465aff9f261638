use Rattle.vs_tagged.proofs.Lines.{ended_lines, last_lines}
use Rattle.vs_tagged.proofs.put.first_line.Goals as goal

pub returns-in-Some-clause-lines : goal.returns-in-Some-clause-lines
returns-in-Some-clause-lines c = ended_lines c.args.bytes.now c.in-Some.end c.in-Some.ensures

pub returns-in-None-clause-lines : goal.returns-in-None-clause-lines
returns-in-None-clause-lines c = last_lines c.args.bytes.now c.in-None.ensures c.requires.some
