use Rattle.vs_script.proofs.Lines.{first_end}
use Rattle.vs_script.proofs.reader.line_end.Goals as goal

pub returns : goal.returns
returns c = first_end c.args.bytes.now c.memchr.result c.memchr.ensures
