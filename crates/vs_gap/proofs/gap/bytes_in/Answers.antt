use Rattle.std.proofs.Common.{ap, arith}
use Rattle.std.proofs.lemmas.List.{drop_all}
use Rattle.vs_text.specs.Text.{bytes_of}
use Rattle.vs_gap.proofs.gap.bytes_in.Goals as goal

pub returns-clause-bytes : goal.returns-clause-bytes
returns-clause-bytes c = omega (arith, c.loop-line.invariant.sum, c.loop-line.invariant.small, ap bytes_of (drop_all c.loop-line.line-index c.args.lines.now (omega arith)))
