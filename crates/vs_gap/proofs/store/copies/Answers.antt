use Rattle.std.proofs.Common.{◌∙◌}
use Rattle.std.proofs.lemmas.List.{take_all}
use Rattle.vs_gap.proofs.store.copies.Goals as goal

pub returns : goal.returns
returns c = c.loop-line.invariant ∙ take_all c.loop-line.line-index c.args.lines.now c.loop-line-test.false
