use Rattle.vs_merge.proofs.Tidying.{least_low, least_high}
use Rattle.vs_merge.proofs.below.least_below.Goals as goal

pub returns-then-depth-eq2 : goal.returns-then-depth-eq2
returns-then-depth-eq2 c = least_low c.args.depth c.if-depth-eq2.true

pub returns : goal.returns
returns c = least_high c.args.depth c.requires c.if-depth-eq2.false
