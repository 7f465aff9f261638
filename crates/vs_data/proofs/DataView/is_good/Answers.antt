-- The view has the header's count and text start.
use Rattle.std.proofs.Common.{arith}
use Rattle.std.proofs.lemmas.Bool.Decides.{nat_tests}
use Rattle.vs_data.proofs.Reading.{has_view}
use Rattle.vs_data.proofs.DataView.is_good.Goals as goal

pub returns-then-line-self : goal.returns-then-line-self
returns-then-line-self c =
    let h = has_view c.args.block.now c.args.self.now c.requires.view in
    grind (arith, nat_tests)

pub returns-else-line-self : goal.returns-else-line-self
returns-else-line-self c =
    let h = has_view c.args.block.now c.args.self.now c.requires.view in
    grind (arith, nat_tests)
