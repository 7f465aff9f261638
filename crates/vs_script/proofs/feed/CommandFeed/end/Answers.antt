use Rattle.std.proofs.Common.{◌≡◌, Some, arith}
use Rattle.std.proofs.lemmas.Grind.{common_steps}
use Rattle.vs_script.proofs.Feeding.{block_there, end_some}
use Rattle.vs_script.proofs.feed.CommandFeed.end.Goals as goal

pub returns-in-Some-clause-ended : goal.returns-in-Some-clause-ended
returns-in-Some-clause-ended c =
    let some : c.args.self.now.block ≡ Some c.in-Some.begun = grind (arith, common_steps) in
    end_some c.args.self.now c.in-Some.begun c.into_request.result some c.into_request.ensures.meant

pub returns-in-Some-clause-form : goal.returns-in-Some-clause-form
returns-in-Some-clause-form c =
    let some : c.args.self.now.block ≡ Some c.in-Some.begun = grind (arith, common_steps) in
    let there = block_there c.args.self.now c.in-Some.begun c.requires some in
    c.into_request.ensures.form there.0 there.1 there.2
