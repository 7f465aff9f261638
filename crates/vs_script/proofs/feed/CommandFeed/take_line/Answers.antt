use Rattle.std.proofs.Common.{◌≡◌, Some, refl, arith}
use Rattle.std.proofs.lemmas.Grind.{common_steps}
use Rattle.vs_script.specs.declared.feed.CommandFeed.{CommandFeed}
use Rattle.vs_script.proofs.Feeding.{ends_in, goes_in}
use Rattle.vs_script.proofs.feed.CommandFeed.take_line.Goals as goal

pub returns-then-ends_block-clause-takes : goal.returns-then-ends_block-clause-takes
returns-then-ends_block-clause-takes c =
    let some : c.args.self.now.block ≡ Some c.in-Some.begun = grind (arith, common_steps) in
    let feed : CommandFeed = record { block = c.take.new.self } in
    ends_in c.args.self.now feed c.in-Some.begun c.into_request.result c.args.line.now some c.take.ensures.after (grind (arith, common_steps)) c.into_request.ensures.meant

pub returns-else-ends_block-clause-takes : goal.returns-else-ends_block-clause-takes
returns-else-ends_block-clause-takes c =
    let some : c.args.self.now.block ≡ Some c.in-Some.begun = grind (arith, common_steps) in
    goes_in c.args.self.now _ c.in-Some.begun c.with.result c.args.line.now some refl (grind (arith, common_steps)) c.with.ensures
