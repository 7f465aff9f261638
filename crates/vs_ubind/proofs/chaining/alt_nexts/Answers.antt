use Rattle.std.proofs.Common.{◌≡◌, ◌<◌, length, get_or, ap, sym, ◌∙◌, arith}
use Rattle.vs_ubind.proofs.Passing.{last_more, next_is, nexts_more}
use Rattle.vs_ubind.proofs.chaining.alt_nexts.Goals as goal

pub nodes-preserved : goal.nodes-preserved
nodes-preserved c =
    let parts = c.args.parts.now in
    let i = c.nodes.node-index in
    let node = c.node-item.result in
    let inv = c.nodes.invariant in
    let same = c.nodes-nodes.ensures in
    let lt : i < length parts.nodes = let count : length c.nodes-nodes.result.now ≡ length parts.nodes = ap length same in omega (arith, count, c.nodes-test.true) in
    let is : node ≡ get_or parts.nodes i node = c.node-item.is ∙ ap (λ xs. get_or xs i node) same in
    let next = next_is parts c.requires i node lt is c.in_ok-greatest.greatest c.nodes.passed c.in_ok-greatest.ensures inv.passed ∙ sym c.alt_next_of.ensures in
    record {
      passed = last_more parts parts.nodes i node c.nodes.passed c.pass.new.passed lt is c.in_ok-pass.ensures inv.passed;
      nexts = nexts_more parts c.requires i node lt is c.nodes.nexts.items c.push.new.self.items c.alt_next_of.result next inv.nexts c.in_ok-push.ensures.items;
    }
