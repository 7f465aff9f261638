use Rattle.std.proofs.Common.{◌≡◌, ◌+◌, ◌-◌, ◌<◌, length, get_or, map, drop, reverse, ap, subst, sym, ◌∙◌, arith}
use Rattle.vs_ubind.specs.Passing.{alt_prev_of, AreFirst}
use Rattle.vs_ubind.proofs.Passing.{first_more_at, prev_is, prevs_more}
use Rattle.vs_ubind.proofs.chaining.alt_prevs.Goals as goal

pub places-preserved : goal.places-preserved
places-preserved c =
    let parts = c.args.parts.now in
    let nodes = parts.nodes in
    let node = c.index-nodes-nodes.result in
    let inv = c.places.invariant in
    let count : length c.nodes-nodes.result.now ≡ length nodes = ap length c.nodes-nodes.ensures in
    let place = length c.nodes-nodes.result.now - 1 - c.places.done in
    let lt : place < length nodes = omega (arith, count, c.places-test.true) in
    let is : node ≡ get_or nodes place node = c.index-nodes-nodes.is ∙ ap (λ xs. get_or xs place node) c.nodes-nodes.ensures in
    let old : length nodes - c.places.done ≡ place + 1 = omega (arith, count, c.places-test.true) in
    let new : place ≡ length nodes - (c.places.done + 1) = omega (arith, count, c.places-test.true) in
    let before = subst (λ k. AreFirst parts (drop k nodes) c.places.passed) old inv.passed in
    let prev = prev_is parts c.requires place node lt is c.places.passed before ∙ sym c.alt_prev_of.ensures in
    record {
      passed = subst (λ k. AreFirst parts (drop k nodes) c.pass.new.passed) new (first_more_at parts c.requires place node lt is c.places.passed c.pass.new.passed c.in_ok-pass.ensures before);
      prevs = subst (λ k. reverse c.push.new.self.items ≡ map (alt_prev_of parts) (drop k nodes)) new
          (prevs_more parts c.requires place node lt is c.places.prevs.items c.push.new.self.items c.alt_prev_of.result prev
          (subst (λ k. reverse c.places.prevs.items ≡ map (alt_prev_of parts) (drop k nodes)) old inv.prevs) c.in_ok-push.ensures.items);
    }
