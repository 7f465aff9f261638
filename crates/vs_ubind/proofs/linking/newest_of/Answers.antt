use Rattle.std.proofs.Common.{◌≡◌, ◌∙◌, ◌==◌, ◌+◌, ◌-◌, suc, false, length, sym, ap, arith}
use Rattle.std.proofs.lemmas.Bool.Decides.{nat_tests}
use Rattle.vs_ubind.specs.Unbound.{used_within}
use Rattle.vs_ubind.proofs.Used.{used_on}
use Rattle.vs_ubind.proofs.linking.newest_of.Goals as goal

pub used-preserved : goal.used-preserved
used-preserved c =
    let parts = c.args.parts.now in
    let most = length parts.nodes - (c.used._passed + 1) in
    let count : length c.nodes-count.result.now ≡ length parts.nodes = ap length c.nodes-count.ensures in
    let left : length parts.nodes - c.used._passed ≡ suc most = omega (arith, count, c.used-test.true) in
    let other : (c.last_child-child.result == 0) ≡ false = let not = c.if-child-eq0.false in grind (arith, nat_tests) in
    sym (used_on most parts c.used.at c.last_child-child.result c.last_child-child.ensures other) ∙ (ap (λ n. used_within n parts c.used.at) (sym left) ∙ c.used.invariant)
