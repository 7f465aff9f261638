use Rattle.std.proofs.Common.{◌≡◌, ◌≢◌, sym, ap, ◌∙◌, arith}
use Rattle.std.specs.Prelude.{unwrap_or}
use Rattle.std.proofs.lemmas.Bool.Decides.{nat_tests}
use Rattle.vs_undo.proofs.ForgetLemmas.{top_above, top_here}
use Rattle.vs_undo.proofs.forget.top_of.Goals as goal

pub climb-smaller : goal.climb-smaller
climb-smaller c =
    let some : c.climb.above ≢ 0 = let t = c.climb-test.true in grind (arith, nat_tests) in
    (top_above c.args.nodes.now c.requires.tree c.climb.at c.climb.above c.climb.invariant.kept c.climb.invariant.above some).1.1

pub climb-preserved : goal.climb-preserved
climb-preserved c =
    let some : c.climb.above ≢ 0 = let t = c.climb-test.true in grind (arith, nat_tests) in
    let up = top_above c.args.nodes.now c.requires.tree c.climb.at c.climb.above c.climb.invariant.kept c.climb.invariant.above some in
    record { kept = up.0; above = c.unwrap_or-above-in-climb.ensures ∙ ap (λ o. unwrap_or o 0) c.parent-in-climb.ensures; top = up.1.0 ∙ c.climb.invariant.top }

pub returns : goal.returns
returns c =
    let none : c.climb.above ≡ 0 = let t = c.climb-test.false in grind (arith, nat_tests) in
    sym (top_here c.args.nodes.now c.requires.tree c.climb.at c.climb.invariant.kept (sym c.climb.invariant.above ∙ none)) ∙ c.climb.invariant.top
