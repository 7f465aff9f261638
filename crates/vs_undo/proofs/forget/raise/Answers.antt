use Rattle.std.proofs.Common.{◌≡◌, ◌+◌, ◌<◌, ◌++◌, length, set, map, take, drop, sym, ap, subst, arith}
use Rattle.std.proofs.lemmas.List.Edits.{map_over_more}
use Rattle.vs_undo.specs.declared.parts.Node.{Node}
use Rattle.vs_undo.specs.Forgetting.{raised}
use Rattle.vs_undo.proofs.forget.raise.Goals as goal

pub loop-place-preserved : goal.loop-place-preserved
loop-place-preserved c =
    let i = c.loop-place.place in
    let old = c.args.nodes.now in
    let within : i < length old = omega (arith, c.loop-place-test.true, ap length c.nodes-place-end.ensures) in
    subst (λ (n : Node). set c.loop-place.nodes i n ≡ map (raised c.args.child) (take (i + 1) old) ++ drop (i + 1) old) (sym c.raise_one.ensures)
    (map_over_more (raised c.args.child) old c.loop-place.nodes i c.node_mut.result.now within c.loop-place.invariant c.node_mut.ensures.value)
