-- A change that is noted has the depth that is left, and its parent one less.
use Rattle.std.proofs.Common.{◌≡◌, ◌==◌, ◌-◌, ◌+◌, get_or, sym, subst, ◌∙◌, arith}
use Rattle.vs_undo.specs.declared.parts.Node.{Node}
use Rattle.vs_undo.specs.Leaves.{HasDepth}
use Rattle.vs_undo.proofs.NodeLemmas.{found_at, at_place}
use Rattle.vs_undo.proofs.DepthLemmas.{depth_above, depth_noted}
use Rattle.vs_undo.proofs.leaves.note_depths.Goals as goal

pub loop-passed-preserved : goal.loop-passed-preserved
loop-passed-preserved c =
    let nodes = c.args.nodes.now in
    let inv = c.loop-passed.invariant in
    let place = c.in-Some.place in
    let node = get_or nodes place c.index-nodes-place.result in
    let p = λ (n : Node). n.number == c.loop-passed.at in
    let found = sym c.find.ensures ∙ c.in-Some.is in
    let here = found_at p nodes place c.index-nodes-place.result found in
    let left : c.args.depth - c.loop-passed.passed - 1 ≡ c.args.depth - (c.loop-passed.passed + 1) = omega arith in
    record {
      depths = depth_noted nodes c.requires.tree c.loop-passed.depths place c.loop-passed.at c.index-nodes-place.result (at_place p nodes place found).0 here inv.depths (c.args.depth - c.loop-passed.passed) inv.left;
      left = subst (HasDepth nodes node.parent) left (depth_above nodes c.requires.tree c.loop-passed.at (c.args.depth - c.loop-passed.passed) node here inv.left);
    }
