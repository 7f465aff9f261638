-- What is left of the way shrinks with each turn, and joins one that is known.
use Rattle.std.proofs.Common.{◌≡◌, ◌==◌, ◌++◌, ◌-◌, ◌+◌, ◌∷◌, ◌∙◌, [], length, get_or, sym, subst, arith, refl, length-append}
use Rattle.vs_undo.specs.declared.parts.Node.{Node}
use Rattle.vs_undo.specs.Ways.{Follows}
use Rattle.vs_undo.proofs.NodeLemmas.{no_place, found_at, at_place, follows_start, follows_step, follows_end, follows_all}
use Rattle.vs_undo.proofs.DepthLemmas.{no_node, depth_known, depth_short, joined}
use Rattle.vs_undo.proofs.leaves.depth_of.Goals as goal

pub loop-passed-init : goal.loop-passed-init
loop-passed-init c = ([], (refl, follows_start c.args.nodes.now c.args.number _ (omega arith) c.requires.tree c.requires.kept))

pub returns-in_default : goal.returns-in_default
returns-in_default c =
    let inv = c.loop-passed.invariant in
    let none = no_place (λ (n : Node). n.number == c.loop-passed.at) c.args.nodes.now (sym c.find.ensures ∙ c.in_default.is) in
    record { way = inv.0; is_way = follows_end c.args.nodes.now c.args.number inv.0 c.loop-passed.at _ none inv.1.1; changes = sym inv.1.0 }

pub overflow_add-result : goal.overflow_add-result
overflow_add-result c =
    let nodes = c.args.nodes.now in
    let p = λ (n : Node). n.number == c.loop-passed.at in
    let found = sym c.find.ensures ∙ c.in-Some.is in
    let known = depth_known nodes c.requires.tree c.args.depths.now c.in-Some.place c.loop-passed.at no_node (at_place p nodes c.in-Some.place found).0 (found_at p nodes c.in-Some.place no_node found) c.requires.depths c.if-depths-place-ne0.true in
    omega (arith, depth_short nodes c.requires.tree c.loop-passed.at _ known)

pub returns-then-depths-place-ne0 : goal.returns-then-depths-place-ne0
returns-then-depths-place-ne0 c =
    let nodes = c.args.nodes.now in
    let p = λ (n : Node). n.number == c.loop-passed.at in
    let found = sym c.find.ensures ∙ c.in-Some.is in
    let known = depth_known nodes c.requires.tree c.args.depths.now c.in-Some.place c.loop-passed.at no_node (at_place p nodes c.in-Some.place found).0 (found_at p nodes c.in-Some.place no_node found) c.requires.depths c.if-depths-place-ne0.true in
    let inv = c.loop-passed.invariant in
    joined nodes c.requires.tree c.args.number c.loop-passed.passed c.loop-passed.at _ _ inv.0 inv.1.0 inv.1.1 known

pub loop-passed-preserved : goal.loop-passed-preserved
loop-passed-preserved c =
    let nodes = c.args.nodes.now in
    let inv = c.loop-passed.invariant in
    let node = get_or nodes c.in-Some.place c.index-nodes-place.result in
    let here = found_at (λ (n : Node). n.number == c.loop-passed.at) nodes c.in-Some.place c.index-nodes-place.result (sym c.find.ensures ∙ c.in-Some.is) in
    let left : length nodes - c.loop-passed.passed - 1 ≡ length nodes - (c.loop-passed.passed + 1) = omega arith in
    let step = follows_step nodes c.args.number inv.0 c.loop-passed.at _ node c.requires.tree.root here inv.1.1 in
    (inv.0 ++ c.loop-passed.at ∷ [], (omega (arith, inv.1.0, length-append inv.0 (c.loop-passed.at ∷ [])), subst (Follows nodes c.args.number (inv.0 ++ c.loop-passed.at ∷ []) node.parent) left step))

pub returns : goal.returns
returns c =
    let inv = c.loop-passed.invariant in
    record { way = inv.0; is_way = follows_all c.args.nodes.now c.args.number inv.0 c.loop-passed.at _ (omega arith) inv.1.1; changes = omega (arith, inv.1.0) }
