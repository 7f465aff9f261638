-- What is left of the way shrinks with each turn, and is empty where no change is found.
use Rattle.std.proofs.Common.{◌≡◌, ◌==◌, ◌++◌, ◌-◌, ◌+◌, ◌∷◌, [], length, get_or, sym, subst, arith}
use Rattle.vs_undo.specs.declared.parts.Node.{Node}
use Rattle.vs_undo.specs.Ways.{Follows}
use Rattle.vs_undo.proofs.NodeLemmas.{no_place, found_at, follows_start, follows_step, follows_end, follows_all}
use Rattle.vs_undo.proofs.way.way_of.Goals as goal

pub loop-init : goal.loop-init
loop-init c = rw c.new-way.ensures.items (follows_start c.args.nodes.now c.args.number _ (omega arith) c.requires.tree c.requires.kept)

pub returns-in_default : goal.returns-in_default
returns-in_default c =
    let nodes = c.args.nodes.now in
    follows_end nodes c.args.number c.loop.way.items c.loop.at _ (no_place (λ (n : Node). n.number == c.loop.at) nodes (sym c.in_default.ensures)) c.loop.invariant

pub loop-preserved : goal.loop-preserved
loop-preserved c =
    let nodes = c.args.nodes.now in
    let node = get_or nodes c.in-Some.i c.index-nodes-i.result in
    let here = found_at (λ (n : Node). n.number == c.loop.at) nodes c.in-Some.i c.index-nodes-i.result (sym c.in-Some.ensures) in
    let left : length nodes - c.loop.counter - 1 ≡ length nodes - (c.loop.counter + 1) = omega arith in
    let step = follows_step nodes c.args.number c.loop.way.items c.loop.at _ node c.requires.tree.root here c.loop.invariant in
    let next : Follows nodes c.args.number (c.loop.way.items ++ c.loop.at ∷ []) node.parent (length nodes - (c.loop.counter + 1)) =
    subst (Follows nodes c.args.number (c.loop.way.items ++ c.loop.at ∷ []) node.parent) left step in
    rw c.in_ok-push.ensures.items next

pub returns : goal.returns
returns c = follows_all c.args.nodes.now c.args.number c.loop.way.items c.loop.at _ (omega arith) c.loop.invariant
