use Rattle.std.proofs.Common.{◌≡◌, ◌<◌, length, get_or, sym, ap, ◌∙◌, arith}
use Rattle.std.proofs.lemmas.Bool.Decides.{nat_tests}
use Rattle.std.proofs.lemmas.List.{get_or_default}
use Rattle.vs_undo.specs.declared.parts.Node.{Node}
use Rattle.vs_undo.specs.Sound.{child_of}
use Rattle.vs_undo.proofs.ForkLemmas.{none, last_used_more, straight_below}
use Rattle.vs_undo.proofs.forks.first_fork.Goals as goal
use Rattle.vs_undo.proofs.forks.first_fork.Goals.{then-last_child-node, else-last_child-node}

pub loop-node-preserved : goal.loop-node-preserved
loop-node-preserved c =
    let parts = c.args.parts.now in
    let at = c.loop-node.node-index in
    let item = c.node-item.result in
    let within : at < length parts.nodes = omega (arith, c.loop-node-test.true, ap length c.nodes-node-items.ensures) in
    let same : item ≡ get_or parts.nodes at none = c.node-item.is ∙ (ap (λ ns. get_or ns at item) c.nodes-node-items.ensures ∙ get_or_default parts.nodes at item none within) in
    elim c.if-last_child-node.branch [
      | then-last_child-node w ↦ last_used_more parts at c.loop-node.fork c.if-last_child-node.fork (omega (arith, w.fork-is)) c.loop-node.invariant
          (λ less. absurd (omega (arith, less, w.fork-is, ap (λ (n : Node). n.parent) same)))
      | else-last_child-node w ↦ last_used_more parts at c.loop-node.fork c.if-last_child-node.fork (omega (arith, w.fork-is)) c.loop-node.invariant (λ less.
          let is : c.last_child.result ≡ item.number = let t = w.if-last_child-node in grind (arith, nat_tests) in
          ap (λ (n : Node). child_of parts n.parent) (sym same) ∙ (sym c.last_child.ensures ∙ (is ∙ ap (λ (n : Node). n.number) same)))
    ]

pub returns : goal.returns
returns c = straight_below c.args.parts.now c.loop-node.fork (λ i within less. c.loop-node.invariant i (omega (arith, within, c.loop-node-test.false, ap length c.nodes-node-items.ensures)) less)
