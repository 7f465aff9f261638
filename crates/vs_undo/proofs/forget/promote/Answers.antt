use Rattle.std.proofs.Common.{◌≡◌, ◌==◌, List, Some, sym, ap, subst, ◌∙◌, arith}
use Rattle.std.specs.List.{position}
use Rattle.vs_undo.specs.declared.parts.Node.{Node}
use Rattle.vs_undo.specs.Sound.{child_of}
use Rattle.vs_undo.specs.Ways.{parent_at}
use Rattle.vs_undo.proofs.forget.promote.Goals as goal

pub take_first-requires-clause-first : goal.take_first-requires-clause-first
take_first-requires-clause-first c = subst (λ (ns : List Node). position (λ (n : Node). n.number == c.args.child) ns ≡ Some 0) c.nodes.ensures (c.is_first.ensures c.if-is_first.true)

pub take_first-requires-clause-only : goal.take_first-requires-clause-only
take_first-requires-clause-only c = λ k.
    let parts = c.args.parts.now in
    let are = c.requires.sound.children in
    let last : c.last_child-grandchild.result ≡ child_of parts c.args.child = c.last_child-grandchild.ensures in (
      (λ is.
          let some = are.some c.args.child k is in
          ((λ zero. some (sym last ∙ zero)), c.requires.straight k (child_of parts c.args.child) c.args.child (omega arith) is (are.each c.args.child some) ∙ sym last)),
      (λ is. ap (parent_at parts.nodes) (is.1 ∙ last) ∙ are.each c.args.child (λ zero. is.0 (last ∙ zero))),
    )
