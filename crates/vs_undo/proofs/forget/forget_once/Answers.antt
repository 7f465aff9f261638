use Rattle.std.proofs.Common.{◌≡◌, ℕ, List, Some, false, sym, ap, subst, ◌∙◌, inl, inr}
use Rattle.vs_undo.specs.declared.parts.Node.{Node}
use Rattle.vs_undo.specs.declared.parts.Parts.{Parts}
use Rattle.vs_undo.specs.Forgetting.{has_other_child, oldest_child, IsFresh}
use Rattle.vs_undo.specs.Forks.{IsStraightBelow}
use Rattle.vs_undo.specs.Ways.{parent_at}
use Rattle.vs_undo.proofs.ForgetLemmas.{lone_is, oldest_is}
use Rattle.vs_undo.proofs.ForkLemmas.{none_straight, promoted_straight, through_straight}
use Rattle.vs_undo.proofs.forget.forget_once.Goals as goal

at_top : (parts : Parts) (child : ℕ) → IsFresh parts → child ≡ oldest_child parts → parent_at parts.nodes child ≡ Some 0
at_top parts child fresh same = ap (parent_at parts.nodes) same ∙ (oldest_is parts fresh).0

pub has_other_child-requires-clause-child : goal.has_other_child-requires-clause-child
has_other_child-requires-clause-child c = ap (λ ns. parent_at ns c.oldest_child-child.result) c.nodes.ensures ∙ at_top c.args.parts.now c.oldest_child-child.result c.requires.fresh c.oldest_child-child.ensures

pub drop_beside-requires-clause-child : goal.drop_beside-requires-clause-child
drop_beside-requires-clause-child c = at_top c.args.parts.now c.oldest_child-child.result c.requires.fresh c.oldest_child-child.ensures

pub returns-clause-straight : goal.returns-clause-straight
returns-clause-straight c =
    let parts = c.args.parts.now in
    let child = c.oldest_child-child.result in
    let top = at_top parts child c.requires.fresh c.oldest_child-child.ensures in
    let alone : has_other_child child parts.nodes ≡ false = sym (c.has_other_child.ensures ∙ ap (has_other_child child) c.nodes.ensures) ∙ c.if-has_other_child.false in
    elim c.fork_promoted.ensures [
      | inl zero ↦ subst (λ (fork : ℕ). IsStraightBelow fork c.promote.new.parts.nodes) (sym zero) (none_straight c.promote.new.parts.nodes)
      | inr before ↦
          subst (λ (fork : ℕ). IsStraightBelow fork c.promote.new.parts.nodes) (sym before.1)
          (subst (λ (p : Parts). IsStraightBelow c.fork_from.result p.nodes) (sym c.promote.ensures)
          (promoted_straight parts c.requires.fresh.sound child top (lone_is child parts.nodes alone) c.fork_from.result before.0 c.fork_from.ensures))
    ]

pub returns-then-has_other_child-clause-straight : goal.returns-then-has_other_child-clause-straight
returns-then-has_other_child-clause-straight c =
    subst (λ (ns : List Node). IsStraightBelow c.fork_from.result ns) (sym c.drop_beside.ensures)
    (through_straight c.oldest_child-child.result c.fork_from.result c.args.parts.now.nodes c.fork_from.ensures)
