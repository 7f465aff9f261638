use Rattle.std.proofs.Common.{◌≡◌, ◌+◌, ◌<◌, ◌∷◌, [], sym, ap, subst, ◌∙◌, arith}
use Rattle.vs_undo.specs.declared.parts.Parts.{Parts}
use Rattle.vs_undo.specs.Forks.{IsStraightBelow}
use Rattle.vs_undo.specs.History.{IsHistory, FitsCount, FitsText, pushed}
use Rattle.vs_undo.proofs.PushForgets.{fresh_after, settled_after, current_left, last_left, sound_left, settled_left, few_left, whole_left, history_left, count_left, text_left}
use Rattle.vs_undo.proofs.tree.UndoTree.push.Goals as goal

pub forget-root-requires-clause-fresh : goal.forget-root-requires-clause-fresh
forget-root-requires-clause-fresh c = fresh_after c.args.back c.args.time c.self.inside.parts c.push.new.parts c.self.invariant.sound (omega arith) c.in_ok-push.ensures.ok

pub forget-root-requires-clause-settled : goal.forget-root-requires-clause-settled
forget-root-requires-clause-settled c = λ is.
    settled_after c.args.back c.args.time c.self.inside.parts c.push.new.parts c.self.invariant.sound c.in_ok-push.ensures.ok (c.self.invariant.settled is)

pub forget-root-requires-clause-straight : goal.forget-root-requires-clause-straight
forget-root-requires-clause-straight c =
    subst (λ (p : Parts). IsStraightBelow c.fork_pushed-fork.result p.nodes) (sym c.in_ok-push.ensures.ok) (c.fork_pushed-fork.ensures (c.args.back ∷ []) c.args.time)

pub invariant_of-self-2 : goal.invariant_of-self-2
invariant_of-self-2 c = record {
  sound = sound_left c.args.back c.args.time c.args.levels c.self.inside.parts c.push.new.parts c.forget-root.new.parts c.forget-root.result c.self.invariant.sound (omega arith) c.requires.some c.in_ok-push.ensures.ok c.forget-root.ensures.left;
  settled = λ is. settled_left c.args.back c.args.time c.args.levels c.self.inside.parts c.push.new.parts c.forget-root.new.parts c.forget-root.result c.self.invariant.sound (omega arith) c.requires.some c.in_ok-push.ensures.ok c.forget-root.ensures.left (c.self.invariant.settled is);
  straight = c.forget-root.ensures.straight;
}

pub returns-clause-few : goal.returns-clause-few
returns-clause-few c = few_left c.args.back c.args.time c.args.levels c.self.inside.parts c.push.new.parts c.forget-root.new.parts c.forget-root.result c.self.invariant.sound (omega arith) c.requires.some c.in_ok-push.ensures.ok c.forget-root.ensures.left

pub returns-clause-whole : goal.returns-clause-whole
returns-clause-whole c = subst (λ (p : Parts). p.last < c.args.levels → c.forget-root.new.parts ≡ pushed (c.args.back ∷ []) c.args.time p) c.self.view_is (whole_left c.args.back c.args.time c.args.levels c.self.inside.parts c.push.new.parts c.forget-root.new.parts c.forget-root.result c.self.invariant.sound (omega arith) c.requires.some c.in_ok-push.ensures.ok c.forget-root.ensures.left)

pub returns-clause-history : goal.returns-clause-history
returns-clause-history c = λ before after history is leads.
    history_left c.args.back c.args.time c.args.levels c.self.inside.parts c.push.new.parts c.forget-root.new.parts c.forget-root.result c.self.invariant.sound (omega arith) c.requires.some c.in_ok-push.ensures.ok c.forget-root.ensures.left before after history (subst (λ (p : Parts). IsHistory p before history) (sym c.self.view_is) is) leads

pub returns-clause-counts : goal.returns-clause-counts
returns-clause-counts c = λ before after fits leads.
    count_left c.args.back c.args.time c.args.levels c.self.inside.parts c.push.new.parts c.forget-root.new.parts c.forget-root.result c.self.invariant.sound (omega arith) c.requires.some c.in_ok-push.ensures.ok c.forget-root.ensures.left before after (subst (λ (p : Parts). FitsCount p before) (sym c.self.view_is) fits) leads

pub returns-clause-texts : goal.returns-clause-texts
returns-clause-texts c = λ before after fits leads.
    text_left c.args.back c.args.time c.args.levels c.self.inside.parts c.push.new.parts c.forget-root.new.parts c.forget-root.result c.self.invariant.sound (omega arith) c.requires.some c.in_ok-push.ensures.ok c.forget-root.ensures.left before after (subst (λ (p : Parts). FitsText p before) (sym c.self.view_is) fits) leads

pub returns-clause-current : goal.returns-clause-current
returns-clause-current c = current_left c.args.back c.args.time c.args.levels c.self.inside.parts c.push.new.parts c.forget-root.new.parts c.forget-root.result c.self.invariant.sound (omega arith) c.requires.some c.in_ok-push.ensures.ok c.forget-root.ensures.left ∙ ap (λ (p : Parts). p.last + 1) c.self.view_is

pub returns-clause-last : goal.returns-clause-last
returns-clause-last c =
    let last = last_left c.args.back c.args.time c.args.levels c.self.inside.parts c.push.new.parts c.forget-root.new.parts c.forget-root.result c.self.invariant.sound (omega arith) c.requires.some c.in_ok-push.ensures.ok c.forget-root.ensures.left in
    (last.0 ∙ ap (λ (p : Parts). p.last + 1) c.self.view_is, last.1 ∙ ap (λ (p : Parts). p.last_save) c.self.view_is)
