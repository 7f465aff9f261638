use Rattle.std.proofs.Common.{sym, subst}
use Rattle.vs_undo.specs.declared.parts.Parts.{Parts}
use Rattle.vs_undo.specs.Sound.{IsSound}
use Rattle.vs_undo.specs.History.{IsHistory, FitsCount, FitsText, marked, history_marked}
use Rattle.vs_undo.specs.Forks.{IsStraightBelow}
use Rattle.vs_undo.specs.Meetings.{IsSettled}
use Rattle.vs_undo.proofs.ForkLemmas.{same_straight}
use Rattle.vs_undo.proofs.SettledLemmas.{marked_settled}
use Rattle.vs_undo.proofs.MarkLemmas.{marked_differs, marked_saves, parents, still_sound, marked_history, marked_count, marked_text}
use Rattle.vs_undo.proofs.tree.UndoTree.mark_write.Goals as goal

pub invariant_of-self : goal.invariant_of-self
invariant_of-self c = let parts = c.self.inside.parts in
    record {
      sound = subst (λ (p : Parts). IsSound p) (sym c.mark.ensures.marked) (still_sound parts (marked parts) (marked_differs parts) c.self.invariant.sound (marked_saves parts c.self.invariant.sound));
      settled = λ is. subst (λ (p : Parts). IsSettled p) (sym c.mark.ensures.marked) (marked_settled parts (c.self.invariant.settled is));
      straight =
          subst (λ (p : Parts). IsStraightBelow c.self.inside.fork p.nodes) (sym c.mark.ensures.marked)
          (same_straight parts.nodes (marked parts).nodes (parents parts (marked parts) (marked_differs parts)) c.self.inside.fork c.self.invariant.straight);
    }

pub returns-clause-history : goal.returns-clause-history
returns-clause-history c = λ text history is.
    subst (λ (p : Parts). IsHistory p text (history_marked history)) (sym c.mark.ensures.marked) (marked_history c.self.inside.parts text history (subst (λ (p : Parts). IsHistory p text history) (sym c.self.view_is) is))

pub returns-clause-counts : goal.returns-clause-counts
returns-clause-counts c = λ lines sees.
    subst (λ (p : Parts). FitsCount p lines) (sym c.mark.ensures.marked) (marked_count c.self.inside.parts lines (subst (λ (p : Parts). FitsCount p lines) (sym c.self.view_is) sees))

pub returns-clause-texts : goal.returns-clause-texts
returns-clause-texts c = λ text sees.
    subst (λ (p : Parts). FitsText p text) (sym c.mark.ensures.marked) (marked_text c.self.inside.parts text (subst (λ (p : Parts). FitsText p text) (sym c.self.view_is) sees))
