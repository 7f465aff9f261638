use Rattle.std.proofs.Common.{IsTrue, sym, ap, subst, max, ◌∙◌}
use Rattle.std.proofs.lemmas.Result.{IfOk-weaker}
use Rattle.vs_pair.specs.Pair.{shown_in}
use Rattle.vs_tree.specs.declared.tree.LineTree.{LineTree}
use Rattle.vs_undo.specs.History.{FitsCount}
use Rattle.vs_paged.specs.Pages.{IsBounded}
use Rattle.vs_session.proofs.Bindings.{history_there, if_err_as, if_ok_two}
use Rattle.vs_session.proofs.StoreLemmas.{present_fits, committed_fits, present_filled, committed_filled, same_text, told_text, keeps_back, ready_back, cause_back}
use Rattle.vs_session.proofs.SummaryLemmas.{bounded_stays, paged_stays}
use Rattle.vs_session.proofs.WorkLemmas.{unworked_back}
use Rattle.vs_session.proofs.binding.bind_in.Goals as goal

pub bind-requires-clause-valid : goal.bind-requires-clause-valid
bind-requires-clause-valid g c = (c.requires.lent.ready, present_fits _ _ _ c.requires.lent.bounded c.requires.lent.paged, committed_fits _ _ _ c.requires.lent.bounded c.requires.lent.paged, present_filled _ _ _ c.requires.lent.paged, committed_filled _ _ _ c.requires.lent.paged)

pub bind-requires-clause-committed : goal.bind-requires-clause-committed
bind-requires-clause-committed g c = same_text _ _ _ c.requires.lent.bounded c.requires.lent.paged

pub returns-clause-bound : goal.returns-clause-bound
returns-clause-bound g c =
    if_ok_two c.bind.result _ _ _ (λ undo bound ready told text paged.
    let is = told_text _ _ _ _ told paged in
    let there = history_there undo text (ready.texts text (c.bind.ensures.present.text text is)) in
    (there.0, bound text there.0 is there.1, there.1)) c.bind.ensures.bound c.bind.ensures.ready

pub returns-clause-refused : goal.returns-clause-refused
returns-clause-refused g c = if_err_as c.bind.result _ _ (λ error refused told text paged. refused text (told_text _ _ _ _ told paged)) c.bind.ensures.refused

pub returns-clause-counts : goal.returns-clause-counts
returns-clause-counts g c =
    IfOk-weaker c.bind.result _ _ (λ undo ready. subst (λ (t : LineTree). FitsCount undo (max 1 t.present.lines)) (sym (c.tree-1.given.1 (sym c.bind.ensures.kept.stays.0))) ready.counts) c.bind.ensures.ready

pub returns-clause-kept : goal.returns-clause-kept
returns-clause-kept g c =
    let kept = c.bind.ensures.kept in
    let stays = kept.stays in
    record {
      paged = λ told text paged.
          paged_stays g.F.World.tells.folder _ c.bind.new.text.pages.pair.now _ _ (shown_in c.args.pair.now (g.F.World.scene c.args.host.now).folder) _ c.bind.new.text.tree.now c.args.tree.now text (c.pair-1.given.1 (sym stays.1.0)) (ap (λ (h : g.row.F.Denot). (g.F.World.scene h).folder) (c.host-1.given.1 (sym stays.1.1))) (c.tree-1.given.1 (sym stays.0))
          c.bind.ensures.present kept.committed kept.valid.3 kept.valid.4 told paged;
      bounded = subst (λ (t : LineTree). IsBounded t) (sym (c.tree-1.given.1 (sym stays.0)))
          (bounded_stays g.F.World.tells.folder (shown_in c.args.pair.now (g.F.World.scene c.args.host.now).folder) (shown_in c.bind.new.text.pages.pair.now (g.F.World.scene c.bind.new.text.pages.host.now).folder) c.args.tree.now c.bind.new.text.tree.now kept.valid.1 c.bind.ensures.present kept.committed c.requires.lent.bounded);
      lines = ap (λ (t : LineTree). t.present.lines) (c.tree-1.given.1 (sym stays.0)) ∙ c.bind.ensures.present.lines;
      ready = ready_back (IsTrue g.F.World.tells.folder) _ _ _ _ (c.pair-1.given.1 (sym stays.1.0)) (ap (λ (h : g.row.F.Denot). (g.F.World.scene h).folder) (c.host-1.given.1 (sym stays.1.1))) kept.valid.0;
      keeps = keeps_back g.F.World.tells c.args.pair.now _ _ (g.F.World.scene c.args.host.now) _ _ (c.pair-1.given.1 (sym stays.1.0)) (ap (λ (h : g.row.F.Denot). g.F.World.scene h) (c.host-1.given.1 (sym stays.1.1))) stays.1.2;
      cause = cause_back g.F.World.tells (g.F.World.scene c.args.host.now).folder_faults _ _ (ap (λ (h : g.row.F.Denot). g.F.World.scene h) (c.host-1.given.1 (sym stays.1.1))) c.bind.ensures.cause;
    }

pub returns-clause-works : goal.returns-clause-works
returns-clause-works g c =
    unworked_back g.F.World.tells.folder c.args.pair.now.pages _ c.bind.new.text.pages.pair.now (c.pair-1.given.1 (sym c.bind.ensures.kept.stays.1.0)) c.bind.ensures.present.worked_by
