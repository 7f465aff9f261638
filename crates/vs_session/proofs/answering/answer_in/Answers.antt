use Rattle.std.proofs.Common.{IsTrue, sym, ap, subst, max}
use Rattle.std.proofs.lemmas.Result.{IfOk-weaker}
use Rattle.vs_pair.specs.Pair.{shown_in}
use Rattle.vs_tree.specs.declared.tree.LineTree.{LineTree}
use Rattle.vs_undo.specs.History.{FitsCount, IsHistory}
use Rattle.vs_paged.specs.Pages.{IsBounded}
use Rattle.vs_session.proofs.StoreLemmas.{present_fits, committed_fits, present_filled, committed_filled, same_text, told_text, paged_text, bounded_tree, stands_paged, stands_undo, stands_back, keeps_back, ready_back, cause_back}
use Rattle.vs_paged.proofs.SyncLemmas.{on_err_as}
use Rattle.vs_machine.specs.Answers.{meaning_at}
use Rattle.vs_session.specs.Work.{most_in}
use Rattle.vs_session.proofs.WorkLemmas.{unworked_back, works_back}
use Rattle.vs_session.proofs.answering.answer_in.Goals as goal

pub answer-requires-clause-ready : goal.answer-requires-clause-ready
answer-requires-clause-ready g c =
    let paged = stands_paged g.F.World.tells.folder c.args.pair.now (g.F.World.scene c.args.host.now).folder c.args.tree.now c.args.history.now c.requires.lent.stands in
    record {
      valid = (c.requires.lent.ready, present_fits _ _ _ c.requires.lent.bounded paged, committed_fits _ _ _ c.requires.lent.bounded paged, present_filled _ _ _ paged, committed_filled _ _ _ paged);
      committed = same_text _ _ _ c.requires.lent.bounded paged;
      counts = c.requires.lent.counts;
      texts = stands_undo g.F.World.tells.folder c.args.pair.now (g.F.World.scene c.args.host.now).folder c.args.tree.now c.args.history.now c.requires.lent.stands;
    }

pub returns-clause-reply : goal.returns-clause-reply
returns-clause-reply g c =
    IfOk-weaker c.answer.result _ _ (λ answered ans told state instruction stands cursor is. (ans state instruction (record { text = told_text _ _ _ _ told stands.text; history = stands.history; cursor = cursor }) is).reply) c.answer.ensures.answers

pub returns-clause-state : goal.returns-clause-state
returns-clause-state g c =
    let ready = c.answer.ensures.atomic.ready in
    let stays = c.answer.ensures.atomic.stays in
    IfOk-weaker c.answer.result _ _
    (λ answered ans told state instruction stands cursor is.
    let after = (ans state instruction (record { text = told_text _ _ _ _ told stands.text; history = stands.history; cursor = cursor }) is).after in
    (stands_back _ _ _ _ _ _ _ _ (c.pair-1.given.1 (sym stays.1.0)) (ap (λ (h : g.row.F.Denot). (g.F.World.scene h).folder) (c.host-1.given.1 (sym stays.1.1))) (c.tree-1.given.1 (sym stays.0)) (record { text = paged_text _ _ _ _ ready.committed ready.valid.3 ready.valid.4 after.text; history = after.history }), after.cursor))
    c.answer.ensures.answers

pub returns-clause-oldest : goal.returns-clause-oldest
returns-clause-oldest g c =
    IfOk-weaker c.answer.result _ _ (λ answered ans told state instruction stands cursor is. (ans state instruction (record { text = told_text _ _ _ _ told stands.text; history = stands.history; cursor = cursor }) is).oldest) c.answer.ensures.answers

pub returns-clause-err : goal.returns-clause-err
returns-clause-err g c =
    let ready = c.answer.ensures.atomic.ready in
    let stays = c.answer.ensures.atomic.stays in
    on_err_as c.answer.result _ _
    (λ stayed told state stands.
    stands_back _ _ _ _ _ _ _ _ (c.pair-1.given.1 (sym stays.1.0)) (ap (λ (h : g.row.F.Denot). (g.F.World.scene h).folder) (c.host-1.given.1 (sym stays.1.1))) (c.tree-1.given.1 (sym stays.0))
    (record { text = paged_text _ _ _ _ ready.committed ready.valid.3 ready.valid.4 (stayed.text.text state.text (told_text _ _ _ _ told stands.text)); history = subst (λ p. IsHistory p state.text state.history) (sym stayed.tree) stands.history }))
    c.answer.ensures.atomic.stayed

pub returns-clause-kept : goal.returns-clause-kept
returns-clause-kept g c =
    let ready = c.answer.ensures.atomic.ready in
    let stays = c.answer.ensures.atomic.stays in
    record {
      bounded = subst (λ (t : LineTree). IsBounded t) (sym (c.tree-1.given.1 (sym stays.0))) (bounded_tree g.F.World.tells.folder (shown_in c.answer.new.store.pages.pair.now (g.F.World.scene c.answer.new.store.pages.host.now).folder) c.answer.new.store.tree.now ready.valid.1 ready.committed);
      counts = subst (λ (t : LineTree). FitsCount c.answer.new.history (max 1 t.present.lines)) (sym (c.tree-1.given.1 (sym stays.0))) ready.counts;
      ready = ready_back (IsTrue g.F.World.tells.folder) _ _ _ _ (c.pair-1.given.1 (sym stays.1.0)) (ap (λ (h : g.row.F.Denot). (g.F.World.scene h).folder) (c.host-1.given.1 (sym stays.1.1))) ready.valid.0;
      keeps = keeps_back g.F.World.tells c.args.pair.now _ _ (g.F.World.scene c.args.host.now) _ _ (c.pair-1.given.1 (sym stays.1.0)) (ap (λ (h : g.row.F.Denot). g.F.World.scene h) (c.host-1.given.1 (sym stays.1.1))) stays.1.2;
      cause = cause_back g.F.World.tells (g.F.World.scene c.args.host.now).folder_faults _ _ (ap (λ (h : g.row.F.Denot). g.F.World.scene h) (c.host-1.given.1 (sym stays.1.1))) c.answer.ensures.atomic.cause;
    }

pub returns-clause-works : goal.returns-clause-works
returns-clause-works g c =
    let stays = c.answer.ensures.atomic.stays in
    IfOk-weaker c.answer.result _ _
    (λ answered ans told state instruction stands cursor is.
    works_back g.F.World.tells.folder state (meaning_at state instruction) (most_in c.args.tree.now) c.args.pair.now.pages _ c.answer.new.store.pages.pair.now (c.pair-1.given.1 (sym stays.1.0)) told
    (ans state instruction (record { text = told_text _ _ _ _ told stands.text; history = stands.history; cursor = cursor }) is).works)
    c.answer.ensures.answers

pub returns-clause-idle : goal.returns-clause-idle
returns-clause-idle g c =
    let stays = c.answer.ensures.atomic.stays in
    on_err_as c.answer.result _ _
    (λ stayed. unworked_back g.F.World.tells.folder c.args.pair.now.pages _ c.answer.new.store.pages.pair.now (c.pair-1.given.1 (sym stays.1.0)) stayed.text.worked_by) c.answer.ensures.atomic.stayed
