use Rattle.std.proofs.Common.{IsTrue, sym, ap, subst, max}
use Rattle.std.proofs.lemmas.Result.{IfOk-weaker}
use Rattle.vs_pair.specs.Pair.{shown_in}
use Rattle.vs_tree.specs.declared.tree.LineTree.{LineTree}
use Rattle.vs_undo.specs.History.{FitsCount}
use Rattle.vs_paged.specs.Pages.{IsBounded}
use Rattle.vs_session.proofs.StoreLemmas.{present_fits, committed_fits, present_filled, committed_filled, same_text, told_text, paged_text, bounded_tree, stands_paged, stands_undo, stands_back, keeps_back, ready_back, cause_back, kept_same}
use Rattle.vs_session.proofs.WorkLemmas.{unworked_back}
use Rattle.vs_session.proofs.unbinding.unbind_in.Goals as goal

pub unbind-requires : goal.unbind-requires
unbind-requires g c =
    let paged = stands_paged g.F.World.tells.folder c.args.pair.now (g.F.World.scene c.args.host.now).folder c.args.tree.now c.args.history.now c.requires.lent.stands in
    record {
      valid = (c.requires.lent.ready, present_fits _ _ _ c.requires.lent.bounded paged, committed_fits _ _ _ c.requires.lent.bounded paged, present_filled _ _ _ paged, committed_filled _ _ _ paged);
      committed = same_text _ _ _ c.requires.lent.bounded paged;
      counts = c.requires.lent.counts;
      texts = stands_undo g.F.World.tells.folder c.args.pair.now (g.F.World.scene c.args.host.now).folder c.args.tree.now c.args.history.now c.requires.lent.stands;
    }

pub returns-clause-made : goal.returns-clause-made
returns-clause-made g c =
    IfOk-weaker c.unbind.result _ _ (λ contents made told state stands. made state.text state.history (told_text _ _ _ _ told stands.text) stands.history) c.unbind.ensures.made

pub returns-clause-stands : goal.returns-clause-stands
returns-clause-stands g c told state stands =
    let kept = c.unbind.ensures.kept in
    let paged = stands_paged g.F.World.tells.folder c.args.pair.now (g.F.World.scene c.args.host.now).folder c.args.tree.now c.args.history.now c.requires.lent.stands in
    stands_back _ _ _ _ _ _ _ _ (c.pair-1.given.1 (sym kept.stays.1.0)) (ap (λ (h : g.row.F.Denot). (g.F.World.scene h).folder) (c.host-1.given.1 (sym kept.stays.1.1))) (c.tree-1.given.1 (sym kept.stays.0))
    (record { text = paged_text _ _ _ _ (kept_same g.F.World.tells.folder (shown_in c.args.pair.now (g.F.World.scene c.args.host.now).folder) (shown_in c.unbind.new.text.pages.pair.now (g.F.World.scene c.unbind.new.text.pages.host.now).folder) c.args.tree.now c.unbind.new.text.tree.now c.requires.lent.bounded paged kept.present kept.committed) kept.valid.3 kept.valid.4 (kept.present.text state.text (told_text _ _ _ _ told stands.text)); history = stands.history })

pub returns-clause-kept : goal.returns-clause-kept
returns-clause-kept g c =
    let kept = c.unbind.ensures.kept in
    let stays = kept.stays in
    let paged = stands_paged g.F.World.tells.folder c.args.pair.now (g.F.World.scene c.args.host.now).folder c.args.tree.now c.args.history.now c.requires.lent.stands in
    record {
      bounded = subst (λ (t : LineTree). IsBounded t) (sym (c.tree-1.given.1 (sym stays.0)))
          (bounded_tree g.F.World.tells.folder (shown_in c.unbind.new.text.pages.pair.now (g.F.World.scene c.unbind.new.text.pages.host.now).folder) c.unbind.new.text.tree.now kept.valid.1 (kept_same g.F.World.tells.folder (shown_in c.args.pair.now (g.F.World.scene c.args.host.now).folder) (shown_in c.unbind.new.text.pages.pair.now (g.F.World.scene c.unbind.new.text.pages.host.now).folder) c.args.tree.now c.unbind.new.text.tree.now c.requires.lent.bounded paged kept.present kept.committed));
      counts = subst (λ (t : LineTree). FitsCount c.args.history.now (max 1 t.present.lines)) (sym (c.tree-1.given.1 (sym stays.0))) (subst (λ n. FitsCount c.args.history.now (max 1 n)) (sym kept.present.lines) c.requires.lent.counts);
      ready = ready_back (IsTrue g.F.World.tells.folder) _ _ _ _ (c.pair-1.given.1 (sym stays.1.0)) (ap (λ (h : g.row.F.Denot). (g.F.World.scene h).folder) (c.host-1.given.1 (sym stays.1.1))) kept.valid.0;
      keeps = keeps_back g.F.World.tells c.args.pair.now _ _ (g.F.World.scene c.args.host.now) _ _ (c.pair-1.given.1 (sym stays.1.0)) (ap (λ (h : g.row.F.Denot). g.F.World.scene h) (c.host-1.given.1 (sym stays.1.1))) stays.1.2;
      cause = cause_back g.F.World.tells (g.F.World.scene c.args.host.now).folder_faults _ _ (ap (λ (h : g.row.F.Denot). g.F.World.scene h) (c.host-1.given.1 (sym stays.1.1))) c.unbind.ensures.cause;
    }

pub returns-clause-works : goal.returns-clause-works
returns-clause-works g c =
    let kept = c.unbind.ensures.kept in
    unworked_back g.F.World.tells.folder c.args.pair.now.pages _ c.unbind.new.text.pages.pair.now (c.pair-1.given.1 (sym kept.stays.1.0)) kept.present.worked_by
