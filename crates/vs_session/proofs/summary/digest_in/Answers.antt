use Rattle.std.proofs.Common.{IsTrue, sym, ap, subst, ◌∙◌}
use Rattle.std.proofs.lemmas.Result.{IfOk-weaker}
use Rattle.vs_pair.specs.Pair.{shown_in}
use Rattle.vs_tree.specs.declared.tree.LineTree.{LineTree}
use Rattle.vs_paged.specs.Pages.{IsBounded}
use Rattle.vs_session.proofs.StoreLemmas.{present_fits, committed_fits, present_filled, committed_filled, told_text, keeps_back, ready_back, cause_back}
use Rattle.vs_session.proofs.SummaryLemmas.{bounded_stays, paged_stays}
use Rattle.vs_session.proofs.summary.digest_in.Goals as goal

pub digest-requires : goal.digest-requires
digest-requires g c = (c.requires.lent.ready, present_fits _ _ _ c.requires.lent.bounded c.requires.lent.paged, committed_fits _ _ _ c.requires.lent.bounded c.requires.lent.paged, present_filled _ _ _ c.requires.lent.paged, committed_filled _ _ _ c.requires.lent.paged)

pub returns-clause-digest : goal.returns-clause-digest
returns-clause-digest g c =
    IfOk-weaker c.digest.result _ _ (λ digest is told text paged. is text (told_text _ _ _ _ told paged)) c.digest.ensures.digest

pub returns-clause-kept : goal.returns-clause-kept
returns-clause-kept g c =
    let kept = c.digest.ensures.kept in
    let stays = kept.stays in
    record {
      paged = λ told text paged.
          paged_stays g.F.World.tells.folder _ c.digest.new.text.pages.pair.now _ _ (shown_in c.args.pair.now (g.F.World.scene c.args.host.now).folder) _ c.digest.new.text.tree.now c.args.tree.now text (c.pair-1.given.1 (sym stays.1.0)) (ap (λ (h : g.row.F.Denot). (g.F.World.scene h).folder) (c.host-1.given.1 (sym stays.1.1))) (c.tree-1.given.1 (sym stays.0))
          kept.present kept.committed kept.valid.3 kept.valid.4 told paged;
      bounded = subst (λ (t : LineTree). IsBounded t) (sym (c.tree-1.given.1 (sym stays.0)))
          (bounded_stays g.F.World.tells.folder (shown_in c.args.pair.now (g.F.World.scene c.args.host.now).folder) (shown_in c.digest.new.text.pages.pair.now (g.F.World.scene c.digest.new.text.pages.host.now).folder) c.args.tree.now c.digest.new.text.tree.now kept.valid.1 kept.present kept.committed c.requires.lent.bounded);
      lines = ap (λ (t : LineTree). t.present.lines) (c.tree-1.given.1 (sym stays.0)) ∙ kept.present.lines;
      ready = ready_back (IsTrue g.F.World.tells.folder) _ _ _ _ (c.pair-1.given.1 (sym stays.1.0)) (ap (λ (h : g.row.F.Denot). (g.F.World.scene h).folder) (c.host-1.given.1 (sym stays.1.1))) kept.valid.0;
      keeps = keeps_back g.F.World.tells c.args.pair.now _ _ (g.F.World.scene c.args.host.now) _ _ (c.pair-1.given.1 (sym stays.1.0)) (ap (λ (h : g.row.F.Denot). g.F.World.scene h) (c.host-1.given.1 (sym stays.1.1))) stays.1.2;
      cause = cause_back g.F.World.tells (g.F.World.scene c.args.host.now).folder_faults _ _ (ap (λ (h : g.row.F.Denot). g.F.World.scene h) (c.host-1.given.1 (sym stays.1.1))) c.digest.ensures.cause;
    }
