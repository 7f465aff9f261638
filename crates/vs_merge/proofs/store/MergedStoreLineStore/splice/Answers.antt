-- After an error the tree is the same, and the pages are those before the first change.
use Rattle.std.proofs.Common.{refl, ap}
use Rattle.vs_pages.specs.State.{Commits}
use Rattle.vs_pages.proofs.Steps.{history_present}
use Rattle.vs_tree.specs.declared.tree.LineTree.{LineTree}
use Rattle.vs_tree.proofs.Kept.{fits_kept, text_kept, work_kept}
use Rattle.vs_tree.proofs.Results.{all_done, both_failed}
use Rattle.vs_tree.proofs.Working.{history_worked, works_told}
use Rattle.vs_merge.proofs.Taking.{filled_kept}
use Rattle.vs_merge.proofs.store.MergedStoreLineStore.splice.Goals as goal

pub returns-clause-ok : goal.returns-clause-ok
returns-clause-ok g c =
    all_done c.splice.result c.map_err.result c.map_err.ensures.variant
    (λ text lines bound. record {
      text = λ old h. record { told = h.told; has = text h.told old h.has };
      lines = lines;
      works = λ old h small. works_told _ (g.P.Pages.shows c.args.self.now.pages) (g.P.Pages.shows c.splice.new.pages) _ c.splice.ensures.kept.commits (λ told. bound told old h.has small);
    })
    c.splice.ensures.text c.splice.ensures.lines c.splice.ensures.bound

pub returns-clause-same : goal.returns-clause-same
returns-clause-same g c =
    both_failed c.splice.result c.map_err.result c.map_err.ensures.variant
    (λ same back. text_kept _ _ _ _ _ _ _
    (λ told. work_kept (g.P.Pages.shows c.args.self.now.pages) (g.P.Pages.shows c.splice.new.pages) (history_worked (g.P.Pages.shows c.args.self.now.pages) (g.P.Pages.shows c.splice.new.pages) (back told)) (c.splice.ensures.kept.commits told))
    (λ told. history_present (g.P.Pages.shows c.args.self.now.pages) (g.P.Pages.shows c.splice.new.pages) (back told))
    (ap (λ (t : LineTree). t.present) same))
    c.splice.ensures.same c.splice.ensures.back

pub returns-clause-kept : goal.returns-clause-kept
returns-clause-kept g c =
    let kept = c.splice.ensures.kept in
    record {
      valid = (
        kept.valid,
        c.splice.ensures.fits,
        fits_kept _ _ _ _ _ kept.committed c.splice.ensures.before c.requires.valid.2,
        c.splice.ensures.filled,
        filled_kept _ _ _ _ _ kept.committed c.splice.ensures.before c.requires.valid.4,
      );
      stays = (refl, kept.stays);
      committed = text_kept _ _ _ _ _ _ _ (λ told. ap (λ (made : Commits). made.last) (kept.commits told)) kept.committed c.splice.ensures.before;
    }
