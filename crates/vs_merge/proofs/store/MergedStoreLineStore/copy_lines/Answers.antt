use Rattle.std.proofs.Common.{refl, ap}
use Rattle.vs_pages.specs.State.{Commits}
use Rattle.vs_tree.specs.declared.tree.LineTree.{LineTree}
use Rattle.vs_tree.proofs.Kept.{fits_kept, text_kept, work_kept}
use Rattle.vs_merge.proofs.Taking.{filled_kept}
use Rattle.vs_merge.proofs.store.MergedStoreLineStore.copy_lines.Goals as goal

pub returns-clause-kept : goal.returns-clause-kept
returns-clause-kept g c =
    let kept = c.copy_lines.ensures.kept in
    let present = ap (λ (t : LineTree). t.present) c.copy_lines.ensures.tree in
    let committed = ap (λ (t : LineTree). t.committed) c.copy_lines.ensures.tree in
    record {
      valid = (
        kept.valid,
        fits_kept _ _ _ _ _ kept.present present c.requires.valid.1,
        fits_kept _ _ _ _ _ kept.committed committed c.requires.valid.2,
        filled_kept _ _ _ _ _ kept.present present c.requires.valid.3,
        filled_kept _ _ _ _ _ kept.committed committed c.requires.valid.4,
      );
      stays = (refl, kept.stays);
      present = text_kept _ _ _ _ _ _ _ (λ told. work_kept (g.P.Pages.shows c.args.self.now.pages) (g.P.Pages.shows c.copy_lines.new.pages) (kept.still.worked told) (kept.commits told)) kept.present present;
      committed = text_kept _ _ _ _ _ _ _ (λ told. ap (λ (c : Commits). c.last) (kept.commits told)) kept.committed committed;
    }
