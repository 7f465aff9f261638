-- The numbers, the pages and their work are those of the last commit.
use Rattle.std.proofs.Common.{ap}
use Rattle.vs_pages.specs.State.{Commits}
use Rattle.vs_tree.specs.declared.tree.LineTree.{LineTree}
use Rattle.vs_tree.proofs.Kept.{fits_kept, text_kept, work_back}
use Rattle.vs_merge.proofs.Taking.{filled_kept}
use Rattle.vs_merge.proofs.store.MergedStoreLineStore.rollback.Goals as goal

pub returns-clause-present : goal.returns-clause-present
returns-clause-present g c =
    let present = ap (λ (t : LineTree). t.present) c.rollback-2.ensures in
    text_kept _ _ _ _ _ _ _ (λ told. work_back (g.P.Pages.shows c.args.self.now.pages) (g.P.Pages.shows c.rollback.new.self) (c.rollback.ensures.worked told) (c.rollback.ensures.commits told)) c.rollback.ensures.present present

pub returns-clause-committed : goal.returns-clause-committed
returns-clause-committed g c =
    let committed = ap (λ (t : LineTree). t.committed) c.rollback-2.ensures in
    text_kept _ _ _ _ _ _ _ (λ told. ap (λ (made : Commits). made.last) (c.rollback.ensures.commits told)) c.rollback.ensures.committed committed

pub returns-clause-valid : goal.returns-clause-valid
returns-clause-valid g c =
    let present = ap (λ (t : LineTree). t.present) c.rollback-2.ensures in
    let committed = ap (λ (t : LineTree). t.committed) c.rollback-2.ensures in (
      c.rollback.ensures.valid,
      fits_kept _ _ _ _ _ c.rollback.ensures.present present c.requires.2,
      fits_kept _ _ _ _ _ c.rollback.ensures.committed committed c.requires.2,
      filled_kept _ _ _ _ _ c.rollback.ensures.present present c.requires.4,
      filled_kept _ _ _ _ _ c.rollback.ensures.committed committed c.requires.4,
    )
