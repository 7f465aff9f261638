use Rattle.std.proofs.Common.{ap}
use Rattle.vs_pages.specs.State.{Commits}
use Rattle.vs_tree.specs.declared.tree.LineTree.{LineTree}
use Rattle.vs_tree.proofs.Kept.{fits_kept, text_kept, work_committed}
use Rattle.vs_merge.proofs.Taking.{filled_kept}
use Rattle.vs_merge.proofs.store.MergedStoreLineStore.commit.Goals as goal

pub returns-clause-valid : goal.returns-clause-valid
returns-clause-valid g c =
    let present = ap (λ (t : LineTree). t.present) c.commit-2.ensures in
    let committed = ap (λ (t : LineTree). t.committed) c.commit-2.ensures in (
      c.commit.ensures.valid,
      fits_kept _ _ _ _ _ c.commit.ensures.present present c.requires.1,
      fits_kept _ _ _ _ _ c.commit.ensures.committed committed c.requires.1,
      filled_kept _ _ _ _ _ c.commit.ensures.present present c.requires.3,
      filled_kept _ _ _ _ _ c.commit.ensures.committed committed c.requires.3,
    )

pub returns-clause-present : goal.returns-clause-present
returns-clause-present g c =
    let present = ap (λ (t : LineTree). t.present) c.commit-2.ensures in
    text_kept _ _ _ _ _ _ _ (λ told. work_committed (g.P.Pages.shows c.args.self.now.pages) (g.P.Pages.shows c.commit.new.self) (c.commit.ensures.worked told) (c.commit.ensures.commits told)) c.commit.ensures.present present

pub returns-clause-committed : goal.returns-clause-committed
returns-clause-committed g c =
    let committed = ap (λ (t : LineTree). t.committed) c.commit-2.ensures in
    text_kept _ _ _ _ _ _ _ (λ told. ap (λ (made : Commits). made.last) (c.commit.ensures.commits told)) c.commit.ensures.committed committed
