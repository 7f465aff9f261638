use Rattle.std.proofs.Common.{refl, ap}
use Rattle.vs_pages.specs.Maps.{no_pages}
use Rattle.vs_tree.specs.declared.tree.LineTree.{LineTree}
use Rattle.vs_paged.proofs.PageLemmas.{committed_now, text_stays}
use Rattle.vs_paged.proofs.opening.commit_in.Goals as goal

pub returns-clause-text : goal.returns-clause-text
returns-clause-text c = text_stays _ _ _ _ (c.commit.ensures.present refl) (ap (λ (t : LineTree). t.present) c.commit-2.ensures)

pub returns-clause-committed : goal.returns-clause-committed
returns-clause-committed c =
    committed_now c.args.pages.now c.commit.new.self c.args.tree.now c.commit-2.new.self c.requires.present c.requires.filled (c.commit.ensures.present refl) (c.commit.ensures.committed refl) (c.commit.ensures.worked refl)
    c.commit-2.ensures

pub returns-clause-here : goal.returns-clause-here
returns-clause-here c = c.commit.ensures.stays.backed no_pages
