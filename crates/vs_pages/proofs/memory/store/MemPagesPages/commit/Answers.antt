use Rattle.std.proofs.Common.{List, ap, ◌∙◌}
use Rattle.vs_pages.specs.Cells.{Cells, seen}
use Rattle.vs_pages.specs.Maps.{no_pages}
use Rattle.vs_pages.specs.History.{first_of, moments_in, numbers_in}
use Rattle.vs_pages.specs.Memory.{kept_of}
use Rattle.vs_pages.specs.declared.change.Change.{Change}
use Rattle.vs_pages.proofs.Notes.{commit_keeps}
use Rattle.vs_pages.proofs.memory.store.MemPagesPages.commit.Goals as goal

pub returns-clause-present : goal.returns-clause-present
returns-clause-present c = λ told. ap (λ (m : Cells). seen no_pages m) c.commit_all.ensures.kept

pub returns-clause-committed : goal.returns-clause-committed
returns-clause-committed c = λ told. ap (λ (cs : List Change). seen no_pages (first_of (kept_of c.commit_all.new.self) cs)) c.commit_all.ensures.changes ∙ ap (λ (m : Cells). seen no_pages m) c.commit_all.ensures.kept

pub returns-clause-worked : goal.returns-clause-worked
returns-clause-worked c = λ told. ap (λ (cs : List Change). numbers_in cs) c.commit_all.ensures.changes

pub returns-clause-before : goal.returns-clause-before
returns-clause-before c = ap (λ (cs : List Change). moments_in no_pages (kept_of c.commit_all.new.self) cs) c.commit_all.ensures.changes

pub returns-clause-stays : goal.returns-clause-stays
returns-clause-stays c =
    commit_keeps c.args.self.now c.commit_all.new.self c.commit_all.ensures.later c.commit_all.ensures.kept
    (ap (λ (cs : List Change). first_of (kept_of c.commit_all.new.self) cs) c.commit_all.ensures.changes) (ap (λ s. s.last) c.commit_all.ensures.commits)
