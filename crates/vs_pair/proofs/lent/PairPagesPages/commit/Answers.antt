use Rattle.std.proofs.Common.{List, ap, refl, ◌∙◌}
use Rattle.vs_pages.specs.Cells.{Cells, seen}
use Rattle.vs_pages.specs.History.{first_of, moments_in, numbers_in}
use Rattle.vs_pages.specs.Memory.{kept_of}
use Rattle.vs_pages.specs.declared.change.Change.{Change}
use Rattle.vs_pages.proofs.Notes.{commit_keeps}
use Rattle.vs_pair.specs.Pair.{away_of}
use Rattle.vs_pair.proofs.Lending.{keeps_with, ready_with}
use Rattle.vs_pair.proofs.lent.PairPagesPages.commit.Goals as goal

pub returns-clause-present : goal.returns-clause-present
returns-clause-present g c = λ told. ap (λ (m : Cells). seen (away_of c.args.self.now.pair.now.files (g.F.World.scene c.args.self.now.host.now).folder) m) c.commit_all.ensures.kept

pub returns-clause-committed : goal.returns-clause-committed
returns-clause-committed g c = λ told. ap (λ (cs : List Change). seen (away_of c.args.self.now.pair.now.files (g.F.World.scene c.args.self.now.host.now).folder) (first_of (kept_of c.commit_all.new.self) cs)) c.commit_all.ensures.changes ∙ ap (λ (m : Cells). seen (away_of c.args.self.now.pair.now.files (g.F.World.scene c.args.self.now.host.now).folder) m) c.commit_all.ensures.kept

pub returns-clause-worked : goal.returns-clause-worked
returns-clause-worked g c = λ told. ap (λ (cs : List Change). numbers_in cs) c.commit_all.ensures.changes

pub returns-clause-before : goal.returns-clause-before
returns-clause-before g c = ap (λ (cs : List Change). moments_in (away_of c.args.self.now.pair.now.files (g.F.World.scene c.args.self.now.host.now).folder) (kept_of c.commit_all.new.self) cs) c.commit_all.ensures.changes

pub returns-clause-valid : goal.returns-clause-valid
returns-clause-valid g c told =
    ready_with c.args.self.now.pair.now c.commit_all.new.self _
    (commit_keeps c.args.self.now.pair.now.pages c.commit_all.new.self c.commit_all.ensures.later c.commit_all.ensures.kept (ap (λ (cs : List Change). first_of (kept_of c.commit_all.new.self) cs) c.commit_all.ensures.changes) (ap (λ s. s.last) c.commit_all.ensures.commits))
    (c.requires.valid told)

pub returns-clause-stays : goal.returns-clause-stays
returns-clause-stays g c = (
  refl,
  refl,
  keeps_with g.F.World.tells c.args.self.now.pair.now c.commit_all.new.self (g.F.World.scene c.args.self.now.host.now) c.requires.valid
      (commit_keeps c.args.self.now.pair.now.pages c.commit_all.new.self c.commit_all.ensures.later c.commit_all.ensures.kept (ap (λ (cs : List Change). first_of (kept_of c.commit_all.new.self) cs) c.commit_all.ensures.changes) (ap (λ s. s.last) c.commit_all.ensures.commits)),
)
