use Rattle.std.proofs.Common.{ap, refl}
use Rattle.vs_pages.specs.Cells.{Cells, seen}
use Rattle.vs_pages.proofs.Pasts.{all_undone, none_worked}
use Rattle.vs_pair.specs.Pair.{away_of}
use Rattle.vs_pair.proofs.Lending.{keeps_with, ready_with}
use Rattle.vs_pair.proofs.lent.PairPagesPages.rollback.Goals as goal

pub returns-clause-present : goal.returns-clause-present
returns-clause-present g c = λ told. (all_undone (away_of c.args.self.now.pair.now.files (g.F.World.scene c.args.self.now.host.now).folder) c.args.self.now.pair.now.pages c.undo_to.new.self (c.undo_to.ensures.back (away_of c.args.self.now.pair.now.files (g.F.World.scene c.args.self.now.host.now).folder))).0

pub returns-clause-worked : goal.returns-clause-worked
returns-clause-worked g c = λ told. none_worked c.undo_to.new.self c.undo_to.ensures.count

pub returns-clause-before : goal.returns-clause-before
returns-clause-before g c = (all_undone (away_of c.args.self.now.pair.now.files (g.F.World.scene c.args.self.now.host.now).folder) c.args.self.now.pair.now.pages c.undo_to.new.self (c.undo_to.ensures.back (away_of c.args.self.now.pair.now.files (g.F.World.scene c.args.self.now.host.now).folder))).1

pub returns-clause-committed : goal.returns-clause-committed
returns-clause-committed g c = λ told. ap (λ (m : Cells). seen (away_of c.args.self.now.pair.now.files (g.F.World.scene c.args.self.now.host.now).folder) m) c.undo_to.ensures.committed

pub returns-clause-valid : goal.returns-clause-valid
returns-clause-valid g c told = ready_with c.args.self.now.pair.now c.undo_to.new.self _ c.undo_to.ensures.stays (c.requires.valid told)

pub returns-clause-stays : goal.returns-clause-stays
returns-clause-stays g c = (refl, refl, keeps_with g.F.World.tells c.args.self.now.pair.now c.undo_to.new.self (g.F.World.scene c.args.self.now.host.now) c.requires.valid c.undo_to.ensures.stays)
