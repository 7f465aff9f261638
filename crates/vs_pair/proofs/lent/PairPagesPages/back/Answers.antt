use Rattle.std.proofs.Common.{◌≡◌, ◌-◌, ℕ, length, drop, ap, refl, ◌∙◌, arith}
use Rattle.vs_pages.specs.Cells.{Cells, seen}
use Rattle.vs_pages.specs.State.{history_of}
use Rattle.vs_pages.specs.Memory.{changes_of, state_under}
use Rattle.vs_pages.proofs.Pasts.{before_length}
use Rattle.vs_pair.specs.Pair.{away_of}
use Rattle.vs_pair.proofs.Lending.{keeps_with, ready_with}
use Rattle.vs_pair.proofs.lent.PairPagesPages.back.Goals as goal

pub undo_to-requires : goal.undo_to-requires
undo_to-requires g c = omega (arith, c.requires.within, before_length (away_of c.args.self.now.pair.now.files (g.F.World.scene c.args.self.now.host.now).folder) c.args.self.now.pair.now.pages)

pub returns-clause-back : goal.returns-clause-back
returns-clause-back g c = λ told.
    let same : length (changes_of c.args.self.now.pair.now.pages) - c.args.mark ≡ length (state_under (away_of c.args.self.now.pair.now.files (g.F.World.scene c.args.self.now.host.now).folder) c.args.self.now.pair.now.pages).before - c.args.mark = omega (arith, before_length (away_of c.args.self.now.pair.now.files (g.F.World.scene c.args.self.now.host.now).folder) c.args.self.now.pair.now.pages) in
    c.undo_to.ensures.back (away_of c.args.self.now.pair.now.files (g.F.World.scene c.args.self.now.host.now).folder) ∙ ap (λ (k : ℕ). drop k (history_of (state_under (away_of c.args.self.now.pair.now.files (g.F.World.scene c.args.self.now.host.now).folder) c.args.self.now.pair.now.pages))) same

pub returns-clause-count : goal.returns-clause-count
returns-clause-count g c = omega (arith, c.undo_to.ensures.count, before_length (away_of c.args.self.now.pair.now.files (g.F.World.scene c.args.self.now.host.now).folder) c.undo_to.new.self)

pub returns-clause-committed : goal.returns-clause-committed
returns-clause-committed g c = λ told. ap (λ (m : Cells). seen (away_of c.args.self.now.pair.now.files (g.F.World.scene c.args.self.now.host.now).folder) m) c.undo_to.ensures.committed

pub returns-clause-valid : goal.returns-clause-valid
returns-clause-valid g c told = ready_with c.args.self.now.pair.now c.undo_to.new.self _ c.undo_to.ensures.stays (c.requires.valid told)

pub returns-clause-stays : goal.returns-clause-stays
returns-clause-stays g c = (refl, refl, keeps_with g.F.World.tells c.args.self.now.pair.now c.undo_to.new.self (g.F.World.scene c.args.self.now.host.now) c.requires.valid c.undo_to.ensures.stays)
