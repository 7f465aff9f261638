use Rattle.std.proofs.Common.{IsTrue, length, refl, ap}
use Rattle.vs_host.specs.World.{Scene}
use Rattle.vs_pages.specs.Memory.{kept_of}
use Rattle.vs_pages.specs.State.{PageState}
use Rattle.vs_pages.proofs.Sights.{read_there}
use Rattle.vs_pair.specs.Pair.{away_of}
use Rattle.vs_pair.proofs.AwayLemmas.{not_both}
use Rattle.vs_pair.proofs.Lending.{damaged_cause, damaged_still, keeps_damaged, keeps_moved, one_cause, ready_moved, shown_moved}
use Rattle.vs_pair.proofs.lent.PairPagesPages.load.Goals as goal

pub read_pages-requires-clause-there : goal.read_pages-requires-clause-there
read_pages-requires-clause-there g c = c.has_places.ensures.0 c.if-not-has_places.false

pub read_pages-requires-clause-stored : goal.read_pages-requires-clause-stored
read_pages-requires-clause-stored g c told = (c.requires.valid told).stored

pub returns-clause-kept : goal.returns-clause-kept
returns-clause-kept g c =
    let made = c.read_pages.ensures in
    let folder = ap (λ (s : Scene). s.folder) made.reads.frame in
    let shown = shown_moved c.args.self.now.pair.now c.read_pages.new.self made.pages made.files _ _ folder in
    record {
      valid = λ told. ready_moved c.args.self.now.pair.now c.read_pages.new.self made.pages made.files _ _ folder (made.cached told) (c.requires.valid told);
      stays = (refl, refl, keeps_moved c.args.self.now.pair.now c.read_pages.new.self made.pages made.files g.F.World.tells _ _ _ _ made.reads);
      present = λ told. ap (λ (s : PageState). s.present) shown;
      committed = λ told. ap (λ (s : PageState). s.committed) shown;
      commits = λ told. ap (λ (s : PageState). s.commits) shown;
      still = record { count = ap (λ (s : PageState). length s.before) shown; worked = λ told. ap (λ (s : PageState). s.worked) shown; before = λ told. ap (λ (s : PageState). s.before) shown };
    }

pub returns-clause-cause : goal.returns-clause-cause
returns-clause-cause g c =
    let made = c.read_pages.ensures in
    one_cause _ _ _ _ made.reads.cause (λ calm. (made.calm calm).faults) made.last

pub damaged-requires : goal.damaged-requires
damaged-requires g c told = not_both c.has_places.result (c.has_places.ensures.1 (read_there (away_of c.args.self.now.pair.now.files (g.F.World.scene c.args.self.now.host.now).folder) (kept_of c.args.self.now.pair.now.pages) c.args.at c.args.pages (c.requires.there told))) c.if-not-has_places.true

pub returns-then-not-has_places-clause-kept : goal.returns-then-not-has_places-clause-kept
returns-then-not-has_places-clause-kept g c =
    let silent : IsTrue g.F.World.tells.folder → ⊥ = λ told. not_both c.has_places.result (c.has_places.ensures.1 (read_there (away_of c.args.self.now.pair.now.files (g.F.World.scene c.args.self.now.host.now).folder) (kept_of c.args.self.now.pair.now.pages) c.args.at c.args.pages (c.requires.there told))) c.if-not-has_places.true in
    record {
      valid = λ told. absurd (silent told);
      stays = (refl, refl, keeps_damaged g.F.World.tells c.args.self.now.pair.now (g.F.World.scene c.args.self.now.host.now) (g.F.World.scene c.damaged.new.self) silent c.damaged.ensures.frame);
      present = λ told. absurd (silent told);
      committed = λ told. absurd (silent told);
      commits = λ told. absurd (silent told);
      still = damaged_still g.F.World.tells (g.F.World.scene c.args.self.now.host.now) (g.F.World.scene c.damaged.new.self) silent c.damaged.ensures.frame c.args.self.now.pair.now;
    }

pub returns-then-not-has_places-clause-cause : goal.returns-then-not-has_places-clause-cause
returns-then-not-has_places-clause-cause g c = damaged_cause g.F.World.tells (g.F.World.scene c.args.self.now.host.now) (g.F.World.scene c.damaged.new.self) (λ told. not_both c.has_places.result (c.has_places.ensures.1 (read_there (away_of c.args.self.now.pair.now.files (g.F.World.scene c.args.self.now.host.now).folder) (kept_of c.args.self.now.pair.now.pages) c.args.at c.args.pages (c.requires.there told))) c.if-not-has_places.true) c.damaged.ensures.frame _ c.damaged.ensures.later c.damaged.ensures.rose refl
