use Rattle.std.proofs.Common.{IsTrue, length, refl, ap, arith}
use Rattle.vs_pages.specs.State.{PageState}
use Rattle.vs_pages.specs.Memory.{kept_of}
use Rattle.vs_pages.proofs.Pasts.{same_kept, same_present, same_still}
use Rattle.vs_pages.proofs.Sights.{read_there}
use Rattle.vs_pair.specs.Pair.{away_of}
use Rattle.vs_pair.proofs.AwayLemmas.{not_both}
use Rattle.vs_pair.proofs.Calls.{on_err_from}
use Rattle.vs_pair.proofs.Lending.{damaged_cause, damaged_shown, damaged_still, keeps_damaged, keeps_with, moved_change, moved_still, no_fault, ready_with}
use Rattle.vs_pair.proofs.ReadLemmas.{not_failed}
use Rattle.vs_pair.proofs.lent.PairPagesPages.free.Goals as goal

pub free_places-requires : goal.free_places-requires
free_places-requires g c = record { there = c.has_places.ensures.0 c.if-not-has_places.false }

pub returns-in_err-free_places-clause-err : goal.returns-in_err-free_places-clause-err
returns-in_err-free_places-clause-err g c = on_err_from c.from_residual.result _ (λ told. same_present (away_of c.args.self.now.pair.now.files (g.F.World.scene c.args.self.now.host.now).folder) c.args.self.now.pair.now.pages c.free_places.new.self c.in_err-free_places.ensures.err)

pub returns-in_err-free_places-clause-still : goal.returns-in_err-free_places-clause-still
returns-in_err-free_places-clause-still g c = on_err_from c.from_residual.result _ (moved_still g.F.World.tells (away_of c.args.self.now.pair.now.files (g.F.World.scene c.args.self.now.host.now).folder) c.args.self.now.pair.now.pages c.free_places.new.self _ _ (same_still (away_of c.args.self.now.pair.now.files (g.F.World.scene c.args.self.now.host.now).folder) c.args.self.now.pair.now.pages c.free_places.new.self c.in_err-free_places.ensures.err))

pub returns-in_err-free_places-clause-kept : goal.returns-in_err-free_places-clause-kept
returns-in_err-free_places-clause-kept g c =
    let kept = same_kept (away_of c.args.self.now.pair.now.files (g.F.World.scene c.args.self.now.host.now).folder) c.args.self.now.pair.now.pages c.free_places.new.self c.in_err-free_places.ensures.err in
    record {
      valid = λ told. ready_with c.args.self.now.pair.now c.free_places.new.self _ kept.stays (c.requires.valid told);
      stays = (refl, refl, keeps_with g.F.World.tells c.args.self.now.pair.now c.free_places.new.self (g.F.World.scene c.args.self.now.host.now) c.requires.valid kept.stays);
      committed = λ told. kept.committed refl;
      commits = λ told. kept.commits refl;
      longer = kept.longer;
      grown = λ told. kept.grown refl;
    }

pub returns-clause-ok : goal.returns-clause-ok
returns-clause-ok g c = λ told. c.in_ok-free_places.ensures.ok.present (away_of c.args.self.now.pair.now.files (g.F.World.scene c.args.self.now.host.now).folder)

pub returns-clause-change : goal.returns-clause-change
returns-clause-change g c = moved_change g.F.World.tells (away_of c.args.self.now.pair.now.files (g.F.World.scene c.args.self.now.host.now).folder) c.args.self.now.pair.now.pages c.free_places.new.self _ _ _ (c.in_ok-free_places.ensures.ok.moved (away_of c.args.self.now.pair.now.files (g.F.World.scene c.args.self.now.host.now).folder))

pub returns-clause-kept : goal.returns-clause-kept
returns-clause-kept g c =
    let kept = c.in_ok-free_places.ensures.ok.kept (away_of c.args.self.now.pair.now.files (g.F.World.scene c.args.self.now.host.now).folder) in
    record {
      valid = λ told. ready_with c.args.self.now.pair.now c.free_places.new.self _ kept.stays (c.requires.valid told);
      stays = (refl, refl, keeps_with g.F.World.tells c.args.self.now.pair.now c.free_places.new.self (g.F.World.scene c.args.self.now.host.now) c.requires.valid kept.stays);
      committed = λ told. kept.committed refl;
      commits = λ told. kept.commits refl;
      longer = kept.longer;
      grown = λ told. kept.grown refl;
    }

pub returns-in_err-free_places-clause-cause : goal.returns-in_err-free_places-clause-cause
returns-in_err-free_places-clause-cause g c = no_fault _ _ _ (λ failed. not_failed c.from_residual.result c.from_residual.ensures.1 failed)

pub returns-clause-cause : goal.returns-clause-cause
returns-clause-cause g c = no_fault _ _ _ (λ failed. cc failed)

pub damaged-requires : goal.damaged-requires
damaged-requires g c told = not_both c.has_places.result (c.has_places.ensures.1 (read_there (away_of c.args.self.now.pair.now.files (g.F.World.scene c.args.self.now.host.now).folder) (kept_of c.args.self.now.pair.now.pages) c.args.at c.args.pages (c.requires.there told))) c.if-not-has_places.true

pub returns-then-not-has_places-clause-still : goal.returns-then-not-has_places-clause-still
returns-then-not-has_places-clause-still g c = damaged_still g.F.World.tells (g.F.World.scene c.args.self.now.host.now) (g.F.World.scene c.damaged.new.self) (λ told. not_both c.has_places.result (c.has_places.ensures.1 (read_there (away_of c.args.self.now.pair.now.files (g.F.World.scene c.args.self.now.host.now).folder) (kept_of c.args.self.now.pair.now.pages) c.args.at c.args.pages (c.requires.there told))) c.if-not-has_places.true) c.damaged.ensures.frame c.args.self.now.pair.now

pub returns-then-not-has_places-clause-kept : goal.returns-then-not-has_places-clause-kept
returns-then-not-has_places-clause-kept g c =
    let silent : IsTrue g.F.World.tells.folder → ⊥ = λ told. not_both c.has_places.result (c.has_places.ensures.1 (read_there (away_of c.args.self.now.pair.now.files (g.F.World.scene c.args.self.now.host.now).folder) (kept_of c.args.self.now.pair.now.pages) c.args.at c.args.pages (c.requires.there told))) c.if-not-has_places.true in
    record {
      valid = λ told. absurd (silent told);
      stays = (refl, refl, keeps_damaged g.F.World.tells c.args.self.now.pair.now (g.F.World.scene c.args.self.now.host.now) (g.F.World.scene c.damaged.new.self) silent c.damaged.ensures.frame);
      committed = λ told. absurd (silent told);
      commits = λ told. absurd (silent told);
      longer = let same = damaged_shown g.F.World.tells (g.F.World.scene c.args.self.now.host.now) (g.F.World.scene c.damaged.new.self) silent c.damaged.ensures.frame c.args.self.now.pair.now in omega (arith, ap (λ (s : PageState). length s.before) same);
      grown = λ told. absurd (silent told);
    }

pub returns-then-not-has_places-clause-cause : goal.returns-then-not-has_places-clause-cause
returns-then-not-has_places-clause-cause g c = damaged_cause g.F.World.tells (g.F.World.scene c.args.self.now.host.now) (g.F.World.scene c.damaged.new.self) (λ told. not_both c.has_places.result (c.has_places.ensures.1 (read_there (away_of c.args.self.now.pair.now.files (g.F.World.scene c.args.self.now.host.now).folder) (kept_of c.args.self.now.pair.now.pages) c.args.at c.args.pages (c.requires.there told))) c.if-not-has_places.true) c.damaged.ensures.frame _ c.damaged.ensures.later c.damaged.ensures.rose refl
