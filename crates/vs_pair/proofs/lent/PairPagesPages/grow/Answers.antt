use Rattle.std.proofs.Common.{refl}
use Rattle.vs_pages.proofs.Pasts.{same_kept, same_present, same_still}
use Rattle.vs_pair.specs.Pair.{away_of}
use Rattle.vs_pair.proofs.Calls.{on_err_from}
use Rattle.vs_pair.proofs.Lending.{keeps_with, moved_change, moved_still, no_fault, ready_with}
use Rattle.vs_pair.proofs.ReadLemmas.{not_failed}
use Rattle.vs_pair.proofs.lent.PairPagesPages.grow.Goals as goal

pub returns-clause-vacant : goal.returns-clause-vacant
returns-clause-vacant g c = λ told. c.in_ok-grow_places.ensures.vacant (away_of c.args.self.now.pair.now.files (g.F.World.scene c.args.self.now.host.now).folder)

pub returns-in_err-grow_places-clause-err : goal.returns-in_err-grow_places-clause-err
returns-in_err-grow_places-clause-err g c = on_err_from c.from_residual.result _ (λ told. same_present (away_of c.args.self.now.pair.now.files (g.F.World.scene c.args.self.now.host.now).folder) c.args.self.now.pair.now.pages c.grow_places.new.self c.in_err-grow_places.ensures.err)

pub returns-in_err-grow_places-clause-still : goal.returns-in_err-grow_places-clause-still
returns-in_err-grow_places-clause-still g c = on_err_from c.from_residual.result _ (moved_still g.F.World.tells (away_of c.args.self.now.pair.now.files (g.F.World.scene c.args.self.now.host.now).folder) c.args.self.now.pair.now.pages c.grow_places.new.self _ _ (same_still (away_of c.args.self.now.pair.now.files (g.F.World.scene c.args.self.now.host.now).folder) c.args.self.now.pair.now.pages c.grow_places.new.self c.in_err-grow_places.ensures.err))

pub returns-in_err-grow_places-clause-kept : goal.returns-in_err-grow_places-clause-kept
returns-in_err-grow_places-clause-kept g c =
    let kept = same_kept (away_of c.args.self.now.pair.now.files (g.F.World.scene c.args.self.now.host.now).folder) c.args.self.now.pair.now.pages c.grow_places.new.self c.in_err-grow_places.ensures.err in
    record {
      valid = λ told. ready_with c.args.self.now.pair.now c.grow_places.new.self _ kept.stays (c.requires.valid told);
      stays = (refl, refl, keeps_with g.F.World.tells c.args.self.now.pair.now c.grow_places.new.self (g.F.World.scene c.args.self.now.host.now) c.requires.valid kept.stays);
      committed = λ told. kept.committed refl;
      commits = λ told. kept.commits refl;
      longer = kept.longer;
      grown = λ told. kept.grown refl;
    }

pub returns-clause-ok : goal.returns-clause-ok
returns-clause-ok g c = λ told. c.in_ok-grow_places.ensures.ok.present (away_of c.args.self.now.pair.now.files (g.F.World.scene c.args.self.now.host.now).folder)

pub returns-clause-change : goal.returns-clause-change
returns-clause-change g c = moved_change g.F.World.tells (away_of c.args.self.now.pair.now.files (g.F.World.scene c.args.self.now.host.now).folder) c.args.self.now.pair.now.pages c.grow_places.new.self _ _ _ (c.in_ok-grow_places.ensures.ok.moved (away_of c.args.self.now.pair.now.files (g.F.World.scene c.args.self.now.host.now).folder))

pub returns-clause-kept : goal.returns-clause-kept
returns-clause-kept g c =
    let kept = c.in_ok-grow_places.ensures.ok.kept (away_of c.args.self.now.pair.now.files (g.F.World.scene c.args.self.now.host.now).folder) in
    record {
      valid = λ told. ready_with c.args.self.now.pair.now c.grow_places.new.self _ kept.stays (c.requires.valid told);
      stays = (refl, refl, keeps_with g.F.World.tells c.args.self.now.pair.now c.grow_places.new.self (g.F.World.scene c.args.self.now.host.now) c.requires.valid kept.stays);
      committed = λ told. kept.committed refl;
      commits = λ told. kept.commits refl;
      longer = kept.longer;
      grown = λ told. kept.grown refl;
    }

pub returns-in_err-grow_places-clause-cause : goal.returns-in_err-grow_places-clause-cause
returns-in_err-grow_places-clause-cause g c = no_fault _ _ _ (λ failed. not_failed c.from_residual.result c.from_residual.ensures.1 failed)

pub returns-clause-cause : goal.returns-clause-cause
returns-clause-cause g c = no_fault _ _ _ (λ failed. cc failed)
