use Rattle.std.proofs.Common.{refl, sym, subst}
use Rattle.std.specs.Prelude.{◌∷◌}
use Rattle.vs_pair.specs.declared.cache.Cache.{Cache}
use Rattle.vs_pair.specs.Cached.{IsCacheOf, was_away}
use Rattle.vs_pair.specs.Pair.{away_of, sync_of}
use Rattle.vs_pair.proofs.Bounds.{behind_calls, few_calls}
use Rattle.vs_pair.proofs.Calls.{on_err_from}
use Rattle.vs_pair.proofs.Turns.{after_turn, after_fault}
use Rattle.vs_pair.proofs.pair.SwapPair.sync.Goals as goal

pub write_older-requires-clause-backed : goal.write_older-requires-clause-backed
write_older-requires-clause-backed g c told = (c.requires.stored told).backed

pub returns-in_err-write_older-clause-err : goal.returns-in_err-write_older-clause-err
returns-in_err-write_older-clause-err g c =
    on_err_from c.from_residual.result _
    (λ told newest begun past fit.
    (after_fault c.args.self.now c.write_older.new.self (g.F.World.scene c.args.host.now).folder (g.F.World.scene c.write_older.new.host).folder c.write_older.ensures.pages c.write_older.ensures.cache (c.in_err-write_older.ensures.away told)).fits newest _ past (c.in_err-write_older.ensures.err told newest begun past fit))

pub returns-in_err-write_older-clause-stays : goal.returns-in_err-write_older-clause-stays
returns-in_err-write_older-clause-stays g c = on_err_from c.from_residual.result _ c.in_err-write_older.ensures.stays

pub returns-in_err-write_older-clause-stored : goal.returns-in_err-write_older-clause-stored
returns-in_err-write_older-clause-stored g c told =
    (after_fault c.args.self.now c.write_older.new.self (g.F.World.scene c.args.host.now).folder (g.F.World.scene c.write_older.new.host).folder c.write_older.ensures.pages c.write_older.ensures.cache (c.in_err-write_older.ensures.away told)).stored (c.requires.stored told)

pub returns-in_err-write_older-clause-shown : goal.returns-in_err-write_older-clause-shown
returns-in_err-write_older-clause-shown g c told =
    (after_fault c.args.self.now c.write_older.new.self (g.F.World.scene c.args.host.now).folder (g.F.World.scene c.write_older.new.host).folder c.write_older.ensures.pages c.write_older.ensures.cache (c.in_err-write_older.ensures.away told)).shown

pub returns-in_err-write_older-clause-few : goal.returns-in_err-write_older-clause-few
returns-in_err-write_older-clause-few g c =
    few_calls g.F.World.tells (g.F.World.scene c.args.host.now) (g.F.World.scene c.write_older.new.host) (away_of c.args.self.now.files (g.F.World.scene c.args.host.now).folder) c.args.self.now.pages c.args.self.now.files.older_has
    (λ told. (c.requires.stored told).backed) (λ told. (c.requires.fits told).3.older_keeps.reach) c.write_older.ensures.works

pub returns-clause-few : goal.returns-clause-few
returns-clause-few g c =
    few_calls g.F.World.tells (g.F.World.scene c.args.host.now) (g.F.World.scene c.write_older.new.host) (away_of c.args.self.now.files (g.F.World.scene c.args.host.now).folder) c.args.self.now.pages c.args.self.now.files.older_has
    (λ told. (c.requires.stored told).backed) (λ told. (c.requires.fits told).3.older_keeps.reach) c.write_older.ensures.works

pub returns-in_err-write_older-clause-behind : goal.returns-in_err-write_older-clause-behind
returns-in_err-write_older-clause-behind g c =
    behind_calls g.F.World.tells (g.F.World.scene c.args.host.now) (g.F.World.scene c.write_older.new.host) (away_of c.args.self.now.files (g.F.World.scene c.args.host.now).folder) c.args.self.now.pages c.args.self.now.files.older_has
    (λ told. (c.requires.stored told).backed) (λ told. (c.requires.fits told).3.older_keeps.reach) c.write_older.ensures.works

pub returns-clause-behind : goal.returns-clause-behind
returns-clause-behind g c =
    behind_calls g.F.World.tells (g.F.World.scene c.args.host.now) (g.F.World.scene c.write_older.new.host) (away_of c.args.self.now.files (g.F.World.scene c.args.host.now).folder) c.args.self.now.pages c.args.self.now.files.older_has
    (λ told. (c.requires.stored told).backed) (λ told. (c.requires.fits told).3.older_keeps.reach) c.write_older.ensures.works

pub returns-clause-ok : goal.returns-clause-ok
returns-clause-ok g c told newest begun past fit =
    (after_turn (away_of c.args.self.now.files (g.F.World.scene c.args.host.now).folder) c.args.self.now.pages c.write_older.new.self c.send_pages.new.pages c.write_older.new.self.cache c.send_pages.new.cache _ (sync_of c.args.self.now (g.F.World.scene c.args.host.now).folder c.args.head.now) (newest ∷ past) c.write_older.ensures.pages (c.requires.stored told).backed refl
    (c.in_ok-write_older.ensures.ok told newest begun past fit) c.send_pages.ensures.same (subst (λ (kept : Cache). IsCacheOf (was_away c.args.self.now.pages) (away_of c.args.self.now.files (g.F.World.scene c.args.host.now).folder) kept) (sym c.write_older.ensures.cache) (c.requires.stored told).cached) c.send_pages.ensures.cached).fits

pub returns-clause-stored : goal.returns-clause-stored
returns-clause-stored g c told =
    let fits = c.requires.fits told in
    (after_turn (away_of c.args.self.now.files (g.F.World.scene c.args.host.now).folder) c.args.self.now.pages c.write_older.new.self c.send_pages.new.pages c.write_older.new.self.cache c.send_pages.new.cache _ (sync_of c.args.self.now (g.F.World.scene c.args.host.now).folder c.args.head.now) (fits.0 ∷ fits.2) c.write_older.ensures.pages (c.requires.stored told).backed refl
    (c.in_ok-write_older.ensures.ok told fits.0 fits.1 fits.2 fits.3) c.send_pages.ensures.same (subst (λ (kept : Cache). IsCacheOf (was_away c.args.self.now.pages) (away_of c.args.self.now.files (g.F.World.scene c.args.host.now).folder) kept) (sym c.write_older.ensures.cache) (c.requires.stored told).cached) c.send_pages.ensures.cached).stored

pub returns-clause-shown : goal.returns-clause-shown
returns-clause-shown g c told =
    let fits = c.requires.fits told in
    (after_turn (away_of c.args.self.now.files (g.F.World.scene c.args.host.now).folder) c.args.self.now.pages c.write_older.new.self c.send_pages.new.pages c.write_older.new.self.cache c.send_pages.new.cache _ (sync_of c.args.self.now (g.F.World.scene c.args.host.now).folder c.args.head.now) (fits.0 ∷ fits.2) c.write_older.ensures.pages (c.requires.stored told).backed refl
    (c.in_ok-write_older.ensures.ok told fits.0 fits.1 fits.2 fits.3) c.send_pages.ensures.same (subst (λ (kept : Cache). IsCacheOf (was_away c.args.self.now.pages) (away_of c.args.self.now.files (g.F.World.scene c.args.host.now).folder) kept) (sym c.write_older.ensures.cache) (c.requires.stored told).cached) c.send_pages.ensures.cached).shown
