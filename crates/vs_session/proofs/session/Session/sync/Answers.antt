use Rattle.std.proofs.Common.{ℕ, ◌+◌, true, false, refl, ap}
use Rattle.vs_pair.proofs.Calls.{on_err_from}
use Rattle.vs_session.proofs.SessionLemmas.{stands_synced}
use Rattle.vs_session.proofs.session.Session.sync.Goals as goal

pub returns-in_err-sync-clause-err : goal.returns-in_err-sync-clause-err
returns-in_err-sync-clause-err g c =
    on_err_from c.from_residual.result _ (λ told state syncs fits. record {
      stands = stands_synced c.args.self.now c.sync.new.self (g.F.World.scene c.args.host.now).folder (g.F.World.scene c.sync.new.host).folder state syncs c.is_clean-is_dirty.result false fits c.is_clean-is_dirty.ensures
          (c.in_err-sync.ensures.err told state.machine.text syncs fits.stands.text);
      name = fits.name;
      cursor = fits.cursor;
      saved = fits.saved;
      saved_format = fits.saved_format;
      steps = fits.steps;
      options = fits.options;
      acknowledged = fits.acknowledged;
    })

pub returns-clause-ok : goal.returns-clause-ok
returns-clause-ok g c told state syncs fits = record {
  stands = stands_synced c.args.self.now c.sync.new.self (g.F.World.scene c.args.host.now).folder (g.F.World.scene c.sync.new.host).folder state syncs c.is_clean-is_dirty.result true fits c.is_clean-is_dirty.ensures
      (c.in_ok-sync.ensures.ok told state.machine.text syncs fits.stands.text);
  name = fits.name;
  cursor = fits.cursor;
  saved = fits.saved;
  saved_format = fits.saved_format;
  steps = refl;
  options = fits.options;
  acknowledged = ap (λ (n : ℕ). n + 1) fits.acknowledged;
}
