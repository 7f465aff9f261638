use Rattle.vs_session.specs.Fits.{names_of}
use Rattle.vs_session.proofs.Steps.{unless_err}
use Rattle.vs_session.proofs.Stored.{both_ok, fits_stored, stores_runs}
use Rattle.vs_session.proofs.session.Session.store_bytes.Goals as goal

pub returns-clause-stores : goal.returns-clause-stores
returns-clause-stores g c = record {
  runs = λ told text history is.
      stores_runs (names_of c.args.self.now) text history c.args.bytes.now is _ _ (c.store.ensures.acts.runs told) (c.store.ensures.takes told);
  fits = λ told state syncs fits.
      fits_stored c.args.self.now _ _ state syncs c.args.self.now.text.pair.files.named (c.store.ensures.acts.runs told).now fits;
  calls = c.store.ensures.calls;
  modes = c.store.ensures.acts.modes;
  stops = record { last = c.store.ensures.acts.last; none = λ told calm. (unless_err c.store.result _ calm c.store.ensures.none).quiet told };
  frame = c.store.ensures.acts.frame;
  cause = c.store.ensures.cause;
}

pub returns-clause-stored : goal.returns-clause-stored
returns-clause-stored g c = both_ok c.store.result _ _ _ (λ holds gone told text history is. (c.args.bytes.now, is, holds told, gone told)) c.store.ensures.holds c.store.ensures.gone
