use Rattle.vs_paged.proofs.SyncLemmas.{on_ok_as, on_err_as}
use Rattle.vs_session.proofs.Steps.{end_clears, has_syncs, last_clears, last_step, leaves, not_ok, when_ok}
use Rattle.vs_session.proofs.session.Session.finish.Goals as goal

pub returns-in-Sync : goal.returns-in-Sync
returns-in-Sync g c = record {
  sync = λ how told state syncs fits.
      last_step c.sync.result c.args.self c.sync.new.self state syncs (g.H.World.scene c.args.host.now) (g.H.World.scene c.sync.new.host) c.sync.ensures.file.names fits c.sync.ensures.acts.frame (c.sync.ensures.acts.runs told) c.sync.ensures.cause
      (on_ok_as c.sync.result _ _ (λ rises. rises told) c.sync.ensures.rises) (on_err_as c.sync.result _ _ (λ stays. stays told) c.sync.ensures.stays)
      (on_ok_as c.sync.result _ _ (λ ok. ok told state syncs fits) c.sync.ensures.ok) (on_err_as c.sync.result _ _ (λ err. err told state syncs fits) c.sync.ensures.err);
  fits = λ how told state syncs fits.
      has_syncs c.sync.result c.args.self c.sync.new.self state syncs (g.H.World.scene c.sync.new.host).folder c.sync.ensures.file.names
      (on_ok_as c.sync.result _ _ (λ ok. ok told state syncs fits) c.sync.ensures.ok) (on_err_as c.sync.result _ _ (λ err. err told state syncs fits) c.sync.ensures.err);
  rises = λ done how. when_ok c.sync.result _ done c.sync.ensures.rises;
  quit = λ how. absurd (cc);
  gone = λ done how. absurd (cc);
  cleared = λ told. (last_clears c.args.self (g.H.World.scene c.args.host.now) (g.H.World.scene c.sync.new.host) (c.requires.fits told) (c.sync.ensures.acts.runs told)).0;
  moved = λ told. (last_clears c.args.self (g.H.World.scene c.args.host.now) (g.H.World.scene c.sync.new.host) (c.requires.fits told) (c.sync.ensures.acts.runs told)).1;
  modes = c.sync.ensures.acts.modes;
  last = c.sync.ensures.acts.last;
  none = λ done. when_ok c.sync.result _ done c.sync.ensures.none;
  frame = c.sync.ensures.acts.frame;
  cause = record { later = c.sync.ensures.cause.later; risen = λ failed. c.sync.ensures.cause.risen (not_ok c.sync.result failed) };
}

pub returns-in-Quit : goal.returns-in-Quit
returns-in-Quit g c = record {
  sync = λ how. absurd (cc);
  fits = λ how. absurd (cc);
  rises = λ done how. absurd (cc);
  quit = λ how told state syncs fits. leaves c.args.self state syncs (g.H.World.scene c.args.host.now) (g.H.World.scene c.end.new.host) fits c.end.ensures.acts.frame (c.end.ensures.acts.runs told);
  gone = λ done how told. let both = when_ok c.end.result _ done c.end.ensures.gone told in record { no_swp = both.0; no_swo = both.1 };
  cleared = λ told. (end_clears c.args.self (g.H.World.scene c.args.host.now) (g.H.World.scene c.end.new.host) (c.requires.fits told) (c.end.ensures.acts.runs told)).0;
  moved = λ told. (end_clears c.args.self (g.H.World.scene c.args.host.now) (g.H.World.scene c.end.new.host) (c.requires.fits told) (c.end.ensures.acts.runs told)).1;
  modes = c.end.ensures.acts.modes;
  last = c.end.ensures.acts.last;
  none = λ done. when_ok c.end.result _ done c.end.ensures.none;
  frame = c.end.ensures.acts.frame;
  cause = record { later = c.end.ensures.cause.later; risen = λ failed. c.end.ensures.cause.risen (not_ok c.end.result failed) };
}
