use Rattle.std.proofs.Common.{◌∷◌, true, false, refl, ap, ◌∙◌}
use Rattle.std.proofs.lemmas.Bool.{true≢false}
use Rattle.vs_session.specs.Session.{after_sync, sync_in}
use Rattle.vs_session.proofs.Steps.{answers_failed}
use Rattle.vs_session.proofs.WriteCommand.{begins_is, never_quits}
use Rattle.vs_session.proofs.WorkLemmas.{synced_work}
use Rattle.vs_session.proofs.session.Session.answer_write.Goals as goal

pub write_files-outcome-requires : goal.write_files-outcome-requires
write_files-outcome-requires g c = record {
  usable = record {
    undo = c.in-Ok.ensures.undo c.requires.usable.undo;
    fits = λ told. let given = c.requires.usable.fits told in (after_sync given.0 true, sync_in given.0 true ∷ given.1, c.in-Ok.ensures.ok told given.0 given.1 given.2);
  };
}

pub returns-in-Ok-clause-step : goal.returns-in-Ok-clause-step
returns-in-Ok-clause-step g c told state syncs instruction fits is =
    let old = g.F.World.scene c.args.host.now in
    c.write_files-outcome.ensures.step told state syncs instruction c.args.self.now old c.args.at is (record {
      fits = fits;
      frame = c.in-Ok.ensures.acts.frame;
      runs = c.in-Ok.ensures.acts.runs told;
      quiet = c.in-Ok.ensures.none.quiet told;
      modes = c.in-Ok.ensures.acts.modes told;
      rises = c.in-Ok.ensures.rises told;
      names = c.in-Ok.ensures.file.names;
      synced = c.in-Ok.ensures.ok told state syncs fits;
    })

pub returns-in-Err-clause-step : goal.returns-in-Err-clause-step
returns-in-Err-clause-step g c told state syncs instruction fits is =
    let old = g.F.World.scene c.args.host.now in
    let new = g.F.World.scene c.sync.new.host in
    answers_failed state syncs instruction c.args.self.now old (never_quits instruction.parsed _ is) fits c.sync.new.self c.args.at _ new
    (begins_is state.steps instruction.parsed is) c.in-Err.ensures.file.names c.in-Err.ensures.acts.frame (c.in-Err.ensures.acts.runs told) (c.in-Err.ensures.acts.modes told) (c.in-Err.ensures.acts.last told)
    (c.in-Err.ensures.cause.risen refl) c.device_fault.ensures (c.in-Err.ensures.stays told) (c.in-Err.ensures.err told state syncs fits)

pub returns-in-Ok-clause-works : goal.returns-in-Ok-clause-works
returns-in-Ok-clause-works g c told =
    c.write_files-outcome.ensures.works told
    ∙ synced_work c.args.self.now.text.pair c.sync.new.self.text.pair (g.F.World.scene c.args.host.now).folder (g.F.World.scene c.sync.new.host).folder (c.in-Ok.ensures.shown told)

pub returns-in-Err-clause-works : goal.returns-in-Err-clause-works
returns-in-Err-clause-works g c told =
    synced_work c.args.self.now.text.pair c.sync.new.self.text.pair (g.F.World.scene c.args.host.now).folder (g.F.World.scene c.sync.new.host).folder (c.in-Err.ensures.shown told)

pub returns-in-Ok-clause-behind : goal.returns-in-Ok-clause-behind
returns-in-Ok-clause-behind g c = record {
  synced = g.F.World.scene c.sync.new.host;
  acknowledged = true;
  works = c.sync.ensures.behind;
  between = c.sync.new.self.text.pair;
  shown = c.in-Ok.ensures.shown;
  commits = c.in-Ok.ensures.commits;
  turns = c.in-Ok.ensures.turns;
  known = c.write_files-outcome.ensures.kept.known;
  failed = λ is. absurd (true≢false is);
  rest = λ is. absurd (true≢false is);
}

pub returns-in-Err-clause-behind : goal.returns-in-Err-clause-behind
returns-in-Err-clause-behind g c = record {
  synced = g.F.World.scene c.sync.new.host;
  acknowledged = false;
  works = c.sync.ensures.behind;
  between = c.sync.new.self.text.pair;
  shown = c.in-Err.ensures.shown;
  commits = c.in-Err.ensures.commits;
  turns = c.in-Err.ensures.turns;
  known = record { newer = refl; older = refl };
  failed = λ is. refl;
  rest = λ is. absurd (true≢false is);
}
