use Rattle.std.proofs.Common.{◌≡◌, ◌∷◌, true, false, refl, sym, ap, ◌∙◌}
use Rattle.std.proofs.lemmas.Bool.{true≢false}
use Rattle.vs_exparse.specs.Command.{result_of}
use Rattle.vs_machine.specs.declared.command.Outcome.TheVariants.{Fault}
use Rattle.vs_session.specs.declared.session.Step.TheVariants as step
use Rattle.vs_session.specs.Session.{after_sync, is_write, sync_in, uses_files}
use Rattle.vs_session.proofs.SessionLemmas.{quits_is, begins_is}
use Rattle.vs_session.proofs.Steps.{answers_synced, answers_failed}
use Rattle.vs_machine.specs.Answers.{meaning_at}
use Rattle.vs_session.proofs.WorkLemmas.{synced_work, works_synced}
use Rattle.vs_disk.proofs.Runs.{goes_none, starts}
use Rattle.vs_host.specs.Trace.{Read}
use Rattle.vs_session.proofs.SwapSyncs.{syncs_first}
use Rattle.vs_session.proofs.session.Session.answer_synced.Goals as goal

pub carry_out-outcome-requires-clause-usable : goal.carry_out-outcome-requires-clause-usable
carry_out-outcome-requires-clause-usable g c = record {
  undo = c.in-Ok.ensures.undo c.requires.usable.undo;
  fits = λ told. let given = c.requires.usable.fits told in (after_sync given.0 true, sync_in given.0 true ∷ given.1, c.in-Ok.ensures.ok told given.0 given.1 given.2);
}

pub returns-in-Ok-clause-step : goal.returns-in-Ok-clause-step
returns-in-Ok-clause-step g c told state syncs instruction fits is =
    let old = g.F.World.scene c.args.host.now in
    let mid = g.F.World.scene c.sync.new.host in
    let new = g.F.World.scene c.carry_out-outcome.new.host in
    let synced = c.in-Ok.ensures.ok told state syncs fits in
    answers_synced state syncs instruction c.args.self.now old (quits_is c.args.self.now old.folder state syncs instruction _ false fits is.parsed c.requires.goes_on) fits (sym (ap uses_files is.parsed) ∙ c.requires.plain) g.F.World.tells told c.sync.new.self c.carry_out-outcome.new.self _ _ mid new c.carry_out-outcome.ensures.stored
    (begins_is c.args.self.now old.folder state syncs instruction _ true fits is.parsed c.requires.begins) c.in-Ok.ensures.file.names (c.carry_out-outcome.ensures.kept.file.names ∙ c.in-Ok.ensures.file.names) c.in-Ok.ensures.acts.frame
    (c.in-Ok.ensures.acts.runs told) (c.in-Ok.ensures.acts.modes told) (c.in-Ok.ensures.none.quiet told) c.in-Ok.ensures.acts.later (c.in-Ok.ensures.rises told) synced c.carry_out-outcome.ensures.kept.frame (c.carry_out-outcome.ensures.kept.looks told) c.carry_out-outcome.ensures.kept.stops c.carry_out-outcome.ensures.kept.cause
    (c.carry_out-outcome.ensures.reply told (after_sync state true) (sync_in state true ∷ syncs) instruction synced is) (c.carry_out-outcome.ensures.fits told (after_sync state true) (sync_in state true ∷ syncs) instruction synced is)

pub returns-in-Err-clause-step : goal.returns-in-Err-clause-step
returns-in-Err-clause-step g c told state syncs instruction fits is =
    let old = g.F.World.scene c.args.host.now in
    let new = g.F.World.scene c.sync.new.host in
    answers_failed state syncs instruction c.args.self.now old (quits_is c.args.self.now old.folder state syncs instruction _ false fits is.parsed c.requires.goes_on) fits c.sync.new.self c.args.at _ new
    (begins_is c.args.self.now old.folder state syncs instruction _ true fits is.parsed c.requires.begins) c.in-Err.ensures.file.names c.in-Err.ensures.acts.frame (c.in-Err.ensures.acts.runs told) (c.in-Err.ensures.acts.modes told) (c.in-Err.ensures.acts.last told)
    (c.in-Err.ensures.cause.risen refl) c.device_fault.ensures (c.in-Err.ensures.stays told) (c.in-Err.ensures.err told state syncs fits)

pub returns-in-Ok-clause-works : goal.returns-in-Ok-clause-works
returns-in-Ok-clause-works g c told state syncs instruction fits is =
    works_synced c.carry_out-outcome.result.0 state.machine (meaning_at state.machine instruction) c.args.self.now c.sync.new.self c.carry_out-outcome.new.self
    (synced_work c.args.self.now.text.pair c.sync.new.self.text.pair (g.F.World.scene c.args.host.now).folder (g.F.World.scene c.sync.new.host).folder (c.in-Ok.ensures.shown told)) c.in-Ok.ensures.tree
    (c.carry_out-outcome.ensures.works told (after_sync state true) (sync_in state true ∷ syncs) instruction (c.in-Ok.ensures.ok told state syncs fits) is)

pub returns-in-Err-clause-works : goal.returns-in-Err-clause-works
returns-in-Err-clause-works g c told state syncs instruction fits is =
    synced_work c.args.self.now.text.pair c.sync.new.self.text.pair (g.F.World.scene c.args.host.now).folder (g.F.World.scene c.sync.new.host).folder (c.in-Err.ensures.shown told)

pub returns-in-Ok-clause-behind : goal.returns-in-Ok-clause-behind
returns-in-Ok-clause-behind g c =
    syncs_first g.F.World.tells c.args.request.now c.args.self.now c.carry_out-outcome.new.self (g.F.World.scene c.args.host.now) (g.F.World.scene c.carry_out-outcome.new.host)
    (step.Answer (record { outcome = c.carry_out-outcome.result.0; at = c.args.at }) c.carry_out-outcome.result.1) c.args.at (is_write (result_of c.args.request.now.parsed)) refl c.requires.begins refl
    (record {
      synced = g.F.World.scene c.sync.new.host;
      acknowledged = true;
      works = c.sync.ensures.behind;
      between = c.sync.new.self.text.pair;
      shown = c.in-Ok.ensures.shown;
      commits = c.in-Ok.ensures.commits;
      turns = c.in-Ok.ensures.turns;
      known = c.carry_out-outcome.ensures.kept.known;
      failed = λ is. absurd (true≢false is);
      rest = λ plain told. (c.carry_out-outcome.ensures.kept.looks told, c.carry_out-outcome.ensures.reads told);
    })

pub returns-in-Err-clause-behind : goal.returns-in-Err-clause-behind
returns-in-Err-clause-behind g c =
    syncs_first g.F.World.tells c.args.request.now c.args.self.now c.sync.new.self (g.F.World.scene c.args.host.now) (g.F.World.scene c.sync.new.host)
    (step.Answer (record { outcome = Fault; at = c.args.at }) c.device_fault.result) c.args.at (is_write (result_of c.args.request.now.parsed)) refl c.requires.begins refl
    (record {
      synced = g.F.World.scene c.sync.new.host;
      acknowledged = false;
      works = c.sync.ensures.behind;
      between = c.sync.new.self.text.pair;
      shown = c.in-Err.ensures.shown;
      commits = c.in-Err.ensures.commits;
      turns = c.in-Err.ensures.turns;
      known = record { newer = refl; older = refl };
      failed = λ is. refl;
      rest = λ plain told.
          let synced = g.F.World.scene c.sync.new.host in
          (starts (λ a b. b ≡ a) synced refl, goes_none (λ m. m.kind ≡ Read) synced.trace);
    })
