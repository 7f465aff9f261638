use Rattle.std.proofs.Common.{◌∷◌, inl, inr, List, ℕ, true, refl, sym, ap, subst, ◌∙◌}
use Rattle.std.proofs.lemmas.Bool.{true≢false}
use Rattle.vs_backup.specs.declared.errors.WriteErr.TheVariants as error
use Rattle.vs_backup.specs.declared.errors.Place.TheVariants.{Nowhere}
use Rattle.vs_disk.proofs.Runs.{reads_change}
use Rattle.vs_desk.proofs.Above.{above_counted}
use Rattle.vs_machine.specs.declared.command.Outcome.TheVariants.{NoMemory, Fault}
use Rattle.vs_undo.specs.History.{history_marked}
use Rattle.vs_safety.specs.Undo.{IsUndoOf}
use Rattle.vs_session.specs.Session.{after_sync, sync_in}
use Rattle.vs_session.proofs.BothWritten.{synced_looked, wrote_nothing}
use Rattle.vs_session.proofs.Stored.{error_is}
use Rattle.vs_session.proofs.Written.{answers_refused}
use Rattle.vs_session.proofs.session.Session.write_with_undo.Goals as goal

pub write_and_store-requires : goal.write_and_store-requires
write_and_store-requires g c = record {
  usable = record {
    undo = c.in-Ok.ensures.kept.undo;
    fits = λ told. let given = c.requires.usable.fits told in (given.0, given.1, c.in-Ok.ensures.fits told given.0 given.1 given.2);
  };
}

pub returns-in-Ok-clause-step : goal.returns-in-Ok-clause-step
returns-in-Ok-clause-step g c told state syncs instruction before start at is on s =
    let mid = g.F.World.scene c.args.host.now in
    let seen = g.F.World.scene c.undo_bytes.new.host in
    c.write_and_store.ensures.step told state syncs instruction before start at is on
    (synced_looked state syncs before c.args.self.now c.undo_bytes.new.self start mid seen s c.in-Ok.ensures.kept.frame (c.in-Ok.ensures.kept.looks told) (c.in-Ok.ensures.kept.stops.none told (λ failed. absurd (cc))) c.in-Ok.ensures.kept.file.names
    (c.in-Ok.ensures.fits told (after_sync state true) (sync_in state true ∷ syncs) s.synced))
    (subst (λ (b : List ℕ). IsUndoOf state.machine.text (history_marked state.machine.history) b) (sym c.deref.ensures.value) (c.in-Ok.ensures.bytes told (after_sync state true) (sync_in state true ∷ syncs) s.synced))

pub returns-in-Err-NoMemory-clause-step : goal.returns-in-Err-NoMemory-clause-step
returns-in-Err-NoMemory-clause-step g c told state syncs instruction before start at is on s =
    let mid = g.F.World.scene c.args.host.now in
    let seen = g.F.World.scene c.undo_bytes.new.host in
    let why = c.in-Err-NoMemory.ensures in
    answers_refused state syncs instruction is before c.args.self.now start mid s (error.Failed Nowhere) at c.undo_bytes.new.self seen (reads_change mid seen why.kept.frame) (why.kept.file.names ∙ s.names)
    (wrote_nothing (after_sync state true) (sync_in state true ∷ syncs) c.args.self.now c.undo_bytes.new.self mid seen (g.F.World.is_folder c.args.host.now told) (why.kept.looks told) (why.kept.stops.last told) (above_counted mid seen (why.counts told)) s.synced (why.fits told (after_sync state true) (sync_in state true ∷ syncs) s.synced))
    NoMemory _ (λ _. inl (why.kept.stops.none told (λ failed. let is = c.in-Err-NoMemory.field-0-is in absurd (cc)), (why.kept.looks told).now)) (λ fault in_backup. (Nowhere, refl)) (record { later = why.kept.cause.later; risen = λ e. absurd (true≢false (sym e)) }) (inl (refl, c.out_of_memory.ensures))

pub returns-in-Err-Failed-clause-step : goal.returns-in-Err-Failed-clause-step
returns-in-Err-Failed-clause-step g c told state syncs instruction before start at is on s =
    let mid = g.F.World.scene c.args.host.now in
    let seen = g.F.World.scene c.undo_bytes.new.host in
    let why = c.in-Err-Failed.ensures in
    answers_refused state syncs instruction is before c.args.self.now start mid s (error.Failed Nowhere) at c.undo_bytes.new.self seen (reads_change mid seen why.kept.frame) (why.kept.file.names ∙ s.names)
    (wrote_nothing (after_sync state true) (sync_in state true ∷ syncs) c.args.self.now c.undo_bytes.new.self mid seen (g.F.World.is_folder c.args.host.now told) (why.kept.looks told) (why.kept.stops.last told) (above_counted mid seen (why.counts told)) s.synced (why.fits told (after_sync state true) (sync_in state true ∷ syncs) s.synced))
    Fault _ (λ calm. absurd (true≢false calm)) (λ fault in_backup. (Nowhere, refl)) (record { later = why.kept.cause.later; risen = λ e. why.kept.cause.risen (ap error_is c.in-Err-Failed.field-0-is) }) (inr (refl, c.device_fault.ensures))

pub returns-in-Ok-clause-works : goal.returns-in-Ok-clause-works
returns-in-Ok-clause-works g c told = c.write_and_store.ensures.works told ∙ c.in-Ok.ensures.works told
