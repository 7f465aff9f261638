use Rattle.std.proofs.Common.{◌∷◌, inr, true, sym, ◌∙◌, subst}
use Rattle.std.proofs.lemmas.Bool.{true≢false}
use Rattle.vs_host.specs.declared.names.Names.{Names}
use Rattle.vs_disk.specs.Runs.{Runs}
use Rattle.vs_undo.specs.History.{history_marked}
use Rattle.vs_ubind.specs.Storing.{StoresBy}
use Rattle.vs_safety.specs.Undo.{HasUndo}
use Rattle.vs_session.specs.Session.{after_sync, sync_in}
use Rattle.vs_session.specs.Modes.{OnlyLike}
use Rattle.vs_session.specs.Stores.{StoresUndo}
use Rattle.vs_session.proofs.BothWritten.{answers_both}
use Rattle.vs_session.proofs.Calls.{GoesOn-weaker}
use Rattle.vs_session.proofs.FileWritten.{calm_why, failed_why, numbers, refuses_as}
use Rattle.vs_session.proofs.Written.{answers_refused}
use Rattle.vs_session.proofs.session.Session.write_and_store.Goals as goal

pub returns-in-Ok-clause-step : goal.returns-in-Ok-clause-step
returns-in-Ok-clause-step g c told state syncs instruction before start at is on s undo_is =
    let mid = g.F.World.scene c.args.host.now in
    let made = g.F.World.scene c.write.new.host in
    let new = g.F.World.scene c.store_written.new.host in
    let after = c.write.new.self in
    let same = c.in-Ok.ensures.kept.file.names ∙ s.names in
    let wrote = c.in-Ok.ensures.wrote told (after_sync state true) (sync_in state true ∷ syncs) s.synced in
    let history = history_marked state.machine.history in
    let store = c.store_written.ensures in
    answers_both state syncs instruction is before c.args.self.now start mid s on c.in-Ok.bytes at after made new c.in-Ok.ensures.kept.frame same wrote store.stores.frame store.stores.cause.later
    (subst (λ (n : Names). Runs (StoresUndo n state.machine.text history) made new) same (store.stores.runs told state.machine.text history undo_is)) (subst (λ (n : Names). OnlyLike n.file made new) same (store.stores.modes told)) _ _ store.ended
    (store.reply ∙ numbers after made.folder _ _ _ c.in-Ok.bytes wrote.fits)
    (λ done. subst (λ (n : Names). HasUndo n state.machine.text history new.folder) same (store.stored done told state.machine.text history undo_is))
    store.stores.cause
    (subst (λ (n : Names). StoresBy n.undo_new n.undo made new) same (store.stores.calls told)) (store.stores.stops.last told)
    (λ calm. store.stores.stops.none told (λ fault. true≢false (sym fault ∙ calm)))

pub returns-in-Err-clause-step : goal.returns-in-Err-clause-step
returns-in-Err-clause-step g c told state syncs instruction before start at is on s undo_is =
    let mid = g.F.World.scene c.args.host.now in
    let new = g.F.World.scene c.write.new.host in
    let wrote = c.in-Err.ensures.wrote told (after_sync state true) (sync_in state true ∷ syncs) s.synced in
    answers_refused state syncs instruction is before c.args.self.now start mid s c.in-Err.why at c.write.new.self new c.in-Err.ensures.kept.frame (c.in-Err.ensures.kept.file.names ∙ s.names)
    wrote _ _ (λ calm. inr (calm_why c.in-Err.why _ c.refused.ensures.outcome calm)) (λ fault in_backup. failed_why c.in-Err.why _ c.refused.ensures.outcome fault)
    (record { later = c.in-Err.ensures.kept.cause.later; risen = λ fault. c.in-Err.ensures.kept.cause.risen (failed_why c.in-Err.why _ c.refused.ensures.outcome fault) })
    (refuses_as c.in-Err.why _ _ c.refused.ensures.outcome c.refused.ensures.reply)

pub returns-in-Err-clause-kept : goal.returns-in-Err-clause-kept
returns-in-Err-clause-kept g c = GoesOn-weaker c.in-Err.ensures.kept (λ fault. failed_why c.in-Err.why _ c.refused.ensures.outcome fault)
