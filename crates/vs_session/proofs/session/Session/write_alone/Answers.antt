use Rattle.std.proofs.Common.{◌∷◌, inr, true, ◌∙◌}
use Rattle.vs_machine.specs.declared.command.Outcome.TheVariants.{Done}
use Rattle.vs_session.specs.Session.{after_sync, sync_in}
use Rattle.vs_session.proofs.Calls.{GoesOn-weaker}
use Rattle.vs_session.proofs.FileWritten.{calm_why, failed_why, numbers, refuses_as}
use Rattle.vs_session.proofs.Written.{answers_alone, answers_refused}
use Rattle.vs_session.proofs.session.Session.write_alone.Goals as goal

pub returns-in-Ok-clause-step : goal.returns-in-Ok-clause-step
returns-in-Ok-clause-step g c told state syncs instruction before start at is off s =
    let mid = g.F.World.scene c.args.host.now in
    let new = g.F.World.scene c.write.new.host in
    let wrote = c.in-Ok.ensures.wrote told (after_sync state true) (sync_in state true ∷ syncs) s.synced in
    answers_alone state syncs instruction is before c.args.self.now start mid s c.in-Ok.bytes at c.write.new.self _ new c.in-Ok.ensures.kept.frame (c.in-Ok.ensures.kept.file.names ∙ s.names) wrote off
    (c.written.ensures ∙ numbers c.write.new.self _ _ _ Done c.in-Ok.bytes wrote.fits)

pub returns-in-Err-clause-step : goal.returns-in-Err-clause-step
returns-in-Err-clause-step g c told state syncs instruction before start at is off s =
    let mid = g.F.World.scene c.args.host.now in
    let new = g.F.World.scene c.write.new.host in
    let wrote = c.in-Err.ensures.wrote told (after_sync state true) (sync_in state true ∷ syncs) s.synced in
    answers_refused state syncs instruction is before c.args.self.now start mid s c.in-Err.why at c.write.new.self new c.in-Err.ensures.kept.frame (c.in-Err.ensures.kept.file.names ∙ s.names)
    wrote _ _ (λ calm. inr (calm_why c.in-Err.why _ c.refused.ensures.outcome calm)) (λ fault in_backup. failed_why c.in-Err.why _ c.refused.ensures.outcome fault)
    (record { later = c.in-Err.ensures.kept.cause.later; risen = λ fault. c.in-Err.ensures.kept.cause.risen (failed_why c.in-Err.why _ c.refused.ensures.outcome fault) })
    (refuses_as c.in-Err.why _ _ c.refused.ensures.outcome c.refused.ensures.reply)

pub returns-in-Err-clause-kept : goal.returns-in-Err-clause-kept
returns-in-Err-clause-kept g c = GoesOn-weaker c.in-Err.ensures.kept (λ fault. failed_why c.in-Err.why _ c.refused.ensures.outcome fault)
