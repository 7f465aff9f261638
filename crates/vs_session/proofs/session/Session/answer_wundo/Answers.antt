use Rattle.std.proofs.Common.{ap, refl}
use Rattle.vs_backup.proofs.Stops.{stops_as}
use Rattle.vs_machine.specs.declared.command.Outcome.TheVariants.{Done, NoMemory, Fault}
use Rattle.vs_session.proofs.Stored.{answers_stored, error_is}
use Rattle.vs_session.proofs.session.Session.answer_wundo.Goals as goal

pub returns-in-Ok-clause-step : goal.returns-in-Ok-clause-step
returns-in-Ok-clause-step g c told state syncs instruction fits is =
    let old = g.F.World.scene c.args.host.now in
    let new = g.F.World.scene c.store_undo.new.host in
    answers_stored state syncs instruction c.args.self.now old fits is c.store_undo.new.self Done c.args.at _ new c.in-Ok.ensures.kept.file.names c.in-Ok.ensures.kept.frame g.F.World.tells told (stops_as _ _ _ _ _ (λ _ e. cc) c.in-Ok.ensures.stops)
    (c.in-Ok.ensures.runs told state syncs fits) (c.in-Ok.ensures.modes told) (λ _. c.in-Ok.ensures.stored told state syncs fits) (λ e. absurd (cc))
    (record { later = c.in-Ok.ensures.kept.cause.later; risen = λ e. absurd (cc) }) (λ e. absurd (cc)) c.undo_file_written.ensures (c.in-Ok.ensures.fits told state syncs fits)

pub returns-in-Err-NoMemory-clause-step : goal.returns-in-Err-NoMemory-clause-step
returns-in-Err-NoMemory-clause-step g c told state syncs instruction fits is =
    let old = g.F.World.scene c.args.host.now in
    let new = g.F.World.scene c.store_undo.new.host in
    answers_stored state syncs instruction c.args.self.now old fits is c.store_undo.new.self NoMemory c.args.at _ new c.in-Err-NoMemory.ensures.kept.file.names c.in-Err-NoMemory.ensures.kept.frame g.F.World.tells told (stops_as _ _ _ _ _ (λ _ e. let is = c.in-Err-NoMemory.field-0-is in cc) c.in-Err-NoMemory.ensures.stops)
    (c.in-Err-NoMemory.ensures.runs told state syncs fits) (c.in-Err-NoMemory.ensures.modes told) (λ e. absurd (cc)) (λ _. c.in-Err-NoMemory.ensures.idle (ap error_is c.in-Err-NoMemory.field-0-is) told)
    (record { later = c.in-Err-NoMemory.ensures.kept.cause.later; risen = λ e. absurd (cc) }) (λ e. absurd (cc)) c.out_of_memory.ensures (c.in-Err-NoMemory.ensures.fits told state syncs fits)

pub returns-in-Err-Failed-clause-step : goal.returns-in-Err-Failed-clause-step
returns-in-Err-Failed-clause-step g c told state syncs instruction fits is =
    let old = g.F.World.scene c.args.host.now in
    let new = g.F.World.scene c.store_undo.new.host in
    answers_stored state syncs instruction c.args.self.now old fits is c.store_undo.new.self Fault c.args.at _ new c.in-Err-Failed.ensures.kept.file.names c.in-Err-Failed.ensures.kept.frame g.F.World.tells told (stops_as _ _ _ _ _ (λ calm _. calm refl) c.in-Err-Failed.ensures.stops)
    (c.in-Err-Failed.ensures.runs told state syncs fits) (c.in-Err-Failed.ensures.modes told) (λ e. absurd (cc)) (λ e. absurd (cc))
    (record { later = c.in-Err-Failed.ensures.kept.cause.later; risen = λ _. c.in-Err-Failed.ensures.kept.cause.risen (ap error_is c.in-Err-Failed.field-0-is) }) (λ e. absurd (cc)) c.device_fault.ensures (c.in-Err-Failed.ensures.fits told state syncs fits)
