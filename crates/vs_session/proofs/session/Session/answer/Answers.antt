use Rattle.std.proofs.Common.{◌≡◌, ◌||◌, true, false, sym, ap, ◌∙◌}
use Rattle.vs_session.specs.Session.{is_rundo, is_write, is_wundo, uses_files}
use Rattle.vs_session.proofs.SessionLemmas.{quits_is, begins_is}
use Rattle.vs_session.proofs.Steps.{answers_plainly}
use Rattle.vs_session.proofs.WorkLemmas.{step_unworked}
use Rattle.vs_session.specs.declared.session.Step.TheVariants as step
use Rattle.vs_session.proofs.SwapSyncs.{syncs_first, syncs_none}
use Rattle.vs_session.proofs.Replaced as replaced
use Rattle.vs_session.proofs.Stored as stored
use Rattle.vs_session.proofs.WriteCommand as write
use Rattle.vs_session.proofs.session.Session.answer.Goals as goal

pub returns-clause-step : goal.returns-clause-step
returns-clause-step g c told state syncs instruction fits is =
    let old = g.F.World.scene c.args.host.now in
    let new = g.F.World.scene c.carry_out-outcome.new.host in
    let no_write : is_write instruction.parsed ≡ false = sym (ap is_write is.parsed) ∙ sym c.is_write.ensures ∙ c.if-is_write.false in
    let no_wundo : is_wundo instruction.parsed ≡ false = sym (ap is_wundo is.parsed) ∙ sym c.is_wundo.ensures ∙ c.if-is_wundo.false in
    let no_rundo : is_rundo instruction.parsed ≡ false = sym (ap is_rundo is.parsed) ∙ sym c.is_rundo.ensures ∙ c.if-is_rundo.false in
    let plain : uses_files instruction.parsed ≡ false = λ i. (no_write i || no_wundo i) || no_rundo i in
    answers_plainly state syncs instruction c.args.self.now old (quits_is c.args.self.now old.folder state syncs instruction _ false fits is.parsed c.requires.goes_on) fits plain g.F.World.tells told c.carry_out-outcome.new.self _ _ new c.carry_out-outcome.ensures.stored
    (begins_is c.args.self.now old.folder state syncs instruction _ false fits is.parsed (sym c.begins_sync.ensures ∙ c.if-begins_sync.false)) c.carry_out-outcome.ensures.kept.file.names c.carry_out-outcome.ensures.kept.frame
    (c.carry_out-outcome.ensures.kept.looks told) c.carry_out-outcome.ensures.kept.stops c.carry_out-outcome.ensures.kept.cause (c.carry_out-outcome.ensures.reply told state syncs instruction fits is) (c.carry_out-outcome.ensures.fits told state syncs instruction fits is)

pub returns-then-is_write-clause-step : goal.returns-then-is_write-clause-step
returns-then-is_write-clause-step g c told state syncs instruction fits is = c.answer_write.ensures.step told state syncs instruction fits (sym (ap is_write is.parsed) ∙ sym c.is_write.ensures ∙ c.if-is_write.true)

pub returns-then-is_wundo-clause-step : goal.returns-then-is_wundo-clause-step
returns-then-is_wundo-clause-step g c told state syncs instruction fits is = c.answer_wundo.ensures.step told state syncs instruction fits (sym (ap is_wundo is.parsed) ∙ sym c.is_wundo.ensures ∙ c.if-is_wundo.true)

pub returns-then-is_rundo-clause-step : goal.returns-then-is_rundo-clause-step
returns-then-is_rundo-clause-step g c told state syncs instruction fits is = c.answer_rundo.ensures.step told state syncs instruction fits (sym (ap is_rundo is.parsed) ∙ sym c.is_rundo.ensures ∙ c.if-is_rundo.true)

pub returns-clause-works : goal.returns-clause-works
returns-clause-works g c = c.carry_out-outcome.ensures.works

pub returns-then-is_write-clause-works : goal.returns-then-is_write-clause-works
returns-then-is_write-clause-works g c = step_unworked g.F.World.tells c.args.request.now c.answer_write.result c.args.self.now c.answer_write.new.self (g.F.World.scene c.args.host.now).folder c.answer_write.ensures.works

pub returns-then-is_wundo-clause-works : goal.returns-then-is_wundo-clause-works
returns-then-is_wundo-clause-works g c = step_unworked g.F.World.tells c.args.request.now c.answer_wundo.result c.args.self.now c.answer_wundo.new.self (g.F.World.scene c.args.host.now).folder c.answer_wundo.ensures.works

pub returns-then-is_rundo-clause-works : goal.returns-then-is_rundo-clause-works
returns-then-is_rundo-clause-works g c = step_unworked g.F.World.tells c.args.request.now c.answer_rundo.result c.args.self.now c.answer_rundo.new.self (g.F.World.scene c.args.host.now).folder c.answer_rundo.ensures.works

pub returns-clause-behind : goal.returns-clause-behind
returns-clause-behind g c =
    syncs_none g.F.World.tells c.args.request.now c.args.self.now c.carry_out-outcome.new.self (g.F.World.scene c.args.host.now) (g.F.World.scene c.carry_out-outcome.new.host)
    (step.Answer (record { outcome = c.carry_out-outcome.result.0; at = c.args.at }) c.carry_out-outcome.result.1) (sym c.begins_sync.ensures ∙ c.if-begins_sync.false) c.carry_out-outcome.ensures.kept.known

pub returns-then-is_write-clause-behind : goal.returns-then-is_write-clause-behind
returns-then-is_write-clause-behind g c =
    let writes = sym c.is_write.ensures ∙ c.if-is_write.true in
    syncs_first g.F.World.tells c.args.request.now c.args.self.now c.answer_write.new.self (g.F.World.scene c.args.host.now) (g.F.World.scene c.answer_write.new.host) c.answer_write.result c.args.at true
    c.answer_write.ensures.time (write.begins_is c.args.self.now.steps _ writes) writes c.answer_write.ensures.behind

pub returns-then-is_wundo-clause-behind : goal.returns-then-is_wundo-clause-behind
returns-then-is_wundo-clause-behind g c =
    syncs_none g.F.World.tells c.args.request.now c.args.self.now c.answer_wundo.new.self (g.F.World.scene c.args.host.now) (g.F.World.scene c.answer_wundo.new.host) c.answer_wundo.result
    (stored.begins_none c.args.self.now.steps _ (sym c.is_wundo.ensures ∙ c.if-is_wundo.true)) c.answer_wundo.ensures.kept.known

pub returns-then-is_rundo-clause-behind : goal.returns-then-is_rundo-clause-behind
returns-then-is_rundo-clause-behind g c =
    syncs_none g.F.World.tells c.args.request.now c.args.self.now c.answer_rundo.new.self (g.F.World.scene c.args.host.now) (g.F.World.scene c.answer_rundo.new.host) c.answer_rundo.result
    (replaced.begins_none c.args.self.now.steps _ (sym c.is_rundo.ensures ∙ c.if-is_rundo.true)) c.answer_rundo.ensures.kept.known
