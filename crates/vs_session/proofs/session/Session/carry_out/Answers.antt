use Rattle.std.proofs.Common.{◌≡◌, sym, ap, ◌∙◌, refl}
use Rattle.vs_host.specs.Trace.{Read}
use Rattle.vs_disk.proofs.Runs.{goes_none}
use Rattle.vs_session.specs.Session.{own_reply}
use Rattle.vs_session.proofs.SessionLemmas.{own_carried, reply_own, reply_machine}
use Rattle.vs_machine.specs.Answers.{meaning_at}
use Rattle.vs_machine.specs.declared.command.Outcome.TheVariants.{Done}
use Rattle.vs_session.specs.Work.{most_in, work_in}
use Rattle.vs_session.proofs.WorkLemmas.{works_nothing}
use Rattle.vs_session.proofs.session.Session.carry_out.Goals as goal

pub returns-in-Some-clause-reply : goal.returns-in-Some-clause-reply
returns-in-Some-clause-reply g c told state syncs instruction fits is = reply_own (own_reply instruction.parsed) _ _ (sym (ap own_reply is.parsed) ∙ sym c.in-Some.ensures)

pub returns-in-Some-clause-fits : goal.returns-in-Some-clause-fits
returns-in-Some-clause-fits g c told state syncs instruction fits is =
    let now = own_carried c.args.self.now _ _ _ state syncs instruction _ _ is.parsed (sym c.in-Some.ensures) c.options_set-self.ensures.set c.options_set-self.ensures.some fits in
    record { stands = now.stands; name = now.name; cursor = now.cursor; saved = now.saved; saved_format = now.saved_format; steps = now.steps; options = now.options; acknowledged = now.acknowledged }

pub returns-in-None-clause-reply : goal.returns-in-None-clause-reply
returns-in-None-clause-reply g c told state syncs instruction fits is =
    reply_machine c.run_machine.result.0 (own_reply instruction.parsed) _ _ (sym (ap own_reply is.parsed) ∙ sym c.in-None.ensures) (c.run_machine.ensures.reply told state syncs instruction fits is)

pub returns-in-Some-clause-works : goal.returns-in-Some-clause-works
returns-in-Some-clause-works g c told state syncs instruction fits is = works_nothing Done state.machine (meaning_at state.machine instruction) (most_in c.args.self.now.text.tree) (work_in c.args.self.now.text.pair.pages) _ refl

pub returns-in-Some-clause-reads : goal.returns-in-Some-clause-reads
returns-in-Some-clause-reads g c told = goes_none (λ m. m.kind ≡ Read) (g.F.World.scene c.args.host.now).trace
