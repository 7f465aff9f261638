-- What was planned is the meaning of the command.
use Rattle.std.proofs.Common.{ℕ, Err, sym, subst}
use Rattle.std.proofs.lemmas.Result.{IfOk-weaker}
use Rattle.vs_exparse.specs.Command.{command_of}
use Rattle.vs_excmd.specs.Answer.{Answers}
use Rattle.vs_excmd.specs.Meaning.{planned}
use Rattle.vs_machine.specs.Machine.{changing}
use Rattle.vs_machine.proofs.AnswerLemmas.{after_reading, as_meant, read_in, refused_by}
use Rattle.vs_machine.proofs.MeaningLemmas.{meaning_of_plan, meaning_of_refused}
use Rattle.vs_machine.proofs.change.change_text.Goals as goal

pub returns-in-Ok-clause-answers : goal.returns-in-Ok-clause-answers
returns-in-Ok-clause-answers g c = IfOk-weaker c.make.result _ _
    (λ answered answers state lines is stands.
    as_meant (after_reading c.in-Ok.ensures.kept.present (answers state (read_in c.in-Ok.ensures.kept.present is)))
    (meaning_of_plan (planned (command_of c.args.command.now) lines state.text) c.in-Ok.planned c.args.cursor state.cursor (c.in-Ok.ensures.answers state.text lines is.text stands) is.cursor))
    c.make.ensures.answers

pub returns-in-Err-clause-answers : goal.returns-in-Err-clause-answers
returns-in-Err-clause-answers g c = IfOk-weaker c.not_planned.result _ _
    (λ answered refusal state lines is stands.
    let meant = planned (command_of c.args.command.now) lines state.text in
    refused_by g.S.LineStore state c.args.keep (changing (meant state.cursor)) c.in-Err.error c.args.cursor answered c.args.store.now c.plan.new.view c.args.history.now refusal
    (λ e ex. sym (meaning_of_refused (meant state.cursor) c.in-Err.error e
    (subst (λ (n : ℕ). Answers (meant n) (Err c.in-Err.error)) is.cursor (c.in-Err.ensures.answers state.text lines is.text stands)) ex))
    (read_in c.in-Err.ensures.kept.present is) c.in-Err.ensures.kept.present)
    c.not_planned.ensures.refused
