-- A command shows lines at each of the lines of a search, or changes them.
use Rattle.std.proofs.Common.{◌∙◌, Option, sym, ap}
use Rattle.std.proofs.lemmas.Result.{IfOk-weaker}
use Rattle.vs_exparse.specs.Command.{command_of}
use Rattle.vs_machine.specs.Machine.{searching}
use Rattle.vs_machine.specs.declared.show.Showing.{Showing}
use Rattle.vs_machine.proofs.AnswerLemmas.{as_meant}
use Rattle.vs_machine.proofs.MeaningLemmas.{nested-changes, showing-count}
use Rattle.vs_machine.proofs.answering.do_searched.Goals as goal

pub print_searched-requires-clause-form : goal.print_searched-requires-clause-form
print_searched-requires-clause-form g c = showing-count (command_of c.args.nested.now) c.in-Some.showing c.requires.form (sym c.showing_of.ensures ∙ c.in-Some.is)

pub change_searched-requires-clause-changes : goal.change_searched-requires-clause-changes
change_searched-requires-clause-changes g c = nested-changes (command_of c.args.nested.now) c.requires.nested (sym c.showing_of.ensures ∙ c.in-None.is)

pub returns-in-Some-clause-answers : goal.returns-in-Some-clause-answers
returns-in-Some-clause-answers g c = IfOk-weaker c.print_searched.result _ _
    (λ answered answers state is.
    let sought = c.args.search.now in
    as_meant (answers state c.args.keep c.args.history.now is)
    (ap (λ (o : Option Showing). searching o state sought.range sought.invert sought.pattern.now (command_of c.args.nested.now)) (sym c.in-Some.is ∙ c.showing_of.ensures)))
    c.print_searched.ensures.answers

pub returns-in-None-clause-answers : goal.returns-in-None-clause-answers
returns-in-None-clause-answers g c = IfOk-weaker c.change_searched.result _ _
    (λ answered answers state is.
    let sought = c.args.search.now in
    as_meant (answers state is)
    (ap (λ (o : Option Showing). searching o state sought.range sought.invert sought.pattern.now (command_of c.args.nested.now)) (sym c.in-None.is ∙ c.showing_of.ensures)))
    c.change_searched.ensures.answers
