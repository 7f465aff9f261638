-- What was shown is printed, and an error refuses the command.
use Rattle.std.proofs.Common.{ℕ, subst}
use Rattle.std.proofs.lemmas.Result.{IfOk-weaker}
use Rattle.vs_global.specs.Carry.{IsRefused}
use Rattle.vs_global.specs.Global.{marked_by}
use Rattle.vs_machine.specs.Answers.{HasShown}
use Rattle.vs_machine.specs.Machine.{printing_all}
use Rattle.vs_machine.specs.Shown.{shown_in, shown_lines}
use Rattle.vs_machine.proofs.AnswerLemmas.{read_in, refused_by}
use Rattle.vs_machine.proofs.ShowingLemmas.{printing-refused, shown-answers}
use Rattle.vs_machine.proofs.searching.print_searched.Goals as goal

pub returns-in-Ok-clause-answers : goal.returns-in-Ok-clause-answers
returns-in-Ok-clause-answers g c = λ state keep tree is.
    let sought = c.args.search.now in
    let showing = c.args.showing in
    let meant : ℕ → _ = λ (n : ℕ). shown_in showing state.text (marked_by sought.range sought.invert sought.pattern.now state.text n) in
    let shown = subst (λ (n : ℕ). HasShown g.S.LineStore c.args.store.now showing (meant n) n c.in-Ok.output) is.cursor (c.in-Ok.ensures.shown state.text is.text) in
    shown-answers g.S.LineStore state keep c.args.store.now c.shown_in.new.store tree showing (meant state.cursor) c.in-Ok.output c.printed.result shown c.printed.ensures is.text
    (c.in-Ok.ensures.kept.present.text state.text is.text) is.history c.in-Ok.ensures.kept.present.worked_by

pub returns-in-Err-clause-answers : goal.returns-in-Err-clause-answers
returns-in-Err-clause-answers g c = IfOk-weaker c.not_planned.result _ _
    (λ answered refusal state keep tree is.
    let sought = c.args.search.now in
    let showing = c.args.showing in
    let form = shown_lines showing.numbers state.text in
    let meant : ℕ → _ = λ (n : ℕ). shown_in showing state.text (marked_by sought.range sought.invert sought.pattern.now state.text n) in
    let refused = subst (λ (n : ℕ). IsRefused (meant n) c.in-Err.error) is.cursor (c.in-Err.ensures.refused state.text is.text) in
    refused_by g.S.LineStore state keep (printing_all form state.cursor (meant state.cursor)) c.in-Err.error c.args.cursor answered c.args.store.now c.shown_in.new.store tree refusal
    (λ e ex. printing-refused form state.cursor (meant state.cursor) c.in-Err.error e refused ex) (read_in c.in-Err.ensures.kept.present is) c.in-Err.ensures.kept.present)
    c.not_planned.ensures.refused
