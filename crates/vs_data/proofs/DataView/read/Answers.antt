-- `bounds` and the search of the index answer the two parts of what `read` answers.
use Rattle.std.proofs.Common.{None, Some, sym, ◌∙◌}
use Rattle.std.proofs.lemmas.Result.{err_from_is_err_and}
use Rattle.vs_data.specs.declared.DataErr.TheVariants.{BadIndex}
use Rattle.vs_data.proofs.Lines.{measured, no_lines}
use Rattle.vs_data.proofs.Reading.{view_found, view_refused}
use Rattle.vs_data.proofs.DataView.read.Goals as goal

pub returns-in_err-view-clause-answer : goal.returns-in_err-view-clause-answer
returns-in_err-view-clause-answer c =
    let p = err_from_is_err_and c.from_residual.result c.from_residual.ensures.1 in
    rw (p.1, p.2) (sym (view_refused c.args.block.now _ (sym c.bounds.ensures ∙ c.in_err-view.was)))

pub returns-in_err-view-clause-refused : goal.returns-in_err-view-clause-refused
returns-in_err-view-clause-refused c =
    let p = err_from_is_err_and c.from_residual.result c.from_residual.ensures.1 in
    rw p.1 (no_lines c.args.block.now _ (view_refused c.args.block.now _ (sym c.bounds.ensures ∙ c.in_err-view.was)))

pub returns-in-Some-clause-answer : goal.returns-in-Some-clause-answer
returns-in-Some-clause-answer c =
    sym (view_found c.args.block.now c.in_ok-view.view (Some c.in-Some.line) (sym c.bounds.ensures ∙ c.in_ok-view.was) (sym c.in-Some.is ∙ c.first_bad.ensures))

pub returns-in-Some-clause-refused : goal.returns-in-Some-clause-refused
returns-in-Some-clause-refused c =
    no_lines c.args.block.now (BadIndex c.in-Some.line)
    (view_found c.args.block.now c.in_ok-view.view (Some c.in-Some.line) (sym c.bounds.ensures ∙ c.in_ok-view.was) (sym c.in-Some.is ∙ c.first_bad.ensures))

pub returns-in-None-clause-answer : goal.returns-in-None-clause-answer
returns-in-None-clause-answer c =
    sym (view_found c.args.block.now c.in_ok-view.view None (sym c.bounds.ensures ∙ c.in_ok-view.was) (sym c.in-None.is ∙ c.first_bad.ensures))

pub returns-in-None-clause-lines : goal.returns-in-None-clause-lines
returns-in-None-clause-lines c =
    measured c.args.block.now c.in_ok-view.view
    (view_found c.args.block.now c.in_ok-view.view None (sym c.bounds.ensures ∙ c.in_ok-view.was) (sym c.in-None.is ∙ c.first_bad.ensures))
