-- The store has its text as before, so what may be planned for the one may be for the other.
use Rattle.std.proofs.Common.{◌∙◌, ℕ, Bool, List, Result, Err, ap, sym, subst}
use Rattle.std.proofs.lemmas.Result.{IfOk-weaker, err_from_is_err_and}
use Rattle.vs_edit.proofs.Steps.{SameText-trans}
use Rattle.vs_exparse.specs.Command.{command_of}
use Rattle.vs_exparse.specs.declared.command.ExErr.{ExErr}
use Rattle.vs_excmd.specs.Answer.{Answers}
use Rattle.vs_excmd.specs.Change.{Effect}
use Rattle.vs_excmd.specs.Errors.{on}
use Rattle.vs_global.specs.Global.{changed_at, global, marked_by}
use Rattle.vs_global.proofs.GlobalLemmas.{allows-same, search-refused}
use Rattle.vs_global.proofs.command.global.Goals as goal

pub returns-in_err-taken-clause-answers : goal.returns-in_err-taken-clause-answers
returns-in_err-taken-clause-answers g c = λ text has.
    let sought = c.args.search.now in
    let p = err_from_is_err_and c.from_residual.result c.from_residual.ensures.1 in
    subst (λ r. Answers (global sought.range sought.invert sought.pattern.now (command_of c.args.nested.now) text c.args.cursor) r) (sym (p.1 ∙ ap Err p.2))
    (search-refused (marked_by sought.range sought.invert sought.pattern.now text c.args.cursor) (command_of c.args.nested.now) text c.args.cursor c.in_err-taken.field-0.0
    (c.in_err-taken.ensures.refused text has))

pub returns-clause-answers : goal.returns-clause-answers
returns-clause-answers g c = λ text has.
    let marked = c.in_ok-taken.ensures.marked text has in
    let changes : List Bool → Result Effect ExErr = changed_at (command_of c.args.nested.now) text c.args.cursor in
    subst (λ (meant : Result Effect ExErr). Answers meant c.change-plan.result) (sym (ap (λ (r : Result (List Bool) ExErr). on r changes) marked.is))
    (c.change-plan.ensures.answers text marked.has.marks (c.in_ok-taken.ensures.kept.present.text text has) marked.has.are marked.has.size)

pub returns-clause-allowed : goal.returns-clause-allowed
returns-clause-allowed g c =
    let law = g.met.S.LineStore in
    let taken = c.in_ok-taken.ensures.kept in
    let back = SameText-trans taken.committed (SameText-trans c.change-plan.ensures.kept.committed c.rollback.ensures.present) in
    let present = SameText-trans c.requires.committed back in
    IfOk-weaker c.change-plan.result _ _
    (λ plan allows. allows-same (g.S.LineStore.shows c.marked_lines.new.view).present (g.S.LineStore.shows c.rollback.new.self).present plan
    (present.lines ∙ sym taken.present.lines)
    (λ text has.
    let was = law.tells_one c.args.view.now c.requires.valid (law.has_told c.rollback.new.self text has) in
    let same = law.has_one c.rollback.new.self text was.0 has (present.text was.0 was.1) in
    subst (λ (l : List (List ℕ)). (g.S.LineStore.shows c.marked_lines.new.view).present.Is l) (sym same) (taken.present.text was.0 was.1)) allows)
    c.change-plan.ensures.allowed
