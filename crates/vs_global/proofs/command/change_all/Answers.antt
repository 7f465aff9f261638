-- All that came of the marked lines, as one splice.
use Rattle.std.proofs.Common.{◌≡◌, ◌∙◌, ℕ, List, length, refl, ap, sym, subst, arith, Ok, Err}
use Rattle.std.specs.Prelude.{Option}
use Rattle.std.proofs.lemmas.Result.{err_from_is_err_and}
use Rattle.vs_exparse.specs.Command.{command_of}
use Rattle.vs_excmd.specs.Answer.{Answers}
use Rattle.vs_excmd.specs.Change.{Effect}
use Rattle.vs_global.specs.Carry.{Covers}
use Rattle.vs_global.specs.Global.{changed_at, first_marked, whole_by}
use Rattle.vs_global.specs.declared.run.Untouched.{Untouched}
use Rattle.vs_global.proofs.GlobalLemmas.{allowed-from, changed-ends, changed-refused, first-at}
use Rattle.vs_global.proofs.command.change_all.Goals as goal

pub returns-in_err-carry_all-clause-answers : goal.returns-in_err-carry_all-clause-answers
returns-in_err-carry_all-clause-answers g c = λ text marks has are size.
    let command = command_of c.args.nested.now in
    let p = err_from_is_err_and c.from_residual.result c.from_residual.ensures.1 in
    let here = first-at g.S.LineStore c.args.view.now c.of-marks.result text c.args.cursor marks has (c.of-marks.ensures.lines ∙ are) size in
    let count : c.len-count.result ≡ length c.args.taken.items = omega (arith, c.len-count.ensures) in
    subst (λ r. Answers (changed_at command text c.args.cursor marks) r) (sym (p.1 ∙ ap Err p.2))
    (changed-refused c.len-count.result command text c.args.cursor marks c.in_err-carry_all.field-0.0 (count ∙ ap (λ (l : List ℕ). length l) are)
    (c.in_err-carry_all.ensures.refused (first_marked text c.args.cursor marks) here))

pub returns-clause-answers : goal.returns-clause-answers
returns-clause-answers g c = λ text marks has are size.
    let law = g.met.S.LineStore in
    let start = first_marked text c.args.cursor marks in
    let here = first-at g.S.LineStore c.args.view.now c.of-marks.result text c.args.cursor marks has (c.of-marks.ensures.lines ∙ are) size in
    let ended = c.in_ok-carry_all.ensures.ends start here in
    let count : c.len-count.result ≡ length c.args.taken.items = omega (arith, c.len-count.ensures) in
    let lines = c.len-lines.ensures ∙ sym (law.has_lines c.args.view.now text has) in
    let covers = subst (λ (m : Option Untouched). Covers m text ended.after.text) (sym ended.at.made) (ended.covers text refl) in
    changed-ends c.len-count.result (command_of c.args.nested.now) text c.args.cursor marks ended.after (count ∙ ap (λ (l : List ℕ). length l) are) ended.is
    ∙ ap (λ (e : Effect). Ok e) (ap (λ (k : ℕ). whole_by text ended.after.text k ended.after.made) (sym ended.at.cursor)
    ∙ ap (λ (m : Option Untouched). whole_by text ended.after.text c.carry_all.new.run.cursor m) (sym ended.at.made)
    ∙ sym (c.in_ok-plan.ensures.value text ended.after.text ended.at.text lines covers))

pub returns-clause-allowed : goal.returns-clause-allowed
returns-clause-allowed g c =
    let law = g.met.S.LineStore in
    allowed-from g.S.LineStore c.carry_all.new.view (g.S.LineStore.shows c.args.view.now).present c.len-lines.result c.carry_all.new.run.made c.in_ok-plan.plan (sym c.len-lines.ensures)
    (λ start is.
    let has = c.requires.marked start is in
    let here = first-at g.S.LineStore c.args.view.now c.of-marks.result start c.args.cursor has.marks is (c.of-marks.ensures.lines ∙ has.are) has.size in
    let ended = c.in_ok-carry_all.ensures.ends (first_marked start c.args.cursor has.marks) here in (
      c.len-lines.ensures ∙ sym (law.has_lines c.args.view.now start is),
      (ended.after.text, ended.at.text, subst (λ (m : Option Untouched). Covers m start ended.after.text) (sym ended.at.made) (ended.covers start refl)),
    ))
    c.in_ok-plan.ensures.allowed
