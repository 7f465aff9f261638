-- Each turn shows what is shown at one line more.
use Rattle.std.proofs.Common.{◌∙◌, ℕ, ◌+◌, get_or, Ok, Err, IfErr, refl, ap, sym, subst, arith, rules, ◌≡◌}
use Rattle.std.proofs.lemmas.Result.{err_from_is_err_and}
use Rattle.vs_faults.proofs.Causes.{risen_after}
use Rattle.vs_edit.proofs.Steps.{OnlyReads-trans}
use Rattle.vs_global.specs.Carry.{IsRefused}
use Rattle.vs_machine.specs.Shown.{shown_at, shown_by}
use Rattle.vs_machine.proofs.ShowingLemmas.{refused-at, show-more}
use Rattle.vs_machine.proofs.searching.shown_at.Goals as goal

pub returns-in_err-span-clause-refused : goal.returns-in_err-span-clause-refused
returns-in_err-span-clause-refused g c =
    let before = c.loop-line.invariant in
    let lines = (g.S.LineStore.shows c.args.store.now).present.lines in
    let line = get_or c.args.taken.now c.loop-line.line-index 0 in
    let e = c.in_err-span.field-0.0 in
    let p = err_from_is_err_and c.from_residual.result c.from_residual.ensures.1 in
    let refused = subst (λ (n : ℕ). IsRefused (shown_by c.args.showing n (line + 1)) e) before.kept.present.lines c.in_err-span.ensures.refused in
    subst (λ r. IfErr r (IsRefused (shown_at c.args.showing lines c.args.taken.now))) (sym (p.1 ∙ ap Err p.2))
    (refused-at g.S.LineStore c.args.store.now c.args.showing lines c.args.cursor c.args.taken.now c.loop-line.line-index line c.loop-line.output e c.loop-line-test.true refl before.shown refused)

pub loop-line-preserved : goal.loop-line-preserved
loop-line-preserved g c =
    let before = c.loop-line.invariant in
    let read = c.in_ok-span.ensures in
    let lines = (g.S.LineStore.shows c.args.store.now).present.lines in
    let line = get_or c.args.taken.now c.loop-line.line-index 0 in
    let span = c.in_ok-span.span in
    let is = subst (λ (n : ℕ). shown_by c.args.showing n (line + 1) ≡ Ok span) before.kept.present.lines read.span in
    record {
      shown = show-more g.S.LineStore c.args.store.now c.args.showing lines c.args.cursor c.args.taken.now c.loop-line.line-index line c.loop-line.output _ span c.loop-line-test.true refl before.shown is
          (λ text has. read.bytes text (before.kept.present.text text has) (before.near text has)) refl;
      near = λ text has. read.near text (before.kept.present.text text has) (before.near text has);
      some = λ _. read.some;
      kept = OnlyReads-trans g.met.S.LineStore.stays_on before.kept read.kept;
      faults = read.cause.none (λ failed. absurd (cc)) ∙ before.faults;
    }

pub returns-in_err-span-clause-cause : goal.returns-in_err-span-clause-cause
returns-in_err-span-clause-cause g c =
    let same = c.loop-line.invariant.faults in
    let cause = c.push_shown.ensures.cause in
    record {
      later = omega (arith, same, cause.later);
      risen = λ failed. risen_after (omega (arith, same)) (cause.risen (search rules));
      none = λ calm. cause.none (λ failed. calm (search rules)) ∙ same;
      last = λ failed. let within = cause.last (search rules) in omega (arith, same, within);
    }
