use Rattle.std.proofs.lemmas.Result.{err_from_is_err_and}
use Rattle.vs_ufile.specs.Reading.{next_mark, repeat}
use Rattle.vs_ufile.proofs.Loops.{goes_on, fails, marked, marked_fails, marks_done}
use Rattle.vs_ufile.proofs.fields.each_mark.Goals as goal

pub returns-in_err-_mark : goal.returns-in_err-_mark
returns-in_err-_mark c =
    let p = err_from_is_err_and c.from_residual.result c.from_residual.ensures.1 in
    rw (p.1, p.2) (fails next_mark c.in_err-_mark.field-0.0 26 c.marks.before c.marks.before c.marks.rest.now (repeat 26 next_mark 0 c.args.bytes.now) c.marks-test.true (marked_fails c.in_err-_mark.field-0.0 c.marks.before c.marks.rest.now c.in_err-_mark.ensures) c.marks.invariant)

pub marks-preserved : goal.marks-preserved
marks-preserved c = goes_on next_mark 26 c.marks.before c.marks.before _ c.marks.rest.now c.in_ok-_mark.after.now (repeat 26 next_mark 0 c.args.bytes.now) c.marks-test.true (marked c.marks.before c.in_ok-_mark._mark.now c.marks.rest.now c.in_ok-_mark.after.now c.in_ok-_mark.ensures) c.marks.invariant

pub returns : goal.returns
returns c = marks_done c.marks.before c.marks.rest.now (repeat 26 next_mark 0 c.args.bytes.now) c.marks-test.false c.marks.auto.before-end c.marks.invariant
