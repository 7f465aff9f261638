use Rattle.std.proofs.Common.{◌≡◌, ◌-◌, arith, ◌++◌, ◌∷◌, [], refl}
use Rattle.std.proofs.lemmas.Result.{err_from_is_err_and}
use Rattle.vs_ufile.specs.Reading.{adding, lines, next_line}
use Rattle.vs_ufile.proofs.Loops.{goes_on, fails, is_done, adds, adds_fails, line_next, line_fails}
use Rattle.vs_ufile.proofs.reading.lines.Goals as goal

pub lines-init : goal.lines-init
unfolding lines
lines-init c =
    let whole : c.args.count - 0 ≡ c.args.count = omega arith in
    rw (c.new-lines.ensures.items, whole) refl

pub returns-in_err-line : goal.returns-in_err-line
returns-in_err-line c =
    let p = err_from_is_err_and c.from_residual.result c.from_residual.ensures.1 in
    let stop = c.in_err-line.field-0.0 in
    rw (p.1, p.2) (fails (adding next_line) stop c.args.count c.lines.counter c.lines.lines.items c.lines.rest.now (lines c.args.count c.args.bytes.now) c.lines-test.true (adds_fails next_line stop c.lines.lines.items c.lines.rest.now (line_fails stop c.lines.lines.items c.lines.rest.now c.in_err-line.ensures)) c.lines.invariant)

pub lines-preserved : goal.lines-preserved
lines-preserved c =
    let line = c.in_ok-line.line in
    let here = c.lines in
    rw c.in_ok-push.ensures.items (goes_on (adding next_line) c.args.count here.counter here.lines.items (here.lines.items ++ line ∷ []) here.rest.now c.in_ok-line.after.now (lines c.args.count c.args.bytes.now) c.lines-test.true (adds next_line here.lines.items line here.rest.now c.in_ok-line.after.now (line_next here.lines.items line here.rest.now c.in_ok-line.after.now c.in_ok-line.ensures)) here.invariant)

pub returns : goal.returns
returns c = is_done (adding next_line) c.args.count c.lines.counter c.lines.lines.items c.lines.rest.now (lines c.args.count c.args.bytes.now) c.lines-test.false c.lines.invariant
