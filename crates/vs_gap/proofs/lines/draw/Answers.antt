-- Each turn moves a line.
use Rattle.std.proofs.Common.{◌≡◌, ◌∙◌, ◌<◌, ◌+◌, ◌++◌, ◌∷◌, [], ap, arith, length, length-append}
use Rattle.vs_gap.proofs.LinesLemmas.{first-moved}
use Rattle.vs_gap.proofs.lines.draw.Goals as goal

pub len-requires : goal.len-requires
len-requires c =
    omega (arith, c.requires.few, ap length c.lines.invariant, length-append c.lines.lines c.lines.ahead, length-append c.args.lines.now c.args.ahead.now)

pub lines-preserved : goal.lines-preserved
lines-preserved c =
    let lines = c.lines.lines in
    let ahead = c.lines.ahead in
    let line = c.in_ok-line.line in
    let some : 0 < length ahead =
    omega (arith, c.requires.within, c.lines-test.true, c.len.ensures, ap length c.lines.invariant, length-append lines ahead, length-append c.args.lines.now c.args.ahead.now) in
    ap (λ l. l ++ c.pass.new.self) c.in_ok-push.ensures.ok ∙ ap (λ l. (lines ++ line ∷ []) ++ l) c.pass.ensures.rest
    ∙ first-moved lines ahead line [] some c.in_ok-line.ensures ∙ c.lines.invariant
