use Rattle.std.proofs.Common.{arith}
use Rattle.std.proofs.lemmas.Result.{on_ok_weaker}
use Rattle.vs_merge.proofs.splicing.take_out.Goals as goal

pub take_many-requires-clause-left : goal.take_many-requires-clause-left
take_many-requires-clause-left g c = c.requires.left (omega (arith, c.if-count-gt-MOST_SINGLE.true))

pub returns-then-count-gt-MOST_SINGLE-clause-lower : goal.returns-then-count-gt-MOST_SINGLE-clause-lower
returns-then-count-gt-MOST_SINGLE-clause-lower g c = on_ok_weaker c.take_many.result (λ lines few. absurd (omega (arith, few, c.if-count-gt-MOST_SINGLE.true))) c.take_many.ensures.lines

pub returns-then-count-gt-MOST_SINGLE-clause-none : goal.returns-then-count-gt-MOST_SINGLE-clause-none
returns-then-count-gt-MOST_SINGLE-clause-none g c = on_ok_weaker c.take_many.result (λ lines none. absurd (omega (arith, none, c.if-count-gt-MOST_SINGLE.true))) c.take_many.ensures.lines

pub returns-then-count-gt-MOST_SINGLE-clause-works : goal.returns-then-count-gt-MOST_SINGLE-clause-works
returns-then-count-gt-MOST_SINGLE-clause-works g c = on_ok_weaker c.take_many.result (λ lines one. absurd (omega (arith, one, c.if-count-gt-MOST_SINGLE.true))) c.take_many.ensures.lines
