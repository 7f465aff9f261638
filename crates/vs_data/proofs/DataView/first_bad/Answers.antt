-- The ends of the lines that were passed over fall, so the next one lies within the block.
use Rattle.std.proofs.Common.{below_more, arith, sym, ◌∙◌}
use Rattle.vs_data.proofs.Reading.{bad_at, ends_fall, has_view, no_bad}
use Rattle.vs_data.proofs.DataView.first_bad.Goals as goal

pub is_good-requires-clause-end : goal.is_good-requires-clause-end
is_good-requires-clause-end c =
    let h = has_view c.args.block.now c.args.self.now c.requires in
    let bounds = h.bounds in
    let falls = ends_fall c.args.block.now 0 c.loop-line.line c.loop-line.invariant (omega arith) in
    omega arith

pub returns-then-not-is_good : goal.returns-then-not-is_good
returns-then-not-is_good c =
    let h = has_view c.args.block.now c.args.self.now c.requires in
    sym (bad_at c.args.block.now c.loop-line.line (omega arith) c.loop-line.invariant (sym c.is_good.ensures ∙ c.if-not-is_good.true))

pub loop-line-preserved : goal.loop-line-preserved
loop-line-preserved c = below_more _ _ c.loop-line.invariant (sym c.is_good.ensures ∙ c.if-not-is_good.false)

pub returns : goal.returns
returns c =
    let h = has_view c.args.block.now c.args.self.now c.requires in
    sym (no_bad c.args.block.now (λ k within. c.loop-line.invariant k (omega arith)))
