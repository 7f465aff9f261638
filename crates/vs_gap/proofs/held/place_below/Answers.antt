-- The lines stand before the held ones, or after them.
use Rattle.std.proofs.Common.{◌∙◌, ◌+◌, ◌-◌, ◌≤◌, ℕ, ap, arith, length, sym}
use Rattle.vs_edit.specs.Splices.{cut_out}
use Rattle.vs_gap.proofs.HeldLemmas.{cut-after, cut-before}
use Rattle.vs_gap.proofs.held.place_below.Goals as goal

pub returns-then-at-held-clause-lines : goal.returns-then-at-held-clause-lines
returns-then-at-held-clause-lines c = λ text within.
    let held = c.args.held.now in
    cut-before text held.lines held.top held.replaced (omega (arith, within)) c.args.at c.args.count (omega (arith, c.if-at-held.true, c.if-count-held.false))

pub returns-clause-lines : goal.returns-clause-lines
returns-clause-lines c = λ text within.
    let held = c.args.held.now in
    let from : held.top ≤ c.args.at = omega (arith, c.if-at-held.false) in
    let past : length held.lines ≤ c.args.at - held.top = omega (arith, c.if-at-held-2.false, c.len-lines.ensures) in
    cut-after text held.lines held.top held.replaced (omega (arith, within)) c.args.at c.args.count from past
    ∙ ap (λ (n : ℕ). cut_out text (c.args.at + held.replaced - n) c.args.count) (sym c.len-lines.ensures)
