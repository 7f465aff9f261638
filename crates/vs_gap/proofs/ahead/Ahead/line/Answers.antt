-- The line begins after those before it, and ends at the first newline.
use Rattle.std.proofs.Common.{◌≡◌, ◌+◌, arith, length, refl, subst, sym}
use Rattle.vs_text.specs.Text.{IsLine}
use Rattle.vs_gap.proofs.AheadLemmas.{line-is, line-text, next-within}
use Rattle.vs_gap.proofs.ahead.Ahead.line.Goals as goal

pub overflow_add-to : goal.overflow_add-to
overflow_add-to c =
    omega (
      arith,
      c.rest-rest.ensures.size,
      next-within c.args.self.now c.rest-rest.result.now c.args.at c.size-from.result c.line_len.result c.rest-rest.ensures.text c.requires
          c.rest-rest.ensures.form c.size-from.ensures.is c.line_len.ensures,
    )

pub slice_bounds-result-end : goal.slice_bounds-result-end
slice_bounds-result-end c =
    omega (
      arith,
      c.rest-rest.ensures.size,
      next-within c.args.self.now c.rest-rest.result.now c.args.at c.size-from.result c.line_len.result c.rest-rest.ensures.text c.requires
          c.rest-rest.ensures.form c.size-from.ensures.is c.line_len.ensures,
    )

pub returns-clause-value : goal.returns-clause-value
returns-clause-value c =
    line-is c.args.self.now c.rest-rest.result.now c.args.at c.size-from.result c.line_len.result c.rest-rest.ensures.text c.requires
    c.rest-rest.ensures.form c.size-from.ensures.is c.line_len.ensures (c.size-from.result + c.line_len.result) refl

pub returns-clause-line : goal.returns-clause-line
returns-clause-line c =
    subst IsLine
    (sym (line-is c.args.self.now c.rest-rest.result.now c.args.at c.size-from.result c.line_len.result c.rest-rest.ensures.text c.requires
    c.rest-rest.ensures.form c.size-from.ensures.is c.line_len.ensures (c.size-from.result + c.line_len.result) refl))
    (line-text c.args.self.now c.rest-rest.result.now c.args.at c.size-from.result c.line_len.result c.rest-rest.ensures.text c.requires
    c.rest-rest.ensures.form c.size-from.ensures.is c.line_len.ensures)
