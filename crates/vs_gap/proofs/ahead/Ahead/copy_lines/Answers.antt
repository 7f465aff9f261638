use Rattle.std.proofs.Common.{◌∙◌, ◌+◌, ◌++◌, ap, arith}
use Rattle.vs_gap.proofs.AheadLemmas.{cut-bytes, longer-bytes, many-bytes}
use Rattle.vs_gap.proofs.ahead.Ahead.copy_lines.Goals as goal

pub overflow_add-at : goal.overflow_add-at
overflow_add-at c = omega (arith, c.requires.within, many-bytes c.args.self.now, c.rest-rest.ensures.size)

pub slice_bounds-extend_from_slice-count : goal.slice_bounds-extend_from_slice-count
slice_bounds-extend_from_slice-count c = omega (arith, c.size-from.ensures.is, c.size-to.ensures.is, longer-bytes c.args.self.now c.args.at c.args.count)

pub slice_bounds-extend_from_slice-start : goal.slice_bounds-extend_from_slice-start
slice_bounds-extend_from_slice-start c = omega (arith, c.size-from.ensures.is, c.size-to.ensures.is, longer-bytes c.args.self.now c.args.at c.args.count)

pub slice_bounds-extend_from_slice-end : goal.slice_bounds-extend_from_slice-end
slice_bounds-extend_from_slice-end c = omega (arith, c.size-to.ensures.within, c.rest-rest.ensures.size)

pub returns-clause-bytes : goal.returns-clause-bytes
returns-clause-bytes c =
    c.in_ok-extend_from_slice.ensures.items
    ∙ ap (λ l. c.args.into.now.items ++ l)
    (cut-bytes c.args.self.now c.rest-rest.result.now c.args.at c.args.count c.size-from.result c.size-to.result c.requires.within c.rest-rest.ensures.form c.size-from.ensures.is c.size-to.ensures.is)
