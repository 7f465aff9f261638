-- Each turn adds the bytes of one line more.
use Rattle.std.proofs.Common.{◌∙◌, ◌≡◌, ◌≤◌, ◌+◌, ap, arith, length, take}
use Rattle.vs_text.specs.Text.{bytes_of}
use Rattle.vs_gap.proofs.AheadLemmas.{front-bytes, next-size, next-within}
use Rattle.vs_gap.proofs.ahead.Ahead.size.Goals as goal

pub slice_bounds-line_len-count : goal.slice_bounds-line_len-count
slice_bounds-line_len-count c =
    omega (arith, c.loop.invariant, front-bytes c.args.self.now c.loop.counter (omega (arith, c.loop-test.true, c.requires)), c.rest-rest.ensures.size)

pub slice_bounds-line_len-start : goal.slice_bounds-line_len-start
slice_bounds-line_len-start c =
    omega (arith, c.loop.invariant, front-bytes c.args.self.now c.loop.counter (omega (arith, c.loop-test.true, c.requires)), c.rest-rest.ensures.size)

pub overflow_add-size : goal.overflow_add-size
overflow_add-size c =
    omega (
      arith,
      c.rest-rest.ensures.size,
      next-within c.args.self.now c.rest-rest.result.now c.loop.counter c.loop.size c.line_len.result c.rest-rest.ensures.text (omega (arith, c.loop-test.true, c.requires))
          c.rest-rest.ensures.form c.loop.invariant c.line_len.ensures,
    )

pub overflow_add-size-in-loop : goal.overflow_add-size-in-loop
overflow_add-size-in-loop c =
    omega (
      arith,
      c.rest-rest.ensures.size,
      next-within c.args.self.now c.rest-rest.result.now c.loop.counter c.loop.size c.line_len.result c.rest-rest.ensures.text (omega (arith, c.loop-test.true, c.requires))
          c.rest-rest.ensures.form c.loop.invariant c.line_len.ensures,
    )

pub loop-preserved : goal.loop-preserved
loop-preserved c =
    next-size c.args.self.now c.rest-rest.result.now c.loop.counter c.loop.size c.line_len.result c.rest-rest.ensures.text (omega (arith, c.loop-test.true, c.requires))
    c.rest-rest.ensures.form c.loop.invariant c.line_len.ensures

pub returns-clause-is : goal.returns-clause-is
returns-clause-is c =
    let same : c.loop.counter ≡ c.args.count = omega (arith, c.loop-test.false, c.loop.auto.counter-end) in
    c.loop.invariant ∙ ap (λ n. bytes_of (take n c.args.self.now)) same

pub returns-clause-within : goal.returns-clause-within
returns-clause-within c = omega (arith, c.loop.invariant, front-bytes c.args.self.now c.loop.counter (omega (arith, c.requires, c.loop.auto.counter-end)))
