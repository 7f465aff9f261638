-- The ends of the lines that were passed over fall, so the next one lies within the block.
use Rattle.std.proofs.Common.{◌≡◌, ◌+◌, ◌-◌, ◌<◌, slice_index, sym, ap, subst, ◌∙◌, arith, add-one}
use Rattle.std.proofs.lemmas.Bool.Decides.{nat_tests}
use Rattle.vs_data.specs.Blocks.{count_in, end_at}
use Rattle.vs_data.proofs.Counting.{EndsFirst, end_within, ends_more, ends_none}
use Rattle.vs_data.proofs.Reading.{has_view}
use Rattle.vs_data.proofs.DataView.ends_lines.Goals as goal
use Rattle.vs_data.proofs.DataView.ends_lines.Goals.{then-start-end-via-then-start-end, then-start-end-via-else-start-end+then-block-end-ne0}

pub lines-init : goal.lines-init
lines-init c =
    let h = has_view c.args.block.now c.args.self.now c.requires in
    (h.end, ends_none c.args.block.now)

pub bounds-block-end : goal.bounds-block-end
bounds-block-end c =
    let h = has_view c.args.block.now c.args.self.now c.requires in
    let within = end_within c.args.block.now c.lines.line c.lines.invariant.1 in
    let room = h.bounds.within in
    omega (arith, c.lines.invariant.0, c.if-start-end.false)

pub returns-then-start-end : goal.returns-then-start-end
returns-then-start-end c =
    let h = has_view c.args.block.now c.args.self.now c.requires in
    let below : c.lines.line < count_in c.args.block.now = omega (arith, c.lines-test.true, h.count) in (
      λ never. cc,
      λ all. elim c.then-start-end.branch [
        | then-start-end-via-then-start-end w ↦
            absurd (omega (arith, all.order c.lines.line below, c.lines.invariant.0, c.start-start.ensures, w.if-start-end.true))
        | then-start-end-via-else-start-end+then-block-end-ne0 w ↦
            absurd (w.if-block-end-ne0.true (ap (λ place. slice_index c.args.block.now (place - 1)) c.lines.invariant.0 ∙ all.zeros c.lines.line below))
      ],
    )

pub lines-preserved : goal.lines-preserved
lines-preserved c =
    let starts : c.start-start.result ≡ end_at c.args.block.now (c.lines.line + 1) = c.start-start.ensures ∙ ap (λ n. end_at c.args.block.now n) (sym (add-one c.lines.line)) in (
      starts,
      ends_more c.args.block.now c.lines.line c.lines.invariant.1
          (omega (arith, c.lines.invariant.0, c.start-start.ensures, c.if-start-end.false))
          (ap (λ place. slice_index c.args.block.now (place - 1)) (sym c.lines.invariant.0) ∙ c.if-block-end-ne0.false),
    )

pub returns : goal.returns
returns c =
    let h = has_view c.args.block.now c.args.self.now c.requires in
    let is : c.lines.line ≡ count_in c.args.block.now = omega (arith, c.lines-test.false, c.lines.auto.line-end, h.count) in
    let ends : c.lines.end ≡ end_at c.args.block.now (count_in c.args.block.now) = c.lines.invariant.0 ∙ ap (λ n. end_at c.args.block.now n) is in
    let first = subst (λ n. EndsFirst c.args.block.now n) is c.lines.invariant.1 in (
      λ same. (let at_start : c.lines.end ≡ c.args.self.now.text_start = grind (arith, nat_tests) in
          record { order = first.order; zeros = first.zeros; start = sym ends ∙ at_start ∙ h.start }),
      λ all. (let at_start : c.lines.end ≡ c.args.self.now.text_start = ends ∙ all.start ∙ sym h.start in grind (arith, nat_tests)),
    )
