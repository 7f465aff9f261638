-- A part that is moved lies before those that were, so none of it is written yet.
use Rattle.std.proofs.Common.{◌≡◌, ℕ, ◌+◌, ◌-◌, ◌∙◌, arith}
use Rattle.vs_data.proofs.Moves.{all_moved, more_moved, none_moved}
use Rattle.vs_data.proofs.bytes.move_up.Goals as goal

pub parts-init : goal.parts-init
parts-init c = (omega arith, none_moved c.args.block.now c.args.start (c.args.end - c.args.start) c.args.to)

pub parts-preserved : goal.parts-preserved
parts-preserved c =
    let before = c.parts.invariant in
    let wide : ℕ = c.args.end - c.args.start in
    let fewer : ℕ = c.parts.left - c.min-count.result in
    let less : c.parts.left ≡ fewer + c.min-count.result = omega (arith, c.min-count.ensures) in
    let more = more_moved c.args.block.now c.args.start wide c.args.to c.parts.left c.min-count.result fewer c.requires.upwards c.requires.room before.0 less in
    (omega (arith, before.0), c.move_part.ensures ∙ rw before.1 more)

pub returns : goal.returns
returns c =
    let none : c.parts.left ≡ 0 = omega (arith, c.parts-test.false) in
    c.parts.invariant.1 ∙ rw none (all_moved c.args.block.now c.args.start (c.args.end - c.args.start) c.args.to)
