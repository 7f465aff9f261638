-- Each turn numbers one line more.
use Rattle.std.proofs.Common.{◌<◌, arith, length, refl}
use Rattle.vs_text.specs.Text.{lines_of}
use Rattle.vs_machine.proofs.NumberLemmas.{bytes-after, number-after, room-after}
use Rattle.vs_machine.proofs.shown.push_all_numbered.Goals as goal

pub overflow_add-to : goal.overflow_add-to
overflow_add-to c =
    omega (arith, room-after c.args.lines.now c.requires.ended c.loop-i.i c.loop-i.from c.line_len.result (omega (arith, c.loop-i-test.true, c.requires.counted)) c.loop-i.invariant.from c.line_len.ensures)

pub slice_bounds-push_numbered-end : goal.slice_bounds-push_numbered-end
slice_bounds-push_numbered-end c =
    omega (arith, room-after c.args.lines.now c.requires.ended c.loop-i.i c.loop-i.from c.line_len.result (omega (arith, c.loop-i-test.true, c.requires.counted)) c.loop-i.invariant.from c.line_len.ensures)

pub overflow_add-from : goal.overflow_add-from
overflow_add-from c =
    omega (arith, room-after c.args.lines.now c.requires.ended c.loop-i.i c.loop-i.from c.line_len.result (omega (arith, c.loop-i-test.true, c.requires.counted)) c.loop-i.invariant.from c.line_len.ensures)

pub loop-i-preserved : goal.loop-i-preserved
loop-i-preserved c =
    let before = c.loop-i.invariant in
    let below : c.loop-i.i < length (lines_of c.args.lines.now) = omega (arith, c.loop-i-test.true, c.requires.counted) in
    record {
      from = bytes-after c.args.lines.now c.requires.ended c.loop-i.i c.loop-i.from c.line_len.result below before.from c.line_len.ensures;
      within = omega (arith, room-after c.args.lines.now c.requires.ended c.loop-i.i c.loop-i.from c.line_len.result below before.from c.line_len.ensures);
      into = number-after c.args.lines.now c.requires.ended c.loop-i.i c.loop-i.from c.line_len.result below before.from c.line_len.ensures c.args.into.now.items c.loop-i.into.items
          c.push_numbered.new.into.items _ c.args.first before.into refl c.in_ok-push_numbered.ensures;
    }
