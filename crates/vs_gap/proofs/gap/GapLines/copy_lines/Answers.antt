-- Each turn adds the file form of one line more.
use Rattle.std.proofs.Common.{◌+◌, ◌<◌, arith, length}
use Rattle.vs_gap.proofs.GapLemmas.{copied-more, text-more}
use Rattle.vs_gap.proofs.gap.GapLines.copy_lines.Goals as goal

pub loop-i-preserved : goal.loop-i-preserved
loop-i-preserved c =
    let lines = c.args.self.now in
    let at = c.args.at in
    let i = c.loop-i.i in
    let before = c.loop-i.invariant in
    let within : at + i < length lines = omega (arith, c.requires.within, c.loop-i-test.true) in
    record {
      bytes = copied-more lines at i c.loop-i.into.items c.line.result.now c.bytes.result.now c.extend_from_slice.new.self.items c.push.new.self.items within before.bytes
          c.line.ensures c.bytes.ensures.bytes c.in_ok-extend_from_slice.ensures.items c.in_ok-push.ensures.items;
      text = text-more lines at i c.line.result.now within before.text c.line.ensures c.bytes.ensures.line;
    }
