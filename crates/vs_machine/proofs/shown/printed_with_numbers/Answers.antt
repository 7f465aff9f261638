-- Each turn numbers one line more.
use Rattle.std.proofs.Common.{◌<◌, ◌+◌, ◌-◌, ◌∙◌, arith, length}
use Rattle.vs_edit.proofs.Steps.{OnlyReads-trans}
use Rattle.vs_reads.proofs.ReadLemmas.{line-at, next-at}
use Rattle.vs_machine.proofs.NumberLemmas.{number_line, pushed_some}
use Rattle.vs_machine.specs.Shown.{with_number}
use Rattle.vs_machine.proofs.shown.printed_with_numbers.Goals as goal

pub loop-i-preserved : goal.loop-i-preserved
loop-i-preserved g c =
    let law = g.met.S.LineStore in
    let before = c.loop-i.invariant in
    let read = c.in_ok-line.ensures in
    let last = c.args.span.last in
    let top = c.args.span.first - 1 in
    record {
      lines = λ text has.
          let below : top + c.loop-i.i < length text = omega (arith, law.has_lines c.args.store.now text has, c.requires.lies.within, c.loop-i-test.true) in
          let line = c.deref.ensures.value ∙ line-at c.loop-i.reader text c.line.new.into.items (top + c.loop-i.i) last before.at (read.line text (before.kept.present.text text has) (before.copied text has)) in
          number_line text c.loop-i.bytes.items c.push_numbered.new.into.items c.deref.result.now c.args.span.first top c.loop-i.i below (before.lines text has) line c.in_ok-push_numbered.ensures;
      some = λ _. pushed_some c.loop-i.bytes.items c.push_numbered.new.into.items (with_number (c.args.span.first + c.loop-i.i) c.deref.result.now) c.in_ok-push_numbered.ensures;
      at = next-at c.loop-i.reader c.line.new.self (top + c.loop-i.i) last (top + (c.loop-i.i + 1)) before.at read.at (omega arith);
      copied = λ text has. read.copied text (before.kept.present.text text has) (before.copied text has);
      kept = OnlyReads-trans law.stays_on before.kept read.kept;
      faults = read.cause.none (λ failed. absurd (cc)) ∙ before.faults;
    }
