-- Each turn counts the bytes of one line more.
use Rattle.std.proofs.Common.{◌∙◌, ◌<◌, ◌+◌, ap, arith, length}
use Rattle.vs_edit.proofs.Steps.{OnlyReads-trans}
use Rattle.vs_reads.specs.Reading.{line_of}
use Rattle.vs_reads.proofs.CutLemmas.{bytes-more}
use Rattle.vs_reads.proofs.ReadLemmas.{line-at, next-at}
use Rattle.vs_reads.proofs.lines.bytes_in.Goals as goal

pub loop-preserved : goal.loop-preserved
loop-preserved g c =
    let law = g.met.S.LineStore in
    let before = c.loop.invariant in
    let read = c.in_ok-advance.ensures in
    let at = c.args.top + c.loop.counter in
    let end = c.args.top + c.args.count in
    let size = ap length c.current.ensures in
    record {
      small = omega (arith, before.small, size, read.is_short);
      bytes = λ text has.
          let below : c.args.top + c.loop.counter < length text = omega (arith, law.has_lines c.args.view.now text has, c.requires.within, c.loop-test.true) in
          let line = ap length (line-at c.loop.reader text (line_of c.advance.new.self) at end before.at (read.line text (before.kept.present.text text has) (before.copied text has))) in
          omega (arith, bytes-more text c.args.top c.loop.counter below, before.bytes text has, line, size);
      at = next-at c.loop.reader c.advance.new.self at end (c.args.top + (c.loop.counter + 1)) before.at read.at (omega arith);
      copied = λ text has. read.copied text (before.kept.present.text text has) (before.copied text has);
      kept = OnlyReads-trans law.stays_on before.kept read.kept;
      faults = read.cause.none (λ failed. absurd (cc)) ∙ before.faults;
    }

pub returns-in_err-advance-clause-kept : goal.returns-in_err-advance-clause-kept
returns-in_err-advance-clause-kept g c = OnlyReads-trans g.met.S.LineStore.stays_on c.loop.invariant.kept c.advance.ensures.kept
