-- Each turn reads one line more.
use Rattle.std.proofs.Common.{◌≡◌, ◌<◌, ◌+◌, ◌++◌, ◌∙◌, arith, length, subst, sym}
use Rattle.vs_text.specs.Text.{IsLine}
use Rattle.vs_edit.specs.Splices.{cut_out}
use Rattle.vs_edit.proofs.Steps.{OnlyReads-none, OnlyReads-trans}
use Rattle.vs_reads.specs.Reading.{line_of}
use Rattle.vs_reads.proofs.CutLemmas.{pushed, pushed-count, pushed-short}
use Rattle.vs_reads.proofs.ReadLemmas.{line-at, next-at}
use Rattle.vs_reads.proofs.lines.push_lines.Goals as goal

pub raw-requires : goal.raw-requires
raw-requires g c = subst IsLine (sym c.current.ensures) c.in_ok-advance.ensures.is_line

pub loop-preserved : goal.loop-preserved
loop-preserved g c =
    let law = g.met.S.LineStore in
    let before = c.loop.invariant in
    let read = c.in_ok-advance.ensures in
    let at = c.args.top + c.loop.counter in
    let end = c.args.top + c.args.count in
    record {
      lines = λ text has.
          let below : c.args.top + c.loop.counter < length text = omega (arith, law.has_lines c.args.view.now text has, c.requires.within, c.loop-test.true) in
          pushed text c.args.into.now.items c.loop.into.items c.push.new.self.items c.args.top c.loop.counter c.in_ok-line.line below
          (before.lines text has)
          (c.in_ok-line.ensures ∙ c.current.ensures ∙ line-at c.loop.reader text (line_of c.advance.new.self) at end before.at (read.line text (before.kept.present.text text has) (before.copied text has)))
          c.in_ok-push.ensures.items;
      count = pushed-count c.args.into.now.items c.loop.into.items c.push.new.self.items c.loop.counter c.in_ok-line.line before.count c.in_ok-push.ensures.items;
      short = λ all. pushed-short c.loop.into.items c.push.new.self.items c.in_ok-line.line (line_of c.advance.new.self) c.in_ok-push.ensures.items (c.in_ok-line.ensures ∙ c.current.ensures) (before.short all) read.is_short;
      at = next-at c.loop.reader c.advance.new.self at end (c.args.top + (c.loop.counter + 1)) before.at read.at (omega arith);
      copied = λ text has. read.copied text (before.kept.present.text text has) (before.copied text has);
      kept = OnlyReads-trans law.stays_on before.kept read.kept;
      faults = read.cause.none (λ failed. absurd (cc)) ∙ before.faults;
    }

pub returns-in_err-reserve-clause-kept : goal.returns-in_err-reserve-clause-kept
returns-in_err-reserve-clause-kept g c = OnlyReads-none g.met.S.LineStore.stays_itself c.requires.valid

pub returns-in_err-advance-clause-kept : goal.returns-in_err-advance-clause-kept
returns-in_err-advance-clause-kept g c = OnlyReads-trans g.met.S.LineStore.stays_on c.loop.invariant.kept c.advance.ensures.kept

pub returns-in_err-push-clause-kept : goal.returns-in_err-push-clause-kept
returns-in_err-push-clause-kept g c = OnlyReads-trans g.met.S.LineStore.stays_on c.loop.invariant.kept c.in_ok-advance.ensures.kept

pub returns-clause-lines : goal.returns-clause-lines
returns-clause-lines g c = λ text has. subst (λ k. c.loop.into.items ≡ c.args.into.now.items ++ cut_out text c.args.top k) (omega arith) (c.loop.invariant.lines text has)

pub returns-clause-count : goal.returns-clause-count
returns-clause-count g c = omega (arith, c.loop.invariant.count)

pub returns-clause-short : goal.returns-clause-short
returns-clause-short g c = c.loop.invariant.short

pub returns-clause-kept : goal.returns-clause-kept
returns-clause-kept g c = c.loop.invariant.kept

pub returns-in_err-line-clause-kept : goal.returns-in_err-line-clause-kept
returns-in_err-line-clause-kept g c = OnlyReads-trans g.met.S.LineStore.stays_on c.loop.invariant.kept c.in_ok-advance.ensures.kept
