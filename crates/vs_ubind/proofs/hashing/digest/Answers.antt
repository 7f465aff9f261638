use Rattle.std.proofs.Common.{◌≡◌, ◌∙◌, ◌<◌, ◌+◌, length, refl, subst, arith}
use Rattle.sha2.specs.Hashers.{Holds256}
use Rattle.vs_edit.proofs.Steps.{OnlyReads-trans}
use Rattle.vs_reads.proofs.ReadLemmas.{line-at, next-at}
use Rattle.vs_ubind.proofs.Fed.{ended_all, ended_before, ended_more, ended_none}
use Rattle.vs_ubind.proofs.hashing.digest.Goals as goal

pub lines-preserved : goal.lines-preserved
lines-preserved g c =
    let law = g.met.S.LineStore in
    let before = c.lines.invariant in
    let read = c.in_ok-line.ensures in
    record {
      fed = λ lines is.
          let kept = before.kept.present.text lines is in
          let within : c.lines._at < length lines = omega (arith, law.has_lines c.args.text.now lines is, c.len-count.ensures, c.lines-test.true) in
          let line = c.deref_mut.ensures.value ∙ line-at c.lines.reader lines c.line.new.into.items c.lines._at c.len-count.result before.at (read.line lines kept (before.copied lines is)) in
          subst (Holds256 c.feed.new.hasher) (ended_more lines c.lines._at c.deref_mut.result.now within line) (c.feed.ensures (ended_before lines c.lines._at) (before.fed lines is));
      at = next-at c.lines.reader c.line.new.self c.lines._at c.len-count.result (c.lines._at + 1) before.at read.at refl;
      copied = λ lines is. read.copied lines (before.kept.present.text lines is) (before.copied lines is);
      kept = OnlyReads-trans law.stays_on before.kept read.kept;
      faults = read.cause.none (λ failed. absurd (cc)) ∙ before.faults;
    }

pub returns-then-count-eq0-clause-digest : goal.returns-then-count-eq0-clause-digest
returns-then-count-eq0-clause-digest g c = λ lines is.
    ended_none lines c.digest.result (omega (arith, g.met.S.LineStore.has_lines c.args.text.now lines is, c.len-count.ensures, c.if-count-eq0.true))
    c.digest.ensures

pub returns-clause-digest : goal.returns-clause-digest
returns-clause-digest g c = λ lines is.
    let long : length lines ≡ c.lines._at = omega (arith, g.met.S.LineStore.has_lines c.args.text.now lines is, c.len-count.ensures, c.lines-test.false, c.lines.auto._at-end) in
    ended_all lines c.lines._at c.finalize.result long (omega (arith, long, g.met.S.LineStore.has_lines c.args.text.now lines is, c.len-count.ensures, c.if-count-eq0.false))
    (c.finalize.ensures (ended_before lines c.lines._at) (c.lines.invariant.fed lines is))
