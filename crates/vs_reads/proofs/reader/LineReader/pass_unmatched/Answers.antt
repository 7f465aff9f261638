-- Each turn passes the lines of a run that lack the text.
use Rattle.std.proofs.Common.{◌≡◌, ◌∙◌, ◌≤◌, ◌+◌, ◌-◌, arith, refl}
use Rattle.vs_edit.proofs.Steps.{OnlyReads-trans}
use Rattle.vs_edit.specs.Splices.{cut_out}
use Rattle.vs_reads.proofs.ReadLemmas.{copied-count, copied-later, copied-text}
use Rattle.vs_reads.proofs.SearchLemmas.{lacks-more, passes-from, stands-at}
use Rattle.vs_reads.specs.Reading.{rest_of}
use Rattle.vs_reads.proofs.reader.LineReader.pass_unmatched.Goals as goal

pub returns-then-self-gt0-clause-passed : goal.returns-then-self-gt0-clause-passed
returns-then-self-gt0-clause-passed g c = λ text has copied.
    let law = g.met.S.LineStore in
    let before = c.runs.invariant in
    let filled = c.in_ok-fill.ensures in
    let old = c.args.self.now in
    let now = c.fill.new.self in
    let new = c.pass_held.new.self in
    let needle = c.args.finder.now in
    let passed_count = now.held - new.held in
    let is_text = law.has_text c.args.view.now text c.requires.valid has in
    let here = filled.copied text (before.kept.present.text text has) (before.copied text has copied) in
    let count = copied-count (rest_of now) text now.at now.held is_text filled.at.lines here in
    let passed = c.pass_held.ensures.passed (cut_out text now.at now.held) (copied-text text now.at now.held is_text) count here in
    let next : new.at ≡ now.at + passed_count = c.pass_held.ensures.at.at_is in
    let from : old.at ≤ now.at = omega (arith, before.later, filled.at.at_is) in
    let so_far = before.lacking text has copied in
    let lacking = lacks-more needle text old.at now.at now.held passed_count new.at from (omega arith) next
    (rw filled.at.at_is so_far) passed.0.lacking in
    passes-from needle text old.at new.at old.end (omega (arith, from, next))
    (omega (arith, filled.stops before.stops, filled.at.end_is, before.at.end_is, next, c.pass_held.ensures.less))
    lacking (λ below within. stands-at needle text now.at now.held passed_count new.at next (omega (arith, c.if-self-gt0.true, c.pass_held.ensures.less)) (passed.0.stands (omega (arith, count, c.if-self-gt0.true, c.pass_held.ensures.less))))

pub returns-then-self-gt0-clause-copied : goal.returns-then-self-gt0-clause-copied
returns-then-self-gt0-clause-copied g c = λ text has copied.
    let law = g.met.S.LineStore in
    let before = c.runs.invariant in
    let filled = c.in_ok-fill.ensures in
    let now = c.fill.new.self in
    let new = c.pass_held.new.self in
    let is_text = law.has_text c.args.view.now text c.requires.valid has in
    let here = filled.copied text (before.kept.present.text text has) (before.copied text has copied) in
    let count = copied-count (rest_of now) text now.at now.held is_text filled.at.lines here in
    let passed = c.pass_held.ensures.passed (cut_out text now.at now.held) (copied-text text now.at now.held is_text) count here in
    passed.1 ∙ copied-later text now.at now.held (now.held - new.held) new.at new.held (omega arith) c.pass_held.ensures.at.at_is (omega (arith, c.pass_held.ensures.less))

pub runs-preserved : goal.runs-preserved
runs-preserved g c =
    let law = g.met.S.LineStore in
    let before = c.runs.invariant in
    let filled = c.in_ok-fill.ensures in
    let held = c.pass_held.ensures in
    let old = c.args.self.now in
    let now = c.fill.new.self in
    let new = c.pass_held.new.self in
    let needle = c.args.finder.now in
    let from : old.at ≤ now.at = omega (arith, before.later, filled.at.at_is) in
    record {
      lacking = λ text has copied.
          let is_text = law.has_text c.args.view.now text c.requires.valid has in
          let here = filled.copied text (before.kept.present.text text has) (before.copied text has copied) in
          let count = copied-count (rest_of now) text now.at now.held is_text filled.at.lines here in
          let passed = held.passed (cut_out text now.at now.held) (copied-text text now.at now.held is_text) count here in
          let so_far = before.lacking text has copied in
          lacks-more needle text old.at now.at now.held (now.held - new.held) new.at from (omega arith) held.at.at_is (rw filled.at.at_is so_far) passed.0.lacking;
      copied = λ text has copied.
          let is_text = law.has_text c.args.view.now text c.requires.valid has in
          let here = filled.copied text (before.kept.present.text text has) (before.copied text has copied) in
          let count = copied-count (rest_of now) text now.at now.held is_text filled.at.lines here in
          let passed = held.passed (cut_out text now.at now.held) (copied-text text now.at now.held is_text) count here in
          passed.1 ∙ copied-later text now.at now.held (now.held - new.held) new.at new.held (omega arith) held.at.at_is (omega (arith, held.less));
      at = record { at_is = refl; end_is = held.at.end_is ∙ filled.at.end_is ∙ before.at.end_is; lines = held.at.lines };
      later = omega (arith, from, held.at.at_is);
      stops = omega (arith, filled.stops before.stops, held.at.at_is, held.at.end_is, held.less);
      kept = OnlyReads-trans law.stays_on before.kept filled.kept;
      faults = filled.cause.none (λ failed. absurd (cc)) ∙ before.faults;
    }

pub returns-clause-passed : goal.returns-clause-passed
returns-clause-passed g c = λ text has copied.
    let before = c.runs.invariant in
    let old = c.args.self.now in
    let end : c.runs.self.at ≡ old.end = omega (arith, c.runs-test.false, before.stops, before.at.end_is) in
    passes-from c.args.finder.now text old.at c.runs.self.at old.end before.later (omega (arith, end)) (before.lacking text has copied) (λ below within. absurd (omega (arith, below, end)))
