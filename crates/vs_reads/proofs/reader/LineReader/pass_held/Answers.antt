-- The line in which the text is found first is the first that has it.
use Rattle.std.proofs.Common.{◌≡◌, ◌∙◌, ◌<◌, ◌≤◌, ◌-◌, None, Some, ap, arith, drop, length, length-drop, subst, sym}
use Rattle.std.proofs.lemmas.List.{drop_all, take_all}
use Rattle.std.specs.Prelude.{All}
use Rattle.memchr.specs.Find.{FindsNeedle}
use Rattle.vs_text.specs.Text.{file_of}
use Rattle.vs_reads.specs.declared.reader.LineReader.{LineReader}
use Rattle.vs_reads.specs.Reading.{rest_of}
use Rattle.vs_reads.specs.Searching.{Lacks}
use Rattle.vs_reads.proofs.ReadLemmas.{some-bytes}
use Rattle.vs_reads.proofs.SearchLemmas.{lacks-all, passes-to}
use Rattle.vs_reads.proofs.reader.LineReader.pass_held.Goals as goal

pub rest-requires : goal.rest-requires
rest-requires c =
    let holds = c.requires.lines in
    let self = c.args.self.now in
    let bytes : 0 < length (drop self.from self.run.items) = some-bytes (drop self.from self.run.items) holds.lines (omega (arith, c.requires.held, holds.counted)) holds.form in
    omega (arith, bytes, length-drop self.from self.run.items)

pub returns-in-None-clause-passed : goal.returns-in-None-clause-passed
returns-in-None-clause-passed c = λ lines text count is.
    let needle = c.args.finder.now in
    let self = c.args.self.now in
    let new = c.pass_all.new.self in
    let none : new.held ≡ 0 = ap (λ (reader : LineReader). reader.held) c.pass_all.ensures in
    let past : length lines ≤ self.held - new.held = omega (arith, count, none) in
    let found = subst (λ bytes. FindsNeedle bytes needle 0 None) (c.rest.ensures ∙ is) c.in-None.ensures in (
      record {
        lacking = subst (All (Lacks needle)) (sym (take_all (self.held - new.held) lines past)) (lacks-all needle lines found);
        stands = λ below. absurd (omega (arith, below, past));
      },
      ap rest_of c.pass_all.ensures ∙ drop_all (length self.run.items) self.run.items (omega arith) ∙ ap file_of (sym (drop_all (self.held - new.held) lines past)),
    )

pub returns-in-Some-clause-passed : goal.returns-in-Some-clause-passed
returns-in-Some-clause-passed c = λ lines text count is.
    let needle = c.args.finder.now in
    let place = c.in-Some.place in
    let passed = c.pass_before.ensures.passed lines text count is in
    let found = subst (λ bytes. FindsNeedle bytes needle 0 (Some place)) (c.rest.ensures ∙ is) c.in-Some.ensures in
    (passes-to needle lines (c.args.self.now.held - c.pass_before.new.self.held) place text c.requires.needle c.requires.some found passed.0, passed.1)
