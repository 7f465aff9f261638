-- Each turn passes one line more.
use Rattle.std.proofs.Common.{◌≡◌, ◌∙◌, ◌<◌, ◌+◌, ◌-◌, ℕ, List, [], ◌∷◌, ap, arith, drop, get_or, length, length-drop, sym, take}
use Rattle.std.proofs.lemmas.List.{drop-drop, get_or-drop}
use Rattle.std.proofs.lemmas.List.Elements.{All-drop}
use Rattle.vs_text.specs.Text.{IsLine, IsText, bytes_of, file_of}
use Rattle.vs_edit.specs.Splices.{HoldsLines}
use Rattle.vs_reads.proofs.CutLemmas.{bytes-more}
use Rattle.vs_reads.proofs.ReadLemmas.{IsFirstLength, first-length, first-size}
use Rattle.vs_reads.specs.Reading.{line_of, rest_of}
use Rattle.vs_reads.specs.declared.reader.LineReader.{LineReader}
use Rattle.vs_reads.proofs.reader.LineReader.pass_before.Goals as goal

some-lines : (bytes : List ℕ) (lines : List (List ℕ)) → bytes ≡ file_of lines → 0 < length bytes → 0 < length lines
some-lines bytes [] is some = absurd (omega (arith, some, ap (λ (l : List ℕ). length l) is))
some-lines bytes (line ∷ lines) is some = omega arith

some-held : (held : ℕ) (bytes : List ℕ) → (holds : HoldsLines held bytes) → 0 < length bytes → 0 < held
some-held held bytes holds some = omega (arith, holds.counted, some-lines bytes holds.lines holds.form some)

-- how many bytes a turn passes
record Turn (old new : LineReader) (len : ℕ) : Type 0 where
  size : length (line_of new) ≡ len
  left : length (rest_of old) ≡ length (line_of new) + 1 + length (rest_of new)

turn : (old new : LineReader) (bytes : List ℕ) (len : ℕ) → (holds : HoldsLines old.held (rest_of old)) → 0 < old.held → bytes ≡ rest_of old → IsFirstLength bytes len
    → ((lines : List (List ℕ)) → IsText lines → 0 < length lines → rest_of old ≡ file_of lines → (line_of new ≡ get_or lines 0 []) × (rest_of new ≡ file_of (drop 1 lines)))
    → Turn old new len
turn old new bytes len holds some is first passed =
    let has : 0 < length holds.lines = omega (arith, some, holds.counted) in
    let went = passed holds.lines holds.is_text has holds.form in
    let line = ap (λ (l : List ℕ). length l) went.0 in
    record {
      size = line ∙ sym (first-length bytes holds.lines len holds.is_text has (is ∙ holds.form) first);
      left = omega (arith, line, first-size (rest_of old) (rest_of new) holds.lines has holds.form went.1);
    }

pub overflow_sub-left : goal.overflow_sub-left
overflow_sub-left c =
    let held = some-held c.lines.self.held (rest_of c.lines.self) c.lines.invariant.at.lines (omega (arith, c.lines.invariant.within)) in
    let went = turn c.lines.self c.pass_first.new.self c.rest.result.now c.line_len.result c.lines.invariant.at.lines held c.rest.ensures c.line_len.ensures c.pass_first.ensures.first in
    omega (arith, c.lines-test.true, went.size, ap (λ (l : List ℕ). length l) c.current.ensures)

pub lines-preserved : goal.lines-preserved
lines-preserved c =
    let before = c.lines.invariant in
    let first = c.pass_first.ensures in
    let old = c.args.self.now in
    let now = c.lines.self in
    let new = c.pass_first.new.self in
    let held = some-held now.held (rest_of now) before.at.lines (omega (arith, before.within)) in
    let went = turn now new c.rest.result.now c.line_len.result before.at.lines held c.rest.ensures c.line_len.ensures first.first in
    let size = ap (λ (l : List ℕ). length l) c.current.ensures in
    let count : old.held - new.held ≡ (old.held - now.held) + 1 = omega (arith, first.held, held, before.less) in
    record {
      at = record {
        at_is = omega (arith, first.at.at_is, before.at.at_is, count);
        end_is = first.at.end_is ∙ before.at.end_is;
        lines = first.at.lines;
      };
      less = omega (arith, first.held, before.less);
      within = omega (arith, before.within, went.left, went.size, size, c.lines-test.true);
      passed = λ lines text total is.
          let n = old.held - now.held in
          let so_far = before.passed lines text total is in
          let below : 0 + n < length lines = omega (arith, total, held, before.less) in
          let rest = drop n lines in
          let passed = first.first rest (All-drop IsLine n lines text) (omega (arith, below, length-drop n lines)) so_far.1 in
          let line = ap (λ (l : List ℕ). length l) (passed.0 ∙ get_or-drop n lines 0 []) in
          let more = bytes-more lines 0 n below in
          let same : n + 0 ≡ 0 + n = omega arith in (
            ap (λ k. bytes_of (take k lines) + (c.lines.left - (length c.current.result.now + 1))) count
                ∙ omega (arith, more, so_far.0, line, size, ap (λ k. length (get_or lines k [])) same, went.size, c.lines-test.true),
            passed.1 ∙ ap file_of (drop-drop 1 n lines ∙ ap (λ k. drop k lines) (sym count)),
          );
    }
