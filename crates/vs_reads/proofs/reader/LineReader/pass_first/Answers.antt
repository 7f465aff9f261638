-- The first line that is held ends at the first newline.
use Rattle.std.proofs.Common.{◌≡◌, ◌<◌, ◌≤◌, ◌+◌, ◌-◌, ◌∙◌, [], List, ℕ, length, drop, take, get_or, ap, sym, subst, refl, arith, length-drop}
use Rattle.std.proofs.lemmas.List.{drop-drop}
use Rattle.std.proofs.lemmas.List.Elements.{All-get_or}
use Rattle.vs_text.specs.Text.{IsLine}
use Rattle.vs_text.specs.Limits.{IsShort}
use Rattle.vs_reads.proofs.ReadLemmas.{IsFirstLength, first-line, first-rest, first-within, holds-rest, some-bytes}
use Rattle.vs_reads.proofs.reader.LineReader.pass_first.Goals as goal

pub rest-requires : goal.rest-requires
rest-requires c =
    let holds = c.requires.lines in
    let self = c.args.self.now in
    let bytes : 0 < length (drop self.from self.run.items) = some-bytes (drop self.from self.run.items) holds.lines (omega (arith, c.requires.some, holds.counted)) holds.form in
    omega (arith, bytes, length-drop self.from self.run.items)

pub overflow_add-self : goal.overflow_add-self
overflow_add-self c =
    let holds = c.requires.lines in
    let within = first-within c.rest.result.now holds.lines c.line_len-len.result holds.is_text (omega (arith, c.requires.some, holds.counted)) (c.rest.ensures ∙ holds.form) c.line_len-len.ensures in
    let size = ap (λ (l : List ℕ). length l) c.rest.ensures ∙ length-drop c.args.self.now.from c.args.self.now.run.items in
    omega (arith, within, size, c.args.self.now.run.small)

pub overflow_add-self-2 : goal.overflow_add-self-2
overflow_add-self-2 c =
    let holds = c.requires.lines in
    let within = first-within c.rest.result.now holds.lines c.line_len-len.result holds.is_text (omega (arith, c.requires.some, holds.counted)) (c.rest.ensures ∙ holds.form) c.line_len-len.ensures in
    let size = ap (λ (l : List ℕ). length l) c.rest.ensures ∙ length-drop c.args.self.now.from c.args.self.now.run.items in
    omega (arith, within, size, c.args.self.now.run.small)

pub returns-clause-first : goal.returns-clause-first
returns-clause-first c = λ lines text some is.
    let self = c.args.self.now in
    let len = c.line_len-len.result in
    let bytes = c.rest.ensures ∙ is in
    let size : self.from + len - self.from ≡ len = omega arith in
    let next : self.from + len + 1 ≡ self.from + (len + 1) = omega arith in (
      ap (λ (n : ℕ). take n (drop self.from self.run.items)) size ∙ ap (λ (l : List ℕ). take len l) (sym c.rest.ensures)
          ∙ first-line c.rest.result.now lines len text some bytes c.line_len-len.ensures,
      ap (λ (n : ℕ). drop n self.run.items) next ∙ sym (drop-drop (len + 1) self.from self.run.items) ∙ ap (λ (l : List ℕ). drop (len + 1) l) (sym c.rest.ensures)
          ∙ first-rest c.rest.result.now lines len text some bytes c.line_len-len.ensures,
    )

pub returns-clause-line : goal.returns-clause-line
returns-clause-line c =
    let self = c.args.self.now in
    let len = c.line_len-len.result in
    let holds = c.requires.lines in
    let some : 0 < length holds.lines = omega (arith, c.requires.some, holds.counted) in
    let size : self.from + len - self.from ≡ len = omega arith in
    let line : get_or holds.lines 0 [] ≡ take (self.from + len - self.from) (drop self.from self.run.items) =
    sym (ap (λ (n : ℕ). take n (drop self.from self.run.items)) size ∙ ap (λ (l : List ℕ). take len l) (sym c.rest.ensures)
    ∙ first-line c.rest.result.now holds.lines len holds.is_text some (c.rest.ensures ∙ holds.form) c.line_len-len.ensures) in (
      subst IsLine line (All-get_or IsLine holds.lines 0 [] some holds.is_text),
      subst IsShort line (All-get_or IsShort holds.lines 0 [] some holds.short_lines),
    )

pub returns-clause-stands : goal.returns-clause-stands
returns-clause-stands c =
    let self = c.args.self.now in
    let holds = c.requires.lines in
    let within = first-within c.rest.result.now holds.lines c.line_len-len.result holds.is_text (omega (arith, c.requires.some, holds.counted)) (c.rest.ensures ∙ holds.form) c.line_len-len.ensures in
    let size = ap (λ (l : List ℕ). length l) c.rest.ensures ∙ length-drop self.from self.run.items in
    let start : self.from ≤ self.from + c.line_len-len.result = omega arith in
    let stop : self.from + c.line_len-len.result ≤ length self.run.items = omega (arith, within, size) in
    (start, stop)

pub returns-clause-at : goal.returns-clause-at
returns-clause-at c =
    let self = c.args.self.now in
    let len = c.line_len-len.result in
    let found = subst (λ bytes. IsFirstLength bytes len) c.rest.ensures c.line_len-len.ensures in
    let next : self.from + len + 1 ≡ self.from + (len + 1) = omega arith in
    record {
      at_is = refl;
      end_is = refl;
      lines = holds-rest self.held len (drop self.from self.run.items) (drop (self.from + len + 1) self.run.items)
          c.requires.some c.requires.lines found (ap (λ (n : ℕ). drop n self.run.items) next ∙ sym (drop-drop (len + 1) self.from self.run.items));
    }
