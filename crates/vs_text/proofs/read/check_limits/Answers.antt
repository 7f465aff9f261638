-- The lines that were seen are the first ones of the text.
use Rattle.std.proofs.Common.{◌≡◌, ◌≤◌, ◌+◌, ◌++◌, ◌∷◌, [], List, ℕ, length, ap, sym, ◌∙◌, arith, append_assoc, length-append}
use Rattle.std.proofs.lemmas.List.Elements.{All-push}
use Rattle.vs_text.specs.Text.{bytes_of}
use Rattle.vs_text.specs.Documents.{lines_in}
use Rattle.vs_text.specs.Limits.{IsShort, first_long}
use Rattle.vs_text.proofs.FileForm.{bytes_of-append}
use Rattle.vs_text.proofs.Formats.{bytes_of-lines_in}
use Rattle.vs_text.proofs.TextLimits.{first_long_after, length-bytes_of}
use Rattle.vs_text.proofs.read.check_limits.Goals as goal

-- a line more of a text
one_more : (whole seen rest : List (List ℕ)) (line : List ℕ) (more : List (List ℕ)) → whole ≡ seen ++ rest → rest ≡ line ∷ more → whole ≡ seen ++ line ∷ more
one_more whole seen rest line more was is = was ∙ ap (λ ls. seen ++ ls) is

counted : (whole seen : List (List ℕ)) (line : List ℕ) (more : List (List ℕ)) → whole ≡ seen ++ line ∷ more → bytes_of seen + (length line + 1) ≤ bytes_of whole
counted whole seen line more is = omega (arith, ap bytes_of is, bytes_of-append seen (line ∷ more))

pub overflow_add-count : goal.overflow_add-count
overflow_add-count c =
    let seen = c.lines.invariant.seen in
    omega (
      arith,
      seen.3,
      seen.4,
      length-bytes_of seen.0,
      bytes_of-append seen.0 (lines_in c.args.format c.lines.rest.now),
      ap bytes_of seen.1,
      bytes_of-lines_in c.args.format c.args.bytes.now,
    )

pub overflow_add-size-in-lines : goal.overflow_add-size-in-lines
overflow_add-size-in-lines c =
    let seen = c.lines.invariant.seen in
    let is = one_more (lines_in c.args.format c.args.bytes.now) seen.0 (lines_in c.args.format c.lines.rest.now) c.first_line.result.0.now
    (lines_in c.args.format c.first_line.result.1.now) seen.1 c.first_line.ensures.lines in
    omega (
      arith,
      seen.4,
      counted (lines_in c.args.format c.args.bytes.now) seen.0 c.first_line.result.0.now (lines_in c.args.format c.first_line.result.1.now) is,
      bytes_of-lines_in c.args.format c.args.bytes.now,
    )

pub returns-then-length-gt-MAX_LINE_BYTES-clause-refused :
    goal.returns-then-length-gt-MAX_LINE_BYTES-clause-refused
returns-then-length-gt-MAX_LINE_BYTES-clause-refused c =
    let seen = c.lines.invariant.seen in
    let is = one_more (lines_in c.args.format c.args.bytes.now) seen.0 (lines_in c.args.format c.lines.rest.now) c.first_line.result.0.now
    (lines_in c.args.format c.first_line.result.1.now) seen.1 c.first_line.ensures.lines in
    ap first_long is ∙ first_long_after seen.0 c.first_line.result.0.now (lines_in c.args.format c.first_line.result.1.now) seen.2 c.if-length-gt-MAX_LINE_BYTES.true

pub lines-preserved : goal.lines-preserved
lines-preserved c =
    let seen = c.lines.invariant.seen in
    let line = c.first_line.result.0.now in
    let more = lines_in c.args.format c.first_line.result.1.now in
    let is = one_more (lines_in c.args.format c.args.bytes.now) seen.0 (lines_in c.args.format c.lines.rest.now) line more seen.1 c.first_line.ensures.lines in
    record {
      seen = (
        seen.0 ++ line ∷ [],
        is ∙ sym (append_assoc seen.0 (line ∷ []) more),
        All-push IsShort seen.0 line seen.2 c.if-length-gt-MAX_LINE_BYTES.false,
        omega (arith, seen.3, length-append seen.0 (line ∷ [])),
        omega (arith, seen.4, bytes_of-append seen.0 (line ∷ [])),
      );
    }
