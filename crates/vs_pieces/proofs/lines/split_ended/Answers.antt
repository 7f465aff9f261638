-- The bytes up to the last line end are one front with byte 10 behind it.
use Rattle.std.proofs.Common.{◌≡◌, ◌+◌, ◌∷◌, ◌++◌, ◌∙◌, [], List, ℕ, take, ap, sym, subst}
use Rattle.std.proofs.lemmas.Bool.{eqb-true}
use Rattle.std.proofs.lemmas.List.{take_more}
use Rattle.vs_text.specs.Text.{file_of, lines_of}
use Rattle.vs_pieces.proofs.Ended.{line_after, whole_to_end}
use Rattle.vs_pieces.proofs.lines.split_ended.Goals as goal

pub returns-in-Some-clause-whole : goal.returns-in-Some-clause-whole
returns-in-Some-clause-whole c =
    let bytes = c.args.bytes.now in
    let front = take c.in-Some.last bytes in
    let ten = eqb-true _ 10 c.in-Some.ensures.1 in
    let is : c.split_at.result.0.now ≡ front ++ 10 ∷ [] =
    c.split_at.ensures.front ∙ take_more bytes c.in-Some.last 0 c.in-Some.ensures.0.high ∙ ap (λ (byte : ℕ). front ++ byte ∷ []) ten in
    subst (λ (xs : List ℕ). file_of (lines_of xs) ≡ xs) (sym is) (whole_to_end front)

pub returns-in-Some-clause-line : goal.returns-in-Some-clause-line
returns-in-Some-clause-line c = line_after c.args.bytes.now c.split_at.result.1.now (c.in-Some.last + 1) c.in-Some.ensures.0.after c.split_at.ensures.back

pub returns-in-None-clause-line : goal.returns-in-None-clause-line
returns-in-None-clause-line c = line_after c.args.bytes.now c.split_at-in-None.result.1.now 0 c.in-None.ensures c.split_at-in-None.ensures.back
