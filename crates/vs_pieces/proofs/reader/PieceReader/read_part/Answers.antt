use Rattle.std.proofs.Common.{◌≡◌, ◌∙◌, ◌++◌, ◌∷◌, [], List, ℕ, ap, sym, subst, append_assoc}
use Rattle.std.proofs.lemmas.Result.{err_from_is_err_and, on_ok_weaker}
use Rattle.vs_pieces.specs.Reader.{ReadsOn, Refuses}
use Rattle.vs_pieces.proofs.Reading.{ReadsOn-then, Refuses-then, Refuses-more}
use Rattle.vs_pieces.proofs.reader.PieceReader.read_part.Goals as goal

-- a line with its end, and what follows
line_then : (line after : List ℕ) → line ++ 10 ∷ after ≡ (line ++ 10 ∷ []) ++ after
line_then line after = simp append_assoc

pub returns-in_err-end_line-clause-refused : goal.returns-in_err-end_line-clause-refused
returns-in_err-end_line-clause-refused c =
    let p = err_from_is_err_and c.from_residual-in_err-end_line.result c.from_residual-in_err-end_line.ensures.1 in
    let line = c.in-Some.line.now in
    let after = c.in-Some.after.now in
    let error = c.in_err-end_line.field-0.0 in
    let refuses : Refuses c.args.self.now (line ++ 10 ∷ []) error = Refuses-then c.args.self.now c.read_bytes-2.new.self line (10 ∷ []) error c.in_ok-read_bytes.ensures.reads c.in_err-end_line.ensures.refused in
    let all = Refuses-more c.args.self.now (line ++ 10 ∷ []) after error refuses in
    let whole : (line ++ 10 ∷ []) ++ after ≡ c.args.part.now = sym (c.in-Some.ensures.1 ∙ line_then line after) in
    rw p.1 (subst (λ e. Refuses c.args.self.now c.args.part.now e) (sym p.2)
    (subst (λ part. Refuses c.args.self.now part error) whole all))

pub returns-clause-reads : goal.returns-clause-reads
returns-clause-reads c =
    let line = c.in-Some.line.now in
    let after = c.in-Some.after.now in
    let lines = c.whole_lines-ended.result.lines.now in
    let rest = c.whole_lines-ended.result.rest.now in
    let first = ReadsOn-then c.args.self.now c.read_bytes-2.new.self c.end_line.new.self line (10 ∷ []) c.in_ok-read_bytes.ensures.reads c.in_ok-end_line.ensures.reads in
    let whole : (line ++ 10 ∷ []) ++ (lines ++ rest) ≡ c.args.part.now = ap (λ (xs : List ℕ). (line ++ 10 ∷ []) ++ xs) (sym c.whole_lines-ended.ensures.cut) ∙ sym (c.in-Some.ensures.1 ∙ line_then line after) in
    on_ok_weaker c.read_bytes-3.result
    (λ last. subst (λ (xs : List ℕ). ReadsOn c.args.self.now c.read_bytes-3.new.self xs) whole
    (ReadsOn-then c.args.self.now c.end_line.new.self c.read_bytes-3.new.self (line ++ 10 ∷ []) (lines ++ rest) first
    (ReadsOn-then c.end_line.new.self c.read_lines.new.self c.read_bytes-3.new.self lines rest c.in_ok-read_lines.ensures.reads last)))
    c.read_bytes-3.ensures.reads
