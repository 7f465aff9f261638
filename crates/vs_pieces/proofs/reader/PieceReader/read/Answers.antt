use Rattle.std.proofs.Common.{◌≡◌, ◌∙◌, ◌++◌, List, ℕ, ap, sym, subst, arith, append_assoc, append-nil, length, length-append}
use Rattle.std.proofs.lemmas.List.{nil_from_length}
use Rattle.std.proofs.lemmas.Result.{err_from_is_err_and}
use Rattle.vs_pieces.specs.Reader.{IsReading, Refuses}
use Rattle.vs_pieces.proofs.Reading.{ReadsOn-then, Refuses-then, Refuses-more}
use Rattle.vs_pieces.proofs.ReadLines.{split_whole}
use Rattle.vs_pieces.proofs.reader.PieceReader.read.Goals as goal

pub returns-in_err-read_part-clause-refused : goal.returns-in_err-read_part-clause-refused
returns-in_err-read_part-clause-refused c =
    let p = err_from_is_err_and c.from_residual.result c.from_residual.ensures.1 in
    let seen = c.parts.invariant.seen in
    let part = c.split_at.result.0.now in
    let after = c.split_at.result.1.now in
    let error = c.in_err-read_part.field-0.0 in
    let refuses : Refuses c.args.self.now (seen.0 ++ part) error = Refuses-then c.args.self.now c.parts.self seen.0 part error seen.2 c.in_err-read_part.ensures.refused in
    let all = Refuses-more c.args.self.now (seen.0 ++ part) after error refuses in
    let cut = split_whole c.parts.rest.now part after c.min.result c.split_at.ensures.front c.split_at.ensures.back in
    let whole : (seen.0 ++ part) ++ after ≡ c.args.piece.now = append_assoc seen.0 part after ∙ sym (seen.1 ∙ ap (λ (xs : List ℕ). seen.0 ++ xs) cut) in
    rw p.1 (subst (λ e. Refuses c.args.self.now c.args.piece.now e) (sym p.2)
    (subst (λ piece. Refuses c.args.self.now piece error) whole all))

pub parts-preserved : goal.parts-preserved
parts-preserved c =
    let seen = c.parts.invariant.seen in
    let part = c.split_at.result.0.now in
    let after = c.split_at.result.1.now in
    let cut = split_whole c.parts.rest.now part after c.min.result c.split_at.ensures.front c.split_at.ensures.back in
    record {
      seen = (seen.0 ++ part, seen.1 ∙ ap (λ (xs : List ℕ). seen.0 ++ xs) cut ∙ sym (append_assoc seen.0 part after), ReadsOn-then c.args.self.now c.parts.self c.read_part.new.self seen.0 part seen.2 c.in_ok-read_part.ensures.reads);
      size = omega (arith, ap length cut, length-append part after, c.parts.invariant.size, c.read_part.ensures.size);
      same = c.read_part.ensures.same ∙ c.parts.invariant.same;
    }

pub returns-clause-reads : goal.returns-clause-reads
returns-clause-reads c = λ taken fed h.
    let seen = c.parts.invariant.seen in
    let none : length c.parts.rest.now ≡ 0 = grind arith in
    let whole : seen.0 ≡ c.args.piece.now = sym (seen.1 ∙ ap (λ (xs : List ℕ). seen.0 ++ xs) (nil_from_length c.parts.rest.now none) ∙ append-nil seen.0) in
    subst (λ (xs : List ℕ). IsReading c.parts.self taken (fed ++ xs)) whole (seen.2 taken fed h)
