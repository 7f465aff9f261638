use Rattle.std.proofs.Common.{◌≡◌, ◌<◌, ◌≤◌, ◌∙◌, ◌++◌, ◌∷◌, [], Err, ap, sym, subst, arith}
use Rattle.vs_pieces.specs.Reader.{Reading, IsAnswer, ReadsOn, Refuses}
use Rattle.vs_text.specs.declared.TheConstants.{MAX_LINES, MAX_LINE_BYTES}
use Rattle.std.proofs.lemmas.Result.{err_from_is_err_and}
use Rattle.vs_pieces.proofs.Reading.{HasRead-reading, HasRead-refusing, IsAnswer-certain, IsAnswer-long_line, IsAnswer-one_more, IsAnswer-same_lines, none_from_not_some, lines_of-with_end}
use Rattle.vs_pieces.proofs.reader.PieceReader.end.Goals as goal

pub returns-in-Some-clause-answer : goal.returns-in-Some-clause-answer
returns-in-Some-clause-answer c = λ taken fed h.
    let same : c.self.inside.refused ≡ c.args.self.refused = ap (λ (r : Reading). r.refused) c.self.view_is in
    let refusing = HasRead-refusing c.args.self taken fed c.in-Some.error (sym same ∙ c.in-Some.is) h in
    IsAnswer-certain taken fed c.in-Some.error refusing.certain

pub returns-then-self-gt-MAX_LINE_BYTES-clause-answer : goal.returns-then-self-gt-MAX_LINE_BYTES-clause-answer
returns-then-self-gt-MAX_LINE_BYTES-clause-answer c = λ taken fed h.
    let none = sym (ap (λ (r : Reading). r.refused) c.self.view_is) ∙ none_from_not_some c.self.inside.refused c.in_default.not-Some in
    let size : c.self.inside.last_size ≡ c.args.self.last_size = ap (λ (r : Reading). r.last_size) c.self.view_is in
    let long : MAX_LINE_BYTES < c.args.self.last_size = omega arith in
    rw size (IsAnswer-long_line c.args.self taken fed (HasRead-reading c.args.self taken fed none h) long)

pub returns-then-self-ge-MAX_LINES-clause-answer : goal.returns-then-self-ge-MAX_LINES-clause-answer
returns-then-self-ge-MAX_LINES-clause-answer c = λ taken fed h.
    let none = sym (ap (λ (r : Reading). r.refused) c.self.view_is) ∙ none_from_not_some c.self.inside.refused c.in_default.not-Some in
    let size : c.self.inside.last_size ≡ c.args.self.last_size = ap (λ (r : Reading). r.last_size) c.self.view_is in
    let ended : c.self.inside.ended ≡ c.args.self.ended = ap (λ (r : Reading). r.ended) c.self.view_is in
    let some : 0 < c.args.self.last_size = omega (arith, c.if-self-eq0.false) in
    let fits : c.args.self.last_size ≤ MAX_LINE_BYTES = omega arith in
    let many : MAX_LINES ≤ c.args.self.ended = omega arith in
    rw ended (IsAnswer-one_more c.args.self taken fed (HasRead-reading c.args.self taken fed none h) some fits many)

pub returns-in_err-end_line-clause-answer : goal.returns-in_err-end_line-clause-answer
returns-in_err-end_line-clause-answer c = λ taken fed h.
    let none = sym (ap (λ (r : Reading). r.refused) c.self.view_is) ∙ none_from_not_some c.self.inside.refused c.in_default.not-Some in
    let size : c.self.inside.last_size ≡ c.args.self.last_size = ap (λ (r : Reading). r.last_size) c.self.view_is in
    let some : 0 < c.args.self.last_size = omega (arith, c.if-self-eq0.false) in
    let reading = HasRead-reading c.args.self taken fed none h in
    let p = err_from_is_err_and c.from_residual.result c.from_residual.ensures.1 in
    let refuses : Refuses c.args.self (10 ∷ []) c.in_err-end_line.field-0.0 = c.in_err-end_line.ensures.refused in
    let certain = IsAnswer-certain taken (fed ++ 10 ∷ []) c.in_err-end_line.field-0.0 (refuses taken fed reading) in
    let answer = IsAnswer-same_lines taken (fed ++ 10 ∷ []) fed (Err c.in_err-end_line.field-0.0) (lines_of-with_end c.args.self taken fed reading some) certain in
    rw p.1 (subst (λ error. IsAnswer taken fed (Err error)) (sym p.2) answer)

pub returns-clause-answer : goal.returns-clause-answer
returns-clause-answer c = λ taken fed h.
    let none = sym (ap (λ (r : Reading). r.refused) c.self.view_is) ∙ none_from_not_some c.self.inside.refused c.in_default.not-Some in
    let size : c.self.inside.last_size ≡ c.args.self.last_size = ap (λ (r : Reading). r.last_size) c.self.view_is in
    let some : 0 < c.args.self.last_size = omega (arith, c.if-self-eq0.false) in
    let reading = HasRead-reading c.args.self taken fed none h in
    let reads : ReadsOn c.args.self c.end_line.new.self (10 ∷ []) = c.in_ok-end_line.ensures.reads in
    let answer = c.into_lines-2.ensures taken (fed ++ 10 ∷ []) (reads taken fed reading) in
    IsAnswer-same_lines taken (fed ++ 10 ∷ []) fed c.into_lines-2.result (lines_of-with_end c.args.self taken fed reading some) answer
