use Rattle.std.proofs.Common.{◌≡◌, ◌+◌, [], ◌∷◌, refl, ap, subst, ◌∙◌, arith}
use Rattle.vs_pieces.specs.Reader.{Reading, ReadsOn, Refuses}
use Rattle.vs_text.specs.declared.error.TextErr.TheVariants.{LineTooLong}
use Rattle.vs_pieces.specs.contracts.reader.PieceReader.{the_view}
use Rattle.vs_pieces.proofs.Reading.{ReadsOn-end, Refuses-long_line}
use Rattle.vs_pieces.proofs.reader.PieceReader.end_line.Goals as goal

pub returns-then-self-gt-MAX_LINE_BYTES-clause-refused :
    goal.returns-then-self-gt-MAX_LINE_BYTES-clause-refused
returns-then-self-gt-MAX_LINE_BYTES-clause-refused c =
    let old = c.self.inside in
    subst (λ (before : Reading). Refuses before (10 ∷ []) (LineTooLong old.last_size)) c.self.view_is
    (Refuses-long_line (the_view old) c.if-self-gt-MAX_LINE_BYTES.true)

pub returns-clause-reads : goal.returns-clause-reads
returns-clause-reads c =
    let old = c.self.inside in
    let now = c.self-2.inside in
    let new = the_view (record now { last = c.clear.new.self }) in
    let same : the_view now ≡ c.hold_last.new.self = c.self-2.view_is in
    let rest = c.hold_last.ensures.rest in
    let size : now.last_size ≡ 0 = ap (λ (r : Reading). r.last_size) same ∙ ap (λ (r : Reading). r.last_size) rest in
    let ended : now.ended ≡ old.ended + 1 = ap (λ (r : Reading). r.ended) same ∙ ap (λ (r : Reading). r.ended) rest in
    let bytes : now.bytes ≡ old.bytes + (old.last_size + 1) = ap (λ (r : Reading). r.bytes) same ∙ ap (λ (r : Reading). r.bytes) rest in
    let lines : now.lines ≡ c.hold_last.new.self.lines = ap (λ (r : Reading). r.lines) same in
    subst (λ (before : Reading). ReadsOn before new (10 ∷ [])) c.self.view_is
    (ReadsOn-end (the_view old) new old.last.items c.if-self-gt-MAX_LINE_BYTES.false refl c.clear.ensures.items size ended bytes
    (λ few small. lines ∙ c.in_ok-hold_last.ensures.held (omega (arith, ended, few)) (omega (arith, bytes, small)))
    (λ over. lines ∙ c.in_ok-hold_last.ensures.many_lines (omega (arith, ended, over)))
    (λ over. lines ∙ c.in_ok-hold_last.ensures.many_bytes (omega (arith, bytes, over))))
