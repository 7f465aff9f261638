use Rattle.std.proofs.Common.{◌≡◌, ap}
use Rattle.vs_pieces.specs.Reader.{Reading}
use Rattle.vs_pieces.proofs.Reading.{IsAnswer-text, IsAnswer-lines, IsAnswer-bytes}
use Rattle.vs_pieces.proofs.reader.PieceReader.into_lines.Goals as goal

pub returns-then-self-gt-MAX_LINES : goal.returns-then-self-gt-MAX_LINES
returns-then-self-gt-MAX_LINES c = λ taken fed h.
    let same : c.self.inside.ended ≡ c.args.self.ended = ap (λ (r : Reading). r.ended) c.self.view_is in
    rw same (IsAnswer-lines c.args.self taken fed h c.requires (rw same at c.if-self-gt-MAX_LINES.true))

pub returns-then-self-gt-MAX_TEXT_BYTES : goal.returns-then-self-gt-MAX_TEXT_BYTES
returns-then-self-gt-MAX_TEXT_BYTES c = λ taken fed h.
    let lines : c.self.inside.ended ≡ c.args.self.ended = ap (λ (r : Reading). r.ended) c.self.view_is in
    let same : c.self.inside.bytes ≡ c.args.self.bytes = ap (λ (r : Reading). r.bytes) c.self.view_is in
    rw same (IsAnswer-bytes c.args.self taken fed h c.requires (rw lines at c.if-self-gt-MAX_LINES.false) (rw same at c.if-self-gt-MAX_TEXT_BYTES.true))

pub returns : goal.returns
returns c = λ taken fed h.
    let ended : c.self.inside.ended ≡ c.args.self.ended = ap (λ (r : Reading). r.ended) c.self.view_is in
    let bytes : c.self.inside.bytes ≡ c.args.self.bytes = ap (λ (r : Reading). r.bytes) c.self.view_is in
    let lines : c.self.inside.lines ≡ c.args.self.lines = ap (λ (r : Reading). r.lines) c.self.view_is in
    rw lines (IsAnswer-text c.args.self taken fed h c.requires (rw ended at c.if-self-gt-MAX_LINES.false) (rw bytes at c.if-self-gt-MAX_TEXT_BYTES.false))
