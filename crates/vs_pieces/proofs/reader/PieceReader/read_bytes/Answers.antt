use Rattle.std.proofs.Common.{◌+◌, length, refl, subst, arith}
use Rattle.vs_pieces.specs.Reader.{Reading, ReadsOn}
use Rattle.vs_pieces.specs.contracts.reader.PieceReader.{the_view}
use Rattle.vs_pieces.proofs.Reading.{ReadsOn-bytes}
use Rattle.vs_pieces.proofs.reader.PieceReader.read_bytes.Goals as goal

pub returns-in_ok-extend_from_slice-clause-reads :
    goal.returns-in_ok-extend_from_slice-clause-reads
returns-in_ok-extend_from_slice-clause-reads c =
    let old = c.self.inside in
    let bytes = c.args.bytes.now in
    let new = the_view (record old { last = c.extend_from_slice.new.self; last_size = old.last_size + length bytes }) in
    subst (λ (before : Reading). ReadsOn before new bytes) c.self.view_is
    (ReadsOn-bytes (the_view old) new bytes c.requires.line refl refl refl refl (λ _. c.in_ok-extend_from_slice.ensures.items))

pub returns-else-self-le-MAX_LINE_BYTES-clause-reads :
    goal.returns-else-self-le-MAX_LINE_BYTES-clause-reads
returns-else-self-le-MAX_LINE_BYTES-clause-reads c =
    let old = c.self.inside in
    let bytes = c.args.bytes.now in
    let new = the_view (record old { last_size = old.last_size + length bytes }) in
    subst (λ (before : Reading). ReadsOn before new bytes) c.self.view_is
    (ReadsOn-bytes (the_view old) new bytes c.requires.line refl refl refl refl (λ small. absurd (omega (arith, c.if-self-le-MAX_LINE_BYTES.false))))
