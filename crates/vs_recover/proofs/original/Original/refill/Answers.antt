use Rattle.std.proofs.Common.{◌≡◌, length, arith}
use Rattle.vs_recover.proofs.OriginalLaws.{piece_filled}
use Rattle.vs_recover.proofs.ReadingLaws.{file_has, no_memory, reads_none}
use Rattle.vs_recover.proofs.original.Original.refill.Goals as goal

pub returns-in_err-piece-clause-reading : goal.returns-in_err-piece-clause-reading
returns-in_err-piece-clause-reading g c = reads_none g.F.World.tells (no_memory _ c.from_residual.ensures.1)

pub returns-clause-piece : goal.returns-clause-piece
returns-clause-piece g c = λ file is.
    let room : length c.deref_mut.result.now ≡ c.in_ok-piece.piece.len = omega (arith, c.deref_mut.ensures.len) in
    let size : c.in_ok-piece.piece.len ≡ c.min-size.result = omega (arith, c.in_ok-piece.ensures.len) in
    piece_filled file c.read_part.new.into c.in_ok-piece.piece.items c.args.self.now.at c.in_ok-piece.piece.len c.min-size.result (length c.deref_mut.result.now) room size (c.in_ok-read_part.ensures.value file is) (omega (arith, c.min-size.ensures, file_has _ _ _ file _ c.requires.len is))
