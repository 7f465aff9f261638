-- The parts that were read are the first bytes, and the rest comes after them.
use Rattle.std.proofs.Common.{◌≡◌, ◌≤◌, ◌+◌, ◌++◌, ℕ, List, length}
use Rattle.vs_pieces.specs.Reader.{ReadsOn, size_read}
use Rattle.vs_pieces.proofs.reader.PieceReader.read.Given as goal

abbrev pub invariant-parts : goal.invariant-parts
invariant-parts l = record {
  seen : (seen : List ℕ) × (l.piece ≡ seen ++ l.rest) × ReadsOn l.initial.self l.self seen;
  size : size_read l.self + length l.rest ≤ size_read l.initial.self + length l.piece;
  same : l.self.refused ≡ l.initial.self.refused;
}

abbrev pub decreases-parts : goal.decreases-parts
decreases-parts l = length l.rest
