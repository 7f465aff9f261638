use Rattle.std.proofs.Common.{◌≡◌, ◌++◌, false, List, ℕ, length}
use Rattle.vs_test_stores.proofs.pieces.read_in_pieces.Given as goal

abbrev pub invariant-pieces : goal.invariant-pieces
invariant-pieces l = record {
  fed : l.file ≡ l.reader.bytes ++ l.rest;
  on : l.reader.failed ≡ false;
}

abbrev pub decreases-pieces : goal.decreases-pieces
decreases-pieces l = length l.rest
