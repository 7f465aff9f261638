use Rattle.std.proofs.Common.{◌≡◌, length}
use Rattle.std.specs.List.{list_all}
use Rattle.vs_exparse.specs.Pieces.{pieces_of, in_pattern}
use Rattle.vs_exparse.proofs.pieces.has_pattern_pieces.Given as goal

abbrev pub invariant-pieces : goal.invariant-pieces
invariant-pieces l = list_all in_pattern (pieces_of l.rest) ≡ list_all in_pattern (pieces_of l.text)

abbrev pub decreases-pieces : goal.decreases-pieces
decreases-pieces l = length l.rest
