use Rattle.std.proofs.Common.{◌≡◌, ◌++◌, List, ℕ, length}
use Rattle.vs_pieces.specs.Files.{HasReadFile}
use Rattle.vs_test_stores.proofs.pieces.lines_in_pieces.Given as goal

abbrev pub invariant-pieces : goal.invariant-pieces
invariant-pieces l = (seen : List ℕ) × (taken : List (List ℕ)) × (l.file ≡ seen ++ l.rest) × HasReadFile l.reader taken seen

abbrev pub decreases-pieces : goal.decreases-pieces
decreases-pieces l = length l.rest
