use Rattle.std.proofs.Common.{◌≡◌, ◌<◌, get_or, ℕ}
use Rattle.vs_family.specs.Pieces.{spelled}
use Rattle.vs_family.proofs.pieces.Pieces.is_same.Given as goal

abbrev pub invariant-loop-at : goal.invariant-loop-at
invariant-loop-at l = record {
  same : (k : ℕ) → k < l.at → get_or (spelled l.self) k 0 ≡ get_or (spelled l.other) k 0;
}
