use Rattle.std.proofs.Common.{◌≡◌, ◌+◌, ◌≤◌, ◌++◌, ℕ, List, length}
use Rattle.vs_text.specs.Documents.{plain_ends}
use Rattle.vs_pieces.proofs.plain.append_ended.Given as goal

abbrev pub invariant-lines : goal.invariant-lines
invariant-lines l = record {
  plain : (more : List ℕ) → l.initial.into.items ++ plain_ends (l.piece ++ more) ≡ l.into.items ++ plain_ends (l.rest ++ more);
  size : length l.into.items + length l.rest ≤ length l.initial.into.items + length l.piece;
}

abbrev pub decreases-lines : goal.decreases-lines
decreases-lines l = length l.rest
