-- The line ends that were counted are those before the rest.
use Rattle.std.proofs.Common.{◌≡◌, ◌+◌, ◌≤◌, count_by, length}
use Rattle.vs_pieces.specs.Whole.{is_end}
use Rattle.vs_pieces.proofs.lines.count_ends.Given as goal

abbrev pub invariant-parts : goal.invariant-parts
invariant-parts l = record {
  counted : l.count + count_by is_end l.rest ≡ count_by is_end l.bytes;
  few : l.count + length l.rest ≤ length l.bytes;
}

abbrev pub decreases-parts : goal.decreases-parts
decreases-parts l = length l.rest
