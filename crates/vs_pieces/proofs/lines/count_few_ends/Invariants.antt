-- So many line ends stand before the place.
use Rattle.std.proofs.Common.{◌≡◌, ◌≤◌, count_by, take}
use Rattle.vs_pieces.specs.Whole.{is_end}
use Rattle.vs_pieces.proofs.lines.count_few_ends.Given as goal

abbrev pub invariant-loop-byte : goal.invariant-loop-byte
invariant-loop-byte l = record {
  counted : l.count ≡ count_by is_end (take l.byte-index l.part);
  few : l.count ≤ l.byte-index;
}
