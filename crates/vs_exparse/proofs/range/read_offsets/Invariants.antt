use Rattle.std.proofs.Common.{◌≡◌, ◌≤◌, ◌-◌, ◌*◌, ◌+ℤ◌, ◌≤ℤ◌, pos, neg_ℤ, length}
use Rattle.vs_exparse.specs.Bytes.{max_number}
use Rattle.vs_exparse.specs.Range.{offsets_of, sum_of}
use Rattle.vs_exparse.proofs.range.read_offsets.Given as goal

abbrev pub invariant-offsets : goal.invariant-offsets
invariant-offsets l = record {
  sum : l.sum +ℤ sum_of (offsets_of l.rest).value ≡ sum_of (offsets_of l.line).value;
  rest : (offsets_of l.rest).rest ≡ (offsets_of l.line).rest;
  shorter : length l.rest ≤ length l.line;
  low : neg_ℤ (pos (max_number * (length l.line - length l.rest))) ≤ℤ l.sum;
  high : l.sum ≤ℤ pos (max_number * (length l.line - length l.rest));
}

abbrev pub decreases-offsets : goal.decreases-offsets
decreases-offsets l = length l.rest
