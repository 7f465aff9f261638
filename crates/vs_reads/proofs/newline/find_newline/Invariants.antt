use Rattle.std.proofs.Common.{◌≤◌, ◌-◌, length}
use Rattle.memchr.specs.Find.{Nowhere, Passes, is_byte}
use Rattle.vs_reads.proofs.newline.find_newline.Given as goal

abbrev pub invariant-parts : goal.invariant-parts
invariant-parts l = record {
  low : l.from ≤ l.at;
  high : l.at ≤ length l.bytes;
  none : Nowhere (Passes (is_byte 10) l.bytes) l.from l.at;
}

abbrev pub decreases-parts : goal.decreases-parts
decreases-parts l = length l.bytes - l.at
