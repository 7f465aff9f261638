use Rattle.memchr.specs.Find.{Nowhere, Passes, is_byte}
use Rattle.vs_reads.proofs.newline.find_newline_slowly.Given as goal

abbrev pub invariant-loop-at : goal.invariant-loop-at
invariant-loop-at l = Nowhere (Passes (is_byte 10) l.bytes) l.from l.at
