use Rattle.memchr.specs.Find.{Nowhere, Passes, is_byte}
use Rattle.vs_data.proofs.append.find_zero_slowly.Given as goal

abbrev pub invariant-loop-at : goal.invariant-loop-at
invariant-loop-at l = Nowhere (Passes (is_byte 0) l.bytes) l.from l.at
