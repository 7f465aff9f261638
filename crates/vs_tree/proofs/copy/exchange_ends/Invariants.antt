use Rattle.std.proofs.Common.{◌≡◌, ◌++◌, map, take, drop}
use Rattle.vs_tree.specs.Reads.{exchanged_byte}
use Rattle.vs_tree.proofs.copy.exchange_ends.Given as goal

abbrev pub invariant-loop-byte : goal.invariant-loop-byte
invariant-loop-byte l = l.lines ≡ map exchanged_byte (take l.byte-index l.initial.lines) ++ drop l.byte-index l.initial.lines
