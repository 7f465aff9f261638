use Rattle.std.proofs.Common.{◌≡◌, ◌++◌, map, take, drop}
use Rattle.vs_recover.specs.Stored.{exchanged}
use Rattle.vs_recover.proofs.file_text.exchange.Given as goal

abbrev pub invariant-loop-byte : goal.invariant-loop-byte
invariant-loop-byte l = l.bytes ≡ map exchanged (take l.byte-index l.initial.bytes) ++ drop l.byte-index l.initial.bytes
