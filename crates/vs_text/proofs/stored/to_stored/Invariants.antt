use Rattle.std.proofs.Common.{◌≡◌, ◌++◌, map, take, drop}
use Rattle.vs_text.specs.Text.{stored_byte}
use Rattle.vs_text.proofs.stored.to_stored.Given as goal

abbrev pub invariant-loop-byte : goal.invariant-loop-byte
invariant-loop-byte l = l.line ≡ map stored_byte (take l.byte-index l.initial.line) ++ drop l.byte-index l.initial.line
