use Rattle.std.proofs.Common.{◌≡◌, length, map, take}
use Rattle.vs_tree.specs.Reads.{exchanged_byte}
use Rattle.vs_tree.proofs.copy.exchange_into.Given as goal

abbrev pub invariant-loop-at : goal.invariant-loop-at
invariant-loop-at l = record {
  size : length l.into ≡ length l.bytes;
  copied : take l.at l.into ≡ map exchanged_byte (take l.at l.bytes);
}
