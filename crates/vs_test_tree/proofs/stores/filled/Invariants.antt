use Rattle.std.proofs.Common.{◌≡◌, ◌*◌, length}
use Rattle.vs_test_tree.proofs.stores.filled.Given as goal

abbrev pub invariant-loop-i : goal.invariant-loop-i
invariant-loop-i l = length l.bytes.items ≡ 4096 * l.i
