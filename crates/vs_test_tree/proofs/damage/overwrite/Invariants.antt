use Rattle.std.proofs.Common.{◌≡◌, length}
use Rattle.vs_test_tree.proofs.damage.overwrite.Given as goal

abbrev pub invariant-parts : goal.invariant-parts
invariant-parts g l = length l.bytes.items ≡ 4096
