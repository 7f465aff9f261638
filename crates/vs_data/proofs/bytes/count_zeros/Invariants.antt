use Rattle.std.proofs.Common.{◌≡◌, ◌+◌, length}
use Rattle.vs_data.specs.Blocks.{zeros_in}
use Rattle.vs_data.proofs.bytes.count_zeros.Given as goal

abbrev pub invariant-parts : goal.invariant-parts
invariant-parts l = l.zeros + zeros_in l.rest ≡ zeros_in l.bytes

abbrev pub decreases-parts : goal.decreases-parts
decreases-parts l = length l.rest
