use Rattle.std.proofs.Common.{◌≡◌, take}
use Rattle.vs_data.specs.Blocks.{zeros_in}
use Rattle.vs_data.proofs.bytes.count_few_zeros.Given as goal

-- the zeros among the bytes before this one
abbrev pub invariant-bytes : goal.invariant-bytes
invariant-bytes l = l.zeros ≡ zeros_in (take l.byte-index l.bytes)
