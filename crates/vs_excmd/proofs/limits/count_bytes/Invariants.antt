use Rattle.std.proofs.Common.{◌≡◌, ◌<◌, ◌+◌, ◌-◌, ◌^◌, min, drop}
use Rattle.vs_text.specs.Text.{bytes_of}
use Rattle.vs_excmd.proofs.limits.count_bytes.Given as goal

abbrev pub invariant-loop-line : goal.invariant-loop-line
invariant-loop-line l = record { fits : l.bytes < 2 ^ 64; so_far : min (l.bytes + bytes_of (drop l.line-index l.lines)) (2 ^ 64 - 1) ≡ min (bytes_of l.lines) (2 ^ 64 - 1) }
