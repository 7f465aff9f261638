use Rattle.std.proofs.Common.{◌≡◌, take}
use Rattle.vs_text.specs.Text.{bytes_of}
use Rattle.vs_gap.proofs.ahead.Ahead.size.Given as goal

abbrev pub invariant-loop : goal.invariant-loop
invariant-loop l = l.size ≡ bytes_of (take l.counter l.self)
