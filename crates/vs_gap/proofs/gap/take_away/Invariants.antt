use Rattle.std.proofs.Common.{◌≡◌, ◌-◌, ◌^◌, drop, min, take}
use Rattle.vs_text.specs.Text.{bytes_of}
use Rattle.vs_gap.proofs.gap.take_away.Given as goal

abbrev pub invariant-loop : goal.invariant-loop
invariant-loop l = record {
  rest : l.lines.items ≡ drop l.counter l.initial.lines.items;
  bytes : l.bytes ≡ min (bytes_of (take l.counter l.initial.lines.items)) (2 ^ 64 - 1);
}
