use Rattle.std.proofs.Common.{◌≡◌, ◌≤◌, ◌+◌, ◌-◌, ◌^◌, min, drop, take}
use Rattle.vs_text.specs.Text.{IsText, bytes_of}
use Rattle.vs_gap.proofs.gap.bytes_in.Given as goal

abbrev pub invariant-loop-line : goal.invariant-loop-line
invariant-loop-line l = record {
  sum : min (l.bytes + bytes_of (drop l.line-index l.lines)) (2 ^ 64 - 1) ≡ min (bytes_of l.lines) (2 ^ 64 - 1);
  text : IsText (take l.line-index l.lines);
  small : l.bytes ≤ 2 ^ 64 - 1;
}
