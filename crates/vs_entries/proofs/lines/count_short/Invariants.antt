-- The lines that were counted are short, and the others are in the rest.
use Rattle.std.proofs.Common.{◌≡◌, ◌+◌, ◌<◌, ◌^◌, All, length}
use Rattle.vs_text.specs.Text.{file_of, lines_of}
use Rattle.vs_text.specs.Limits.{IsShort}
use Rattle.vs_entries.proofs.lines.count_short.Given as goal

abbrev pub invariant-lines : goal.invariant-lines
invariant-lines l = record {
  counted : l.count + length (lines_of l.rest) ≡ length l.lines;
  ended : file_of (lines_of l.rest) ≡ l.rest;
  few : l.count + length l.rest < 2 ^ 63;
  short : All IsShort (lines_of l.rest) → All IsShort l.lines;
  long : All IsShort l.lines → All IsShort (lines_of l.rest);
}

abbrev pub decreases-lines : goal.decreases-lines
decreases-lines l = length l.rest
