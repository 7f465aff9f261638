-- The lines that were copied, and those in the rest.
use Rattle.std.proofs.Common.{◌≡◌, ◌++◌, length}
use Rattle.vs_text.specs.Text.{file_of, lines_of}
use Rattle.vs_entries.proofs.lines.each_line.Given as goal

abbrev pub invariant-lines : goal.invariant-lines
invariant-lines l = record {
  all : l.each.items ++ lines_of l.rest ≡ l.lines;
  ended : file_of (lines_of l.rest) ≡ l.rest;
}

abbrev pub decreases-lines : goal.decreases-lines
decreases-lines l = length l.rest
