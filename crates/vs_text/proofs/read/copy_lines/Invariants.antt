use Rattle.std.proofs.Common.{◌≡◌, ◌++◌, length}
use Rattle.vs_text.specs.Documents.{lines_in}
use Rattle.vs_text.proofs.read.copy_lines.Given as goal

abbrev pub invariant-lines : goal.invariant-lines
invariant-lines l = lines_in l.format l.bytes ≡ l.lines.items ++ lines_in l.format l.rest

abbrev pub decreases-lines : goal.decreases-lines
decreases-lines l = length l.rest
