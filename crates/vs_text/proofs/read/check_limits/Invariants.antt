use Rattle.std.proofs.Common.{◌≡◌, ◌++◌, All, List, ℕ, length}
use Rattle.vs_text.specs.Text.{bytes_of}
use Rattle.vs_text.specs.Documents.{lines_in}
use Rattle.vs_text.specs.Limits.{IsShort}
use Rattle.vs_text.proofs.read.check_limits.Given as goal

abbrev pub invariant-lines : goal.invariant-lines
invariant-lines l = record {
  seen : (seen : List (List ℕ)) × (lines_in l.format l.bytes ≡ seen ++ lines_in l.format l.rest) × All IsShort seen × (l.count ≡ length seen) × (l.size ≡ bytes_of seen);
}

abbrev pub decreases-lines : goal.decreases-lines
decreases-lines l = length l.rest
