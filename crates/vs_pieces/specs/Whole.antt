-- Lines that end among some bytes.
use Rattle.std.specs.Prelude.{◌≡◌, ◌==◌, ℕ, Bool, List, ◌++◌, length}
use Rattle.vs_text.specs.Text.{IsLine, file_of, lines_of}
use Rattle.vs_pieces.specs.declared.lines.WholeLines.{WholeLines}

-- The bytes are so many lines with their ends, and bytes without a line end.
pub record AreWhole (bytes : List ℕ) (ended : WholeLines) : Type 0 where
  pub cut : bytes ≡ ended.lines.now ++ ended.rest.now
  pub whole : file_of (lines_of ended.lines.now) ≡ ended.lines.now
  pub count : length (lines_of ended.lines.now) ≡ ended.count
  pub line : IsLine ended.rest.now

-- whether a byte ends a line
abbrev pub is_end : ℕ → Bool
is_end byte = byte == 10
