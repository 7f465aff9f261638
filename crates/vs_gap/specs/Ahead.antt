-- Lines that are kept as bytes.
use Rattle.std.specs.Prelude.{ℕ, ◌≡◌, ◌≤◌, List, drop, length}
use Rattle.vs_text.specs.Text.{file_of, lines_of}

-- From the byte at `from` on these bytes are so many lines, each with its newline.
pub record IsAhead (bytes : List ℕ) (from held : ℕ) : Type 0 where
  pub within : from ≤ length bytes
  pub ended : file_of (lines_of (drop from bytes)) ≡ drop from bytes
  pub counted : length (lines_of (drop from bytes)) ≡ held
