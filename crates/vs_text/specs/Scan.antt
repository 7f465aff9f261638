-- What a scan of bytes for their format has found.
use Rattle.std.specs.Prelude.{ℕ, ◌≡◌, if◌then◌else◌, List, Option, Some, None}
use Rattle.vs_text.specs.Documents.{has_end, has_unix_end, last_byte}
use Rattle.vs_text.specs.declared.format.Format.{Format}
use Rattle.vs_text.specs.declared.format.Format.TheVariants.{Unix, Dos}

-- What a scan shows.
pub record Scanning : Type 0 where
  -- the last byte that it was fed, and 0 before the first one
  pub before : ℕ
  -- the format of the line ends so far, or none where no line ended
  pub found : Option Format

-- the format of the line ends of some bytes that stand after this byte
abbrev pub ends_after : ℕ → List ℕ → Option Format
ends_after before bytes = if has_unix_end before bytes then Some Unix else if has_end bytes then Some Dos else None

-- The scan was fed these bytes.
pub record HasScanned (scan : Scanning) (fed : List ℕ) : Type 0 where
  pub before : scan.before ≡ last_byte 0 fed
  pub found : scan.found ≡ ends_after 0 fed
