-- What a reader of a file of a known format in pieces has read.
use Rattle.std.specs.Prelude.{ℕ, ◌≡◌, ◌+◌, ◌≤◌, ◌++◌, ◌∷◌, [], if◌then◌else◌, Bool, List, length}
use Rattle.vs_text.specs.Documents.{lines_in, plain_in}
use Rattle.vs_text.specs.Limits.{IsRefusal}
use Rattle.vs_text.specs.declared.error.TextErr.{TextErr}
use Rattle.vs_text.specs.declared.format.Format.{Format}
use Rattle.vs_pieces.specs.Reader.{HasRead, Reading, size_read}

-- What a reader of a file shows.
pub record FileReading : Type 0 where
  pub format : Format
  -- whether the last byte that it was fed is a byte 13 that it holds back, since it may belong to a line end
  pub holds : Bool
  -- what it has read of all other bytes, with byte 10 alone as each line end
  pub reading : Reading

-- the bytes that are held back
abbrev pub held_back : Bool → List ℕ
held_back holds = if holds then 13 ∷ [] else []

-- the number of bytes that were read
abbrev pub file_size_read : FileReading → ℕ
file_size_read file = size_read file.reading + length (held_back file.holds)

-- Of a piece of a file these bytes are handed on, where one was held back before it or not, and is after it or not.
abbrev pub HandsOn : Format → Bool → List ℕ → List ℕ → Bool → Type 0
HandsOn format before piece handed after =
    (more : List ℕ) → plain_in format (held_back before ++ (piece ++ more)) ≡ handed ++ plain_in format (held_back after ++ more)

-- The reader was fed these bytes of its file, and handed over these lines.
pub record HasReadFile (file : FileReading) (taken : List (List ℕ)) (fed : List ℕ) : Type 0 where
  pub handed : List ℕ
  pub reads : HasRead file.reading taken handed
  -- whatever bytes follow
  pub whole : (more : List ℕ) → plain_in file.format (fed ++ more) ≡ handed ++ plain_in file.format (held_back file.holds ++ more)
  pub size : file_size_read file ≤ length fed

-- Whatever bytes of the file follow these, the text of all is refused with this error.
abbrev pub IsCertainIn : Format → List ℕ → TextErr → Type 0
IsCertainIn format fed error = (more : List ℕ) → IsRefusal (lines_in format (fed ++ more)) error
