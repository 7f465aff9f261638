-- What a reader of a text in pieces has read, and what it still holds.
use Rattle.std.specs.Prelude.{ℕ, ◌≡◌, ◌+◌, ◌≤◌, ◌++◌, List, length, Option, Result, MatchOption, IfOk, IfErr, OnOk, All}
use Rattle.vs_text.specs.Text.{IsLine, IsText, lines_of, file_of, bytes_of}
use Rattle.vs_text.specs.Limits.{IsShort, IsWithinLimits, IsRefusal}
use Rattle.vs_text.specs.declared.TheConstants.{MAX_LINES, MAX_TEXT_BYTES}
use Rattle.vs_text.specs.declared.error.TextErr.{TextErr}

-- What a reader shows.
pub record Reading : Type 0 where
  -- the ended lines that it holds
  pub lines : List (List ℕ)
  -- the bytes that it holds of the line that has not ended
  pub last : List ℕ
  -- the length of that line
  pub last_size : ℕ
  -- how many lines ended, and their bytes with one for each line end
  pub ended : ℕ
  pub bytes : ℕ
  -- the error that it answered
  pub refused : Option TextErr

-- the number of bytes that were read
abbrev pub size_read : Reading → ℕ
size_read reading = reading.bytes + reading.last_size

-- Whatever bytes follow these, the text of all is refused with this error.
abbrev pub IsCertain : List ℕ → TextErr → Type 0
IsCertain fed error = (more : List ℕ) → IsRefusal (lines_of (fed ++ more)) error

-- A reader that has not answered an error was fed these bytes, and handed over these lines.
pub record IsReading (reading : Reading) (taken : List (List ℕ)) (fed : List ℕ) : Type 0 where
  pub ended : List (List ℕ)
  pub last : List ℕ
  -- the bytes are the ended lines and the bytes of a last line, which may have none
  pub parts : fed ≡ file_of ended ++ last
  pub text : IsText ended
  pub line : IsLine last
  -- no ended line is too long
  pub short : All IsShort ended
  -- lines and bytes are counted
  pub counted_lines : reading.ended ≡ length ended
  pub counted_bytes : reading.bytes ≡ bytes_of ended
  pub counted_last : reading.last_size ≡ length last
  -- while the ended lines are within the limits, those that were not handed over are held, and so is the last line
  pub held : length ended ≤ MAX_LINES → bytes_of ended ≤ MAX_TEXT_BYTES → ended ≡ taken ++ reading.lines
  pub held_last : IsShort last → reading.last ≡ last
  pub within : IsWithinLimits (taken ++ reading.lines)

-- A reader that answered an error was fed bytes whose text is refused with it, whatever follows.
pub record IsRefusing (reading : Reading) (taken : List (List ℕ)) (fed : List ℕ) (error : TextErr) : Type 0 where
  pub certain : IsCertain fed error
  pub within : IsWithinLimits (taken ++ reading.lines)

-- The reader was fed these bytes, and handed over these lines.
pub record HasRead (reading : Reading) (taken : List (List ℕ)) (fed : List ℕ) : Type 0 where
  pub size : size_read reading ≤ length fed
  pub state : MatchOption reading.refused (IsReading reading taken fed) (λ error. IsRefusing reading taken fed error)

-- The answer for a text that was fed as these bytes, of which these lines were handed over before.
pub record IsAnswer (taken : List (List ℕ)) (fed : List ℕ) (answer : Result (List (List ℕ)) TextErr) : Type 0 where
  pub text : IfOk answer (λ text. taken ++ text ≡ lines_of fed)
  pub fits : OnOk answer (IsWithinLimits (lines_of fed))
  pub refused : IfErr answer (IsRefusal (lines_of fed))

-- From one state of a reader to another, these bytes were read.
abbrev pub Reads : Reading → Reading → List ℕ → Type 0
Reads old new bytes = (taken : List (List ℕ)) (fed : List ℕ) → HasRead old taken fed → HasRead new taken (fed ++ bytes)

-- The same without an error before or after.
abbrev pub ReadsOn : Reading → Reading → List ℕ → Type 0
ReadsOn old new bytes = (taken : List (List ℕ)) (fed : List ℕ) → IsReading old taken fed → IsReading new taken (fed ++ bytes)

-- These bytes are refused with this error, whatever follows.
abbrev pub Refuses : Reading → List ℕ → TextErr → Type 0
Refuses old bytes error = (taken : List (List ℕ)) (fed : List ℕ) → IsReading old taken fed → IsCertain (fed ++ bytes) error
