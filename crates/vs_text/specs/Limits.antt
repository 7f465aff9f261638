-- The limits of a text, and why one is refused.
use Rattle.std.specs.Prelude.{ℕ, ◌≡◌, ◌<◌, ◌≤◌, ◌⊎◌, nat_lt, if◌then◌else◌, List, [], ◌∷◌, length, Option, Some, None, All}
use Rattle.vs_text.specs.Text.{bytes_of}
use Rattle.vs_text.specs.declared.TheConstants.{MAX_LINES, MAX_LINE_BYTES, MAX_TEXT_BYTES}
use Rattle.vs_text.specs.declared.error.TextErr.{TextErr}
use Rattle.vs_text.specs.declared.error.TextErr.TheVariants.{TextFull, LineTooLong, NoMemory}

-- A line is within the limit of its length.
abbrev pub IsShort : List ℕ → Type 0
IsShort line = length line ≤ MAX_LINE_BYTES

-- A text is within its three limits.
pub record IsWithinLimits (text : List (List ℕ)) : Type 0 where
  pub short_lines : All IsShort text
  pub few_lines : length text ≤ MAX_LINES
  pub few_bytes : bytes_of text ≤ MAX_TEXT_BYTES

-- the length of the first line that is too long
abbrev pub first_long : List (List ℕ) → Option ℕ
first_long [] = None
first_long (line ∷ text) = if nat_lt MAX_LINE_BYTES (length line) then Some (length line) else first_long text

-- This is the number of lines, where that is too great, or else the number of bytes, where that is.
abbrev pub IsTooMany : List (List ℕ) → ℕ → Type 0
IsTooMany text n = ((n ≡ length text) × (MAX_LINES < n)) ⊎ ((n ≡ bytes_of text) × (length text ≤ MAX_LINES) × (MAX_TEXT_BYTES < n))

-- The text is refused with this error: a line that is too long goes first, and want of memory may come at any time.
abbrev pub IsRefusal : List (List ℕ) → TextErr → Type 0
IsRefusal text (LineTooLong n) = first_long text ≡ Some n
IsRefusal text (TextFull n) = All IsShort text × IsTooMany text n
IsRefusal text NoMemory = Unit {0}

-- A line is refused with this error.
abbrev pub IsLineRefusal : List ℕ → TextErr → Type 0
IsLineRefusal line (LineTooLong n) = (n ≡ length line) × (MAX_LINE_BYTES < n)
IsLineRefusal line (TextFull n) = ⊥
IsLineRefusal line NoMemory = Unit {0}
