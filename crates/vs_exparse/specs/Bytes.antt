-- Classes of bytes, runs of them at the front of a line, and the numbers that digits say.
use Rattle.std.specs.Prelude.{ℕ, Bool, false, ◌==◌, ◌+◌, ◌-◌, ◌*◌, nat_eq, List, [], ◌∷◌, length, take, drop, fold, min, codes}
use Rattle.std.specs.Char.{is_ascii_digit, is_ascii_alphabetic}
use Rattle.std.specs.List.{prefix_len, list_any, starts_with}

-- the greatest number of bytes of a command line, without its end
abbrev pub max_line_bytes : ℕ
max_line_bytes = 1048576

-- the greatest number that a command line says
abbrev pub max_number : ℕ
max_number = 2147483647

abbrev pub is_digit : ℕ → Bool
is_digit byte = is_ascii_digit byte

abbrev pub is_letter : ℕ → Bool
is_letter byte = is_ascii_alphabetic byte

-- whether a byte is among these
abbrev pub is_one_of : List ℕ → ℕ → Bool
is_one_of bytes byte = list_any (λ other. byte == other) bytes

-- a space or a tab
abbrev pub is_blank : ℕ → Bool
is_blank byte = is_one_of (codes " \t") byte

-- what may stand in front of a command
abbrev pub is_lead : ℕ → Bool
is_lead byte = is_one_of (codes " \t:") byte

abbrev pub plus : ℕ
plus = 43

abbrev pub is_sign : ℕ → Bool
is_sign byte = is_one_of (codes "+-") byte

-- the longest run of such bytes at the front of a line, and what stands after it
abbrev pub run : (ℕ → Bool) → List ℕ → List ℕ
run p line = take (prefix_len p line) line

abbrev pub skip : (ℕ → Bool) → List ℕ → List ℕ
skip p line = drop (prefix_len p line) line

-- whether a line begins with such a byte
abbrev pub begins_with : (ℕ → Bool) → List ℕ → Bool
begins_with p [] = false
begins_with p (byte ∷ line) = p byte

-- whether a line begins with this text
abbrev pub begins : List ℕ → List ℕ → Bool
begins text line = starts_with nat_eq line text

abbrev pub is_empty : {X : Type 0} → List X → Bool
is_empty xs = length xs == 0

-- the number that decimal digits say
abbrev pub value_of : List ℕ → ℕ
value_of digits = fold (λ number digit. number * 10 + (digit - 48)) 0 digits

-- that number, or the greatest one for any above it
abbrev pub number_of : List ℕ → ℕ
number_of digits = min (value_of digits) max_number
