-- Addresses and ranges, as they stand at the front of a line.
use Rattle.std.specs.Prelude.{◌≡◌, ◌<◌, ◌≤ℤ◌, length, ℕ, ℤ, pos, neg_ℤ, ◌+ℤ◌, Bool, true, false, ◌==◌, ◌&&◌, if◌then◌else◌, List, [], ◌∷◌, drop, codes}
use Rattle.std.specs.Prelude.{Option, Some, None, is_none, unwrap_or}
use Rattle.vs_exparse.specs.Bytes.{max_number, is_digit, is_blank, plus, is_sign, run, skip, begins_with, begins, is_empty, number_of}
use Rattle.vs_exparse.specs.declared.command.Base.{Base}
use Rattle.vs_exparse.specs.declared.command.Base.TheVariants.{Current, Last, Number}
use Rattle.vs_exparse.specs.declared.command.Address.{Address}
use Rattle.vs_exparse.specs.declared.command.Range.{Range}
use Rattle.vs_exparse.specs.declared.command.Range.TheVariants as range

-- what stands at the front of a line, and what is left after it
pub record Front (X : Type 0) : Type 0 where
  pub value : X
  pub rest : List ℕ

-- the digits at the front of a line, each sign after them with its own digits, and what is left
pub record Terms : Type 0 where
  pub digits : List ℕ
  pub signed : List (ℕ × List ℕ)
  pub rest : List ℕ

abbrev pub terms_of : List ℕ → Terms
terms_of [] = record { digits = []; signed = []; rest = [] }
terms_of (byte ∷ line) =
    if is_digit byte then record (terms_of line) { digits = byte ∷ (terms_of line).digits }
    else (if is_sign byte then record { digits = []; signed = (byte, (terms_of line).digits) ∷ (terms_of line).signed; rest = (terms_of line).rest }
    else record { digits = []; signed = []; rest = byte ∷ line })

-- a sign without digits says 1
abbrev pub size_of : List ℕ → ℕ
size_of digits = if is_empty digits then 1 else number_of digits

abbrev pub offset_of : ℕ × List ℕ → ℤ
offset_of term = if term.0 == plus then pos (size_of term.1) else neg_ℤ (pos (size_of term.1))

abbrev pub sum_of : List (ℕ × List ℕ) → ℤ
sum_of [] = pos 0
sum_of (term ∷ terms) = offset_of term +ℤ sum_of terms

-- the signs at the front of a line, each with its digits
abbrev pub offsets_of : List ℕ → Front (List (ℕ × List ℕ))
offsets_of line =
    if is_empty (terms_of line).digits then record { value = (terms_of line).signed; rest = (terms_of line).rest }
    else record { value = []; rest = line }

-- One offset stands at the front of a line, and the rest after it.
pub record GoesOn (line : List ℕ) (offset : ℤ) (rest : List ℕ) : Type 0 where
  pub sum : offset +ℤ sum_of (offsets_of rest).value ≡ sum_of (offsets_of line).value
  pub rest_is : (offsets_of rest).rest ≡ (offsets_of line).rest
  pub shorter : length rest < length line
  pub low : neg_ℤ (pos max_number) ≤ℤ offset
  pub high : offset ≤ℤ pos max_number

-- a dot, a dollar or a number
abbrev pub base_of : List ℕ → Front (Option Base)
base_of line =
    if begins (codes ".") line then record { value = Some Current; rest = drop 1 line }
    else (if begins (codes "$") line then record { value = Some Last; rest = drop 1 line }
    else (if begins_with is_digit line then record { value = Some (Number (number_of (run is_digit line))); rest = skip is_digit line }
    else record { value = None; rest = line }))

-- A base or nothing, and any offsets after it; not both are missing. An offset alone counts from the current line.
abbrev pub address_from : Front (Option Base) → Front (List (ℕ × List ℕ)) → Front (Option Address)
address_from base offsets = record {
  value = if is_none base.value && is_empty offsets.value then None else Some (record { base = unwrap_or base.value Current; offset = sum_of offsets.value });
  rest = offsets.rest;
}

abbrev pub address_of : List ℕ → Front (Option Address)
address_of line = address_from (base_of line) (offsets_of (base_of line).rest)

-- the current line
abbrev pub here : Address
here = record { base = Current; offset = pos 0 }

abbrev pub one_or_absent : Option Address → Range
one_or_absent None = range.Absent
one_or_absent (Some address) = range.One address

-- An address, and a second one after a comma. One that is missing beside a comma is the current line.
abbrev pub range_from : Option Address → List ℕ → Front Range
range_from first rest =
    if begins (codes ",") rest then (
    let second = address_of (skip is_blank (drop 1 rest)) in
    record { value = range.Two (unwrap_or first here) (unwrap_or second.value here); rest = skip is_blank second.rest }
    ) else record { value = one_or_absent first; rest = rest }

-- the range at the front of a line, with the blanks around its addresses and its comma
abbrev pub range_of : List ℕ → Front Range
range_of line =
    let start = skip is_blank line in
    if begins (codes "%") start then record { value = range.All; rest = skip is_blank (drop 1 start) }
    else range_from (address_of start).value (skip is_blank (address_of start).rest)

abbrev pub is_given : Range → Bool
is_given range.Absent = false
is_given range.All = true
is_given (range.One address) = true
is_given (range.Two first last) = true
