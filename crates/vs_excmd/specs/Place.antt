-- The lines that a command works on, by the numbers of the text's lines and of the cursor alone.
use Rattle.std.specs.Prelude.{◌≡◌, ◌≤◌, ℕ, ℤ, pos, negsuc, zero, suc, ◌+ℤ◌, ◌+◌, ◌-◌, Bool, false, not, ◌==◌, ◌&&◌, if◌then◌else◌, nat_le, nat_lt, int_lt}
use Rattle.std.specs.Prelude.{min, Option, Some, None, Result, Ok, Err}
use Rattle.vs_exparse.specs.Command.{Command}
use Rattle.vs_exparse.specs.Command.Command.{Append, Insert, Change, Delete, Move, CopyTo, T, Join, Substitute, Print, Number, Equals, Undo, Redo, Earlier}
use Rattle.vs_exparse.specs.Command.Command.{Later, UndoList, Write, Preserve, Quit, Set, WriteUndo, ReadUndo, Global}
use Rattle.vs_exparse.specs.declared.command.Base.{Base}
use Rattle.vs_exparse.specs.declared.command.Base.TheVariants.{Current, Last, Number}
use Rattle.vs_exparse.specs.declared.command.Address.{Address}
use Rattle.vs_exparse.specs.declared.command.Range.{Range}
use Rattle.vs_exparse.specs.declared.command.Range.TheVariants as range
use Rattle.vs_exparse.specs.declared.command.ExErr.{ExErr}
use Rattle.vs_exparse.specs.declared.command.ExErr.TheVariants.{E16, E134, E493}
use Rattle.vs_excmd.specs.Errors.{check, on, or_E16}
use Rattle.vs_excmd.specs.declared.place.LineZero.{LineZero}
use Rattle.vs_excmd.specs.declared.place.LineZero.TheVariants as zero
use Rattle.vs_excmd.specs.declared.place.Place.{Place}
use Rattle.vs_excmd.specs.declared.place.Span.{Span}

-- the line from which an address counts
abbrev pub base_line : Base → ℕ → ℕ → ℕ
base_line Current lines cursor = cursor
base_line Last lines cursor = lines
base_line (Number n) lines cursor = n

-- the line that an address names, whether or not the text has it
abbrev pub line_at : Address → ℕ → ℕ → ℤ
line_at address lines cursor = pos (base_line address.base lines cursor) +ℤ address.offset

-- line 0 as line 1
abbrev pub zero_is_one : ℤ → ℤ
zero_is_one (pos zero) = pos 1
zero_is_one (pos (suc n)) = pos (suc n)
zero_is_one (negsuc n) = negsuc n

-- line 1 as line 0, as it is counted in the text without lines
abbrev pub one_is_zero : ℤ → ℤ
one_is_zero (pos zero) = pos 0
one_is_zero (pos (suc zero)) = pos 0
one_is_zero (pos (suc (suc n))) = pos (suc (suc n))
one_is_zero (negsuc n) = negsuc n

-- the line that a number stands for, in a text with this number of lines
abbrev pub meant : LineZero → ℕ → ℤ → ℤ
meant zero.IsFirst lines line = zero_is_one line
meant zero.IsBeforeFirst lines line = if lines == 0 then one_is_zero line else line
meant zero.IsFirstIfAny lines line = if lines == 0 then one_is_zero line else zero_is_one line
meant zero.IsItself lines line = line

-- the first and the last line of a range. `%` is `1,$`, and `0,0` in the empty text.
abbrev pub first_at : Range → ℕ → ℕ → ℤ
first_at range.Absent lines cursor = pos cursor
first_at range.All lines cursor = pos (min 1 lines)
first_at (range.One address) lines cursor = line_at address lines cursor
first_at (range.Two first last) lines cursor = line_at first lines cursor

-- the line that the second address of a range names
abbrev pub last_at : Range → ℕ → ℕ → ℤ
last_at range.Absent lines cursor = pos cursor
last_at range.All lines cursor = pos lines
last_at (range.One address) lines cursor = line_at address lines cursor
last_at (range.Two first last) lines cursor = line_at last lines cursor

-- a line that is neither below 0 nor past the last
abbrev pub line_in : ℕ → ℤ → Option ℕ
line_in lines (pos n) = if nat_le n lines then Some n else None
line_in lines (negsuc n) = None

-- the lines from one to another: E493 where they stand backwards, else E16 where the text does not have both
abbrev pub span_of : ℕ → ℤ → ℤ → Result Span ExErr
span_of lines first last =
    check (not (int_lt last first)) E493 (
    on (or_E16 (line_in lines first)) (λ first.
    on (or_E16 (line_in lines last)) (λ last.
    Ok (record { first = first; last = last }))))

-- the lines of a range
abbrev pub located : LineZero → Range → ℕ → ℕ → Result Span ExErr
located kind range lines cursor = span_of lines (meant kind lines (first_at range lines cursor)) (meant kind lines (last_at range lines cursor))

-- a count goes from the range's last line on, clipped at the end of the text
abbrev pub counted : Option ℕ → ℕ → Span → Span
counted None lines span = span
counted (Some n) lines span = record { first = span.last; last = min (span.last + n - 1) lines }

-- the lines of a range with a count, which is applied after the range was looked at
abbrev pub located_counted : Range → Option ℕ → ℕ → ℕ → Result Span ExErr
located_counted range count lines cursor = on (located zero.IsFirst range lines cursor) (λ span. Ok (counted count lines span))

-- the line below which lines are put
abbrev pub destination : Address → ℕ → ℕ → Result ℕ ExErr
destination address lines cursor = or_E16 (line_in lines (line_at address lines cursor))

-- lines alone, without a destination
abbrev pub lines_alone : Span → Result Place ExErr
lines_alone span = Ok (record { lines = span; to = 0 })

-- the lines of a range, and the line below which they are moved or copied
abbrev pub lines_to : Range → Address → ℕ → ℕ → Result Place ExErr
lines_to range to lines cursor =
    on (located zero.IsFirst range lines cursor) (λ span.
    on (destination to lines cursor) (λ line.
    Ok (record { lines = span; to = line })))

-- whether a destination lies from the first line to the last but one of the lines that are to go there
abbrev pub is_into_itself : Place → Bool
is_into_itself place = nat_le place.lines.first place.to && nat_lt place.to place.lines.last

-- The place of a command of the text. E493 comes before E16, and E134 comes last.
abbrev pub place_of : Command → ℕ → ℕ → Result Place ExErr
place_of (Append range) lines cursor = on (located zero.IsBeforeFirst range lines cursor) lines_alone
place_of (Insert range) lines cursor = on (located zero.IsBeforeFirst range lines cursor) lines_alone
place_of (Change range) lines cursor = on (located zero.IsFirstIfAny range lines cursor) lines_alone
place_of (Delete range count) lines cursor = on (located_counted range count lines cursor) lines_alone
place_of (Move range to) lines cursor = on (lines_to range to lines cursor) (λ place. check (not (is_into_itself place)) E134 (Ok place))
place_of (CopyTo range to) lines cursor = lines_to range to lines cursor
place_of (T range to) lines cursor = lines_to range to lines cursor
place_of (Join range bang count) lines cursor = on (located_counted range count lines cursor) lines_alone
place_of (Substitute range pattern replacement all) lines cursor = on (located zero.IsFirst range lines cursor) lines_alone
place_of (Print range count) lines cursor = Err E16
place_of (Number range count) lines cursor = Err E16
place_of (Equals range) lines cursor = Err E16
place_of (Undo number) lines cursor = Err E16
place_of Redo lines cursor = Err E16
place_of (Earlier by writes) lines cursor = Err E16
place_of (Later by writes) lines cursor = Err E16
place_of UndoList lines cursor = Err E16
place_of (Write bang) lines cursor = Err E16
place_of Preserve lines cursor = Err E16
place_of (Quit bang) lines cursor = Err E16
place_of (Set setting) lines cursor = Err E16
place_of WriteUndo lines cursor = Err E16
place_of ReadUndo lines cursor = Err E16
place_of (Global range invert pattern nested) lines cursor = Err E16

-- the lines that `p` and `nu` show
abbrev pub shown : Range → Option ℕ → ℕ → ℕ → Result Span ExErr
shown range count lines cursor = located_counted range count lines cursor

-- the last line where no range was written
abbrev pub or_last : Range → Range
or_last range.Absent = range.One (record { base = Last; offset = pos 0 })
or_last range.All = range.All
or_last (range.One address) = range.One address
or_last (range.Two first last) = range.Two first last

-- the number that `=` shows: the range's last line, or the last line of the text
abbrev pub number_shown : Range → ℕ → ℕ → Result ℕ ExErr
number_shown range lines cursor = on (located zero.IsItself (or_last range) lines cursor) (λ span. Ok span.last)

-- These lines stand in their order in a text with this number of lines.
pub record IsSpanIn (lines : ℕ) (span : Span) : Type 0 where
  pub order : span.first ≤ span.last
  pub within : span.last ≤ lines

-- Lines and destination lie in a text with this number of lines.
pub record IsPlaceIn (lines : ℕ) (place : Place) : Type 0 where
  pub lies : IsSpanIn lines place.lines
  pub to_within : place.to ≤ lines

-- Lines that are to be moved go out of themselves.
abbrev pub IsOutside : Command → Place → Type 0
IsOutside (Move range to) place = is_into_itself place ≡ false
IsOutside command place = Unit {0}

-- The lines of a command that puts nothing in begin at a line, and not before the first.
abbrev pub BeginsAtLine : Command → Place → Type 0
BeginsAtLine (Delete range count) place = 1 ≤ place.lines.first
BeginsAtLine (Move range to) place = 1 ≤ place.lines.first
BeginsAtLine (CopyTo range to) place = 1 ≤ place.lines.first
BeginsAtLine (T range to) place = 1 ≤ place.lines.first
BeginsAtLine (Join range bang count) place = 1 ≤ place.lines.first
BeginsAtLine (Substitute range pattern replacement all) place = 1 ≤ place.lines.first
BeginsAtLine command place = Unit {0}
