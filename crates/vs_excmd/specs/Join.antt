-- Lines that are joined.
use Rattle.std.specs.Prelude.{ℕ, Bool, ◌+◌, ◌-◌, ◌==◌, ◌||◌, if◌then◌else◌, nat_eq, nat_le, List, [], ◌∷◌, ◌++◌, length, fold, codes, Option, Some, None}
use Rattle.std.specs.List.{ends_with}
use Rattle.vs_edit.specs.Splices.{cut_out}
use Rattle.vs_exparse.specs.Bytes.{is_blank, skip, begins, is_empty}
use Rattle.vs_exparse.specs.declared.command.Range.{Range}
use Rattle.vs_exparse.specs.declared.command.Range.TheVariants as range
use Rattle.vs_excmd.specs.declared.place.Span.{Span}
use Rattle.vs_excmd.specs.Change.{Effect}

-- how many addresses stand before a command; `%` is two
abbrev pub addresses_in : Range → ℕ
addresses_in range.Absent = 0
addresses_in range.All = 2
addresses_in (range.One address) = 1
addresses_in (range.Two first last) = 2

-- A count is one address more.
abbrev pub addresses_of : Range → Option ℕ → ℕ
addresses_of range None = addresses_in range
addresses_of range (Some n) = addresses_in range + 1

-- A blank stands between a line and the rest of the next one, but where either is empty, the line ends in a blank or the rest begins with `)`.
abbrev pub joint : List ℕ → List ℕ → List ℕ
joint left rest =
    if (is_empty left || is_empty rest) ||
    ((ends_with nat_eq left (codes " ") || ends_with nat_eq left (codes "\t")) || begins (codes ")") rest) then [] else codes " "

-- a line with the next one after it. Without `!` the leading blanks of the next line go.
abbrev pub joined_two : Bool → List ℕ → List ℕ → List ℕ
joined_two bang left right = if bang then left ++ right else left ++ joint left (skip is_blank right) ++ skip is_blank right

-- lines joined from left to right
abbrev pub joined_lines : Bool → List (List ℕ) → List ℕ
joined_lines bang [] = []
joined_lines bang (line ∷ lines) = fold (joined_two bang) line lines

-- These lines become one.
abbrev pub joined_span : Bool → List (List ℕ) → ℕ → ℕ → Effect
joined_span bang text first last =
    Some (record { top = first - 1; old = last + 1 - first; new = joined_lines bang (cut_out text (first - 1) (last + 1 - first)) ∷ []; cursor = first })

-- A single line joins the next one, but not at the last line nor where two addresses were given.
abbrev pub joined : Bool → ℕ → List (List ℕ) → Span → Effect
joined bang addresses text span =
    if span.first == span.last then (
    if nat_le 2 addresses || (span.last == length text) then None
    else joined_span bang text span.first (span.last + 1)
    ) else joined_span bang text span.first span.last
