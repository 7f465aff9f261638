-- Lines of a text as they are shown.
use Rattle.std.specs.Prelude.{ℕ, Bool, true, false, ◌+◌, ◌-◌, List, [], ◌∷◌, ◌++◌, length, replicate, decimal, Option, Some, None, Result, Ok}
use Rattle.std.specs.List.{flat_map}
use Rattle.vs_text.specs.Text.{file_of}
use Rattle.vs_exparse.specs.Command.{Command}
use Rattle.vs_exparse.specs.Command.Command.{Print, Number}
use Rattle.vs_exparse.specs.declared.command.ExErr.{ExErr}
use Rattle.vs_excmd.specs.declared.place.Span.{Span}
use Rattle.vs_excmd.specs.Change.{lines_in}
use Rattle.vs_excmd.specs.Errors.{on}
use Rattle.vs_excmd.specs.Place.{shown}
use Rattle.vs_global.specs.Global.{places}
use Rattle.vs_machine.specs.declared.show.Showing.{Showing}

-- bytes in so many columns, with blanks before them
abbrev pub padded : ℕ → List ℕ → List ℕ
padded width bytes = replicate (width - length bytes) 32 ++ bytes

-- a line with its number in 6 columns and a space before it
abbrev pub with_number : ℕ → List ℕ → List ℕ
with_number number line = (padded 6 (decimal number) ++ 32 ∷ []) ++ line

-- lines with their numbers, the first of which is given
abbrev pub numbered : ℕ → List (List ℕ) → List (List ℕ)
numbered first [] = []
numbered first (line ∷ lines) = with_number first line ∷ numbered (first + 1) lines

-- the lines of a span, with their numbers or without
abbrev pub shown_lines : Bool → List (List ℕ) → Span → List (List ℕ)
shown_lines false text span = lines_in text span
shown_lines true text span = numbered span.first (lines_in text span)

-- how a command shows lines, where it does
abbrev pub showing_of : Command → Option Showing
showing_of (Print range count) = Some (record { range = range; count = count; numbers = false })
showing_of (Number range count) = Some (record { range = range; count = count; numbers = true })
showing_of command = None

-- the lines that are shown in a text of so many lines, with the cursor at this one
abbrev pub shown_by : Showing → ℕ → ℕ → Result Span ExErr
shown_by showing lines cursor = shown showing.range showing.count lines cursor

-- The lines that are shown with the cursor at each of these lines, counted from 0, the one after the other. An error at one of them is
-- that of all.
abbrev pub shown_at : Showing → ℕ → List ℕ → Result (List Span) ExErr
shown_at showing lines [] = Ok []
shown_at showing lines (line ∷ taken) =
    on (shown_by showing lines (line + 1)) (λ span.
    on (shown_at showing lines taken) (λ spans.
    Ok (span ∷ spans)))

-- the lines that are shown at the marked lines of a text
abbrev pub shown_in : Showing → List (List ℕ) → Result (List Bool) ExErr → Result (List Span) ExErr
shown_in showing text marked = on marked (λ marks. shown_at showing (length text) (places 0 marks))

-- the bytes of lines in some form, span after span
abbrev pub printed_all : (Span → List (List ℕ)) → List Span → List ℕ
printed_all form spans = flat_map (λ span. file_of (form span)) spans

-- the last line that was shown, where the cursor was at this one before
abbrev pub last_shown : ℕ → List Span → ℕ
last_shown cursor [] = cursor
last_shown cursor (span ∷ spans) = last_shown span.last spans
