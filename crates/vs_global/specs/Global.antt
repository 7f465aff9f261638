-- Commands that are carried out at each of the lines that match, or that do not.
use Rattle.std.specs.Prelude.{ℕ, Bool, true, false, ◌+◌, ◌-◌, not, if◌then◌else◌, nat_lt, min, zero, suc, List, [], ◌∷◌, ◌++◌, length, take, map}
use Rattle.std.specs.Prelude.{replicate, option_map, Option, Some, None, Result, Ok, Err}
use Rattle.vs_edit.specs.Splices.{splice, cut_out}
use Rattle.vs_exparse.specs.Bytes.{is_empty}
use Rattle.vs_exparse.specs.Command.{Command}
use Rattle.vs_exparse.specs.Command.Command.{Move}
use Rattle.vs_exparse.specs.Pieces.{literal_of}
use Rattle.vs_exparse.specs.declared.command.Range.{Range}
use Rattle.vs_exparse.specs.declared.command.ExErr.{ExErr}
use Rattle.vs_exparse.specs.declared.command.ExErr.TheVariants.{E486}
use Rattle.vs_excmd.specs.declared.place.Place.{Place}
use Rattle.vs_excmd.specs.declared.place.Span.{Span}
use Rattle.vs_excmd.specs.Change as effects
use Rattle.vs_excmd.specs.Change.{Effect, before, size_of, lines_in, spliced}
use Rattle.vs_excmd.specs.Errors.{check, on}
use Rattle.vs_excmd.specs.Meaning.{planned}
use Rattle.vs_excmd.specs.Place.{place_of}
use Rattle.vs_excmd.specs.Searched.{searched}
use Rattle.vs_excmd.specs.Substitute.{has_match}
use Rattle.vs_global.specs.declared.run.Untouched.{Untouched}

-- ---- which lines are marked

-- the lines that match, or those that do not
abbrev pub is_taken : Bool → List ℕ → List ℕ → Bool
is_taken invert literal line = if invert then not (has_match literal line) else has_match literal line

-- the marks of all lines, of which those of a span may be taken
abbrev pub taken_marks : Bool → List ℕ → List (List ℕ) → Span → List Bool
taken_marks invert literal text span =
    replicate (before span) false ++ map (is_taken invert literal) (lines_in text span) ++ replicate (length text - span.last) false

-- the numbers of the marked lines, where the first line has this number
abbrev pub places : ℕ → List Bool → List ℕ
places i [] = []
places i (true ∷ marks) = i ∷ places (i + 1) marks
places i (false ∷ marks) = places (i + 1) marks

-- the first marked line, counted from 0
abbrev pub first_mark : List Bool → Option ℕ
first_mark [] = None
first_mark (true ∷ marks) = Some 0
first_mark (false ∷ marks) = option_map suc (first_mark marks)

-- the marks without the first
abbrev pub without_first : List Bool → List Bool
without_first [] = []
without_first (true ∷ marks) = false ∷ marks
without_first (false ∷ marks) = false ∷ without_first marks

-- ---- how marks go along with lines

-- The marks after new lines came in the place of old ones: the first new line has the mark of the first old one, and so on. A line
-- that has no old one has none.
abbrev pub exchanged_marks : List Bool → ℕ → ℕ → ℕ → List Bool
exchanged_marks marks top old new = splice marks top old (take new (cut_out marks top old) ++ replicate (new - old) false)

-- the line before which moved lines come, once they are gone
abbrev pub come_to : Place → ℕ
come_to place = if nat_lt place.to place.lines.first then place.to else place.to - size_of place.lines

-- Lines that are moved go with their marks, and come without.
abbrev pub moved_marks : List Bool → Place → List Bool
moved_marks marks place =
    let size = size_of place.lines in exchanged_marks (exchanged_marks marks (before place.lines) size 0) (come_to place) 0 size

-- Whether a command moves lines.
abbrev pub is_move : Command → Bool
is_move (Move range to) = true
is_move command = false

-- the marks after a change by a command: they go along with lines that are moved
abbrev pub marks_by : Command → List Bool → Place → effects.Change → List Bool
marks_by command marks place change = if is_move command then moved_marks marks place else exchanged_marks marks change.top change.old (length change.new)

-- ---- one command at one line

-- A text while commands are carried out: its lines, which of them are marked, what no splice has touched where there was one, and the
-- cursor.
pub record Marked : Type 0 where
  pub text : List (List ℕ)
  pub marks : List Bool
  pub made : Option Untouched
  pub cursor : ℕ

-- what no splice has touched after one more, which was made in a text with so many lines
abbrev pub untouched_by : effects.Change → ℕ → Option Untouched → Option Untouched
untouched_by change lines None = Some (record { lo = change.top; tail = lines - (change.top + change.old) })
untouched_by change lines (Some made) = Some (record { lo = min made.lo change.top; tail = min made.tail (lines - (change.top + change.old)) })

-- the marked lines after what a command does, which may be nothing
abbrev pub changed_by : Command → Marked → Place → Effect → Marked
changed_by command at place None = at
changed_by command at place (Some change) = record {
  text = spliced at.text change;
  marks = marks_by command at.marks place change;
  made = untouched_by change (length at.text) at.made;
  cursor = change.cursor;
}

-- E486 of a nested command is no change.
abbrev pub is_E486 : ExErr → Bool
is_E486 E486 = true
is_E486 error = false

-- what a command came to; a line at which it finds nothing stays as it is
abbrev pub unless_E486 : Marked → Result Marked ExErr → Result Marked ExErr
unless_E486 at (Ok after) = Ok after
unless_E486 at (Err error) = if is_E486 error then Ok at else Err error

-- where a nested command works, and what it does
abbrev pub found : Command → List (List ℕ) → ℕ → Result (Place × Effect) ExErr
found command text cursor = on (place_of command (length text) cursor) (λ place. on (planned command [] text cursor) (λ effect. Ok (place, effect)))

-- a nested command with the cursor at its line
abbrev pub carried_out : Command → Marked → Result Marked ExErr
carried_out command at = unless_E486 at (on (found command at.text at.cursor) (λ found. Ok (changed_by command at found.0 found.1)))

-- ---- one command after the other

-- The first marked line loses its mark, and is the cursor's.
abbrev pub taken_at : Marked → ℕ → Marked
taken_at at line = record at { marks = without_first at.marks; cursor = line + 1 }

-- While a line is marked, the first one loses its mark, and the nested command is carried out there; for so many lines at most.
abbrev pub next_marked : Command → (Marked → Result Marked ExErr) → Marked → Option ℕ → Result Marked ExErr
next_marked command go at None = Ok at
next_marked command go at (Some line) = on (carried_out command (taken_at at line)) go

-- what comes of a command at each marked line, the first one first, for so many lines at most
abbrev pub all_marked : ℕ → Command → Marked → Result Marked ExErr
all_marked zero command at = Ok at
all_marked (suc n) command at = next_marked command (all_marked n command) at (first_mark at.marks)

-- The change from a text to another, of which so many lines at the front and at the end are the same.
abbrev pub whole_by : List (List ℕ) → List (List ℕ) → ℕ → Option Untouched → Effect
whole_by text now cursor None = None
whole_by text now cursor (Some made) = Some (record {
  top = made.lo;
  old = length text - made.tail - made.lo;
  new = cut_out now made.lo (length now - made.tail - made.lo);
  cursor = cursor;
})

-- what all of it does to a text, as one change
abbrev pub whole_change : List (List ℕ) → Marked → Effect
whole_change text after = whole_by text after.text after.cursor after.made

-- the text with its marks before the first nested command
abbrev pub first_marked : List (List ℕ) → ℕ → List Bool → Marked
first_marked text cursor marks = record { text = text; marks = marks; made = None; cursor = cursor }

-- what a command does to a text at all of its marked lines
abbrev pub changed_at : Command → List (List ℕ) → ℕ → List Bool → Result Effect ExErr
changed_at command text cursor marks =
    on (all_marked (length (places 0 marks)) command (first_marked text cursor marks)) (λ after. Ok (whole_change text after))

-- ---- the whole

-- The marks of the lines of a range that match, or that do not: E493 and E16 by the range, E486 where there is none.
abbrev pub marked_by : Range → Bool → List ℕ → List (List ℕ) → ℕ → Result (List Bool) ExErr
marked_by written invert pattern text cursor =
    on (searched written (length text) cursor) (λ span.
    let marks = taken_marks invert (literal_of pattern) text span in check (not (is_empty (places 0 marks))) E486 (Ok marks))

-- What a command does at the lines of a range that match, or that do not: an error of these lines, then any other error of the command
-- at one of them.
abbrev pub global : Range → Bool → List ℕ → Command → List (List ℕ) → ℕ → Result Effect ExErr
global written invert pattern command text cursor = on (marked_by written invert pattern text cursor) (changed_at command text cursor)
