-- What the commands of the text change, over whole lists of lines.
use Rattle.std.specs.Prelude.{ℕ, Bool, ◌+◌, ◌-◌, ◌==◌, ◌&&◌, ◌||◌, if◌then◌else◌, nat_le, nat_lt, min, List, [], ◌++◌, length, Option, Some, None, Result}
use Rattle.std.specs.Prelude.{Ok, Err}
use Rattle.std.specs.List.{list_all}
use Rattle.vs_text.specs.Text.{bytes_of}
use Rattle.vs_text.specs.declared.TheConstants.{MAX_LINES, MAX_LINE_BYTES, MAX_TEXT_BYTES}
use Rattle.vs_edit.specs.Splices.{splice, cut_out}
use Rattle.vs_exparse.specs.Bytes.{is_empty}
use Rattle.vs_exparse.specs.declared.command.ExErr.{ExErr}
use Rattle.vs_exparse.specs.declared.command.ExErr.TheVariants.{LineTooLong, TextFull}
use Rattle.vs_excmd.specs.declared.place.Place.{Place}
use Rattle.vs_excmd.specs.declared.place.Span.{Span}
use Rattle.vs_excmd.specs.Errors.{check}

-- These lines go in the place of `old` lines from line `top` on, and the cursor is on this line afterwards.
pub record Change : Type 0 where
  pub top : ℕ
  pub old : ℕ
  pub new : List (List ℕ)
  pub cursor : ℕ

-- a change, or none
abbrev pub Effect : Type 0
Effect = Option Change

-- the number of lines before a span; none stand before line 0
abbrev pub before : Span → ℕ
before span = span.first - 1

-- the number of lines of a span; line 0 is none
abbrev pub size_of : Span → ℕ
size_of span = span.last - before span

-- the lines of a span
abbrev pub lines_in : List (List ℕ) → Span → List (List ℕ)
lines_in text span = cut_out text (before span) (size_of span)

-- Lines go from a text with this number of lines, and the cursor is on the line that follows them, or on the last.
abbrev pub deleted : ℕ → ℕ → ℕ → Effect
deleted lines top old = if old == 0 then None else Some (record { top = top; old = old; new = []; cursor = min (top + 1) (lines - old) })

-- A block goes in the place of lines of a text with this number of lines. An empty block deletes them.
abbrev pub exchanged : ℕ → ℕ → ℕ → List (List ℕ) → Effect
exchanged lines top old block =
    if is_empty block then deleted lines top old else Some (record { top = top; old = old; new = block; cursor = top + length block })

-- Lines change places with those between them and their destination.
abbrev pub moved : List (List ℕ) → Place → Effect
moved text place =
    let span = place.lines in
    if (place.to == span.last) || (place.to == before span) then None
    else (if nat_lt place.to (before span) then Some (record {
      top = place.to;
      old = span.last - place.to;
      new = lines_in text span ++ cut_out text place.to (before span - place.to);
      cursor = place.to + size_of span;
    })
    else Some (record {
      top = before span;
      old = place.to - before span;
      new = cut_out text span.last (place.to - span.last) ++ lines_in text span;
      cursor = place.to;
    }))

-- Copies of lines go below their destination.
abbrev pub copied : List (List ℕ) → Place → Effect
copied text place = Some (record { top = place.to; old = 0; new = lines_in text place.lines; cursor = place.to + size_of place.lines })

-- the text after a change
abbrev pub spliced : List (List ℕ) → Change → List (List ℕ)
spliced text change = splice text change.top change.old change.new

-- whether a line has no more bytes than a line may have
abbrev pub is_short : List ℕ → Bool
is_short line = nat_le (length line) MAX_LINE_BYTES

-- whether a text is within the limits of lines and bytes
abbrev pub is_within : List (List ℕ) → Bool
is_within text = nat_le (length text) MAX_LINES && nat_le (bytes_of text) MAX_TEXT_BYTES

-- what becomes of a change where a new line is too long, or else the text too large
abbrev pub bounded : List (List ℕ) → Result Effect ExErr → Result Effect ExErr
bounded text (Err error) = Err error
bounded text (Ok None) = Ok None
bounded text (Ok (Some change)) =
    check (list_all is_short change.new) LineTooLong (
    check (is_within (spliced text change)) TextFull (
    Ok (Some change)))
