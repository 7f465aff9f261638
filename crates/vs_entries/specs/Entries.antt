-- What an entry of a history does to a text.
use Rattle.std.specs.Prelude.{ℕ, ◌≡◌, ◌+◌, ◌-◌, ◌<◌, ◌≤◌, ◌&&◌, ◌==◌, nat_le, max, if◌then◌else◌, Bool, true, false, List, [], ◌∷◌, All, length}
use Rattle.vs_text.specs.Text.{bytes_of}
use Rattle.vs_text.specs.Limits.{IsShort}
use Rattle.vs_text.specs.declared.TheConstants.{MAX_LINES, MAX_TEXT_BYTES}
use Rattle.vs_edit.specs.Splices.{splice, cut_out}
use Rattle.vs_edit.specs.State.{TextState}
use Rattle.vs_entries.specs.declared.entry.Entry.{Entry}

-- the lines that the stored form of a text has: those of the text, and one empty line for the text without lines
abbrev pub filled : List (List ℕ) → List (List ℕ)
filled [] = [] ∷ []
filled (line ∷ text) = line ∷ text

-- whether a text has no lines
abbrev pub has_no_lines : List (List ℕ) → Bool
has_no_lines [] = true
has_no_lines (line ∷ text) = false

-- The text of a stored form. One empty line stands for the text without lines where the flag says so. Lines of at most one
-- byte, with one byte for each line end, are one empty line or none.
abbrev pub settled : Bool → List (List ℕ) → List (List ℕ)
settled empty lines = if empty && nat_le (bytes_of lines) 1 then [] else filled lines

-- the line before which the range of an entry ends, counted from 1, where the stored form has that many lines
abbrev pub bottom_in : Entry → ℕ → ℕ
bottom_in entry count = if entry.bottom == 0 then count + 1 else entry.bottom

-- the number of lines in the range of an entry
abbrev pub range_in : Entry → ℕ → ℕ
range_in entry count = bottom_in entry count - entry.top - 1

-- The range of an entry lies within a stored form with this number of lines.
pub record Fits (entry : Entry) (count : ℕ) : Type 0 where
  pub above : entry.top < bottom_in entry count
  pub within : bottom_in entry count ≤ count + 1

-- the text after an entry has been applied: its lines stand in the place of its range
abbrev pub applied : Entry → List (List ℕ) → List (List ℕ)
applied entry text =
    settled entry.empty (splice (filled text) entry.top (range_in entry (length (filled text))) entry.lines)

-- the number of lines of the stored form after an entry has been applied to one of so many lines
abbrev pub count_after : Entry → ℕ → ℕ
count_after entry count = max 1 (count - range_in entry count + length entry.lines)

-- the entry that leads back to a text, where `count` lines stand in the place of the `old` lines of its stored form from `top` on
abbrev pub way_back : List (List ℕ) → ℕ → ℕ → ℕ → Entry
way_back text top old count = record {
  top = top;
  bottom = if top + old == length (filled text) then 0 else top + count + 1;
  lines = cut_out (filled text) top old;
  empty = has_no_lines text;
}

-- the entry that leads back after an entry has been applied to a text
abbrev pub led_back : Entry → List (List ℕ) → Entry
led_back entry text = way_back text entry.top (range_in entry (length (filled text))) (length entry.lines)

-- the entry that leads back to a text after a splice of it; where the text has no lines, its stored form's line goes out
abbrev pub splice_back : List (List ℕ) → ℕ → ℕ → ℕ → Entry
splice_back text top old count = way_back text top (if has_no_lines text then 1 else old) count

-- An entry leads from a stored form with this number of lines to one with that number, and asks for no more lines and no longer ones than a text may have.
pub record LeadsCount (entry : Entry) (from to : ℕ) : Type 0 where
  pub fits : Fits entry from
  pub is : to ≡ count_after entry from
  pub few : to ≤ MAX_LINES
  pub short : All IsShort entry.lines

-- An entry leads from one text to another, both of which are within the limits.
pub record Leads (entry : Entry) (from to : List (List ℕ)) : Type 0 where
  pub count : LeadsCount entry (length (filled from)) (length (filled to))
  pub is : to ≡ applied entry from
  pub from_bytes : bytes_of from ≤ MAX_TEXT_BYTES
  pub to_bytes : bytes_of to ≤ MAX_TEXT_BYTES

-- Where the range of an entry lies within a text, the entry leads to a text within the limits.
pub record AllowsEntry (old : TextState) (entry : Entry) : Type 0 where
  pub few_lines : Fits entry (max 1 old.lines) → count_after entry (max 1 old.lines) ≤ MAX_LINES
  pub short_lines : All IsShort entry.lines
  pub few_bytes : (text : List (List ℕ)) → old.Is text → Fits entry (length (filled text)) → bytes_of (applied entry text) ≤ MAX_TEXT_BYTES
