-- What is written: each part of the format with the bytes that are free in reading, at the end of the bytes so far.
use Rattle.std.specs.Prelude.{◌≡◌, ℕ, Bool, List, [], ◌∷◌, ◌++◌, length, replicate, if◌then◌else◌}
use Rattle.vs_text.specs.Text.{plain_line, stored_line}
use Rattle.vs_ufile.specs.Format.{Row, InOrder, Each, Is, IsNumber, sized}
use Rattle.vs_ufile.specs.Reading.{start_bytes}
use Rattle.vs_ufile.specs.Values.{Change, Entry, History}

-- bytes of the row were put at the end
pub record Puts (row : Row) (old new : List ℕ) : Type 0 where
  pub part : List ℕ
  pub whole : new ≡ old ++ part
  pub is : (following : ℕ) → row part following

-- bytes of the rows, one after the other, were put at the end
pub record PutsAll (rows : List Row) (old new : List ℕ) : Type 0 where
  pub part : List ℕ
  pub whole : new ≡ old ++ part
  pub is : (following : ℕ) → InOrder rows part following

-- so many bytes 0
abbrev pub IsZeros : ℕ → Row
IsZeros n = Is (replicate n 0)

-- a line's stored form after its length; the line is that of its stored form
pub record IsStoredLine (line bytes : List ℕ) (following : ℕ) : Type 0 where
  pub stored : InOrder (sized (stored_line line)) bytes following
  pub way_back : plain_line (stored_line line) ≡ line

-- the rows that are written of a line
abbrev pub line_written : List ℕ → List Row
line_written line = IsStoredLine line ∷ []

-- the rows that are written of an entry
abbrev pub entry_written : Entry → List Row
entry_written e =
    IsNumber 2 0xf518 ∷ IsNumber 4 e.top ∷ IsNumber 4 e.bottom ∷ IsNumber 4 e.count ∷ IsNumber 4 (length e.lines)
    ∷ Each line_written e.lines ∷ []

-- the save number as the one optional field, and the end of these fields
abbrev pub save_written : ℕ → List Row
save_written save = IsNumber 1 4 ∷ IsNumber 1 1 ∷ IsNumber 4 save ∷ IsNumber 1 0 ∷ []

-- the rows that are written of links
abbrev pub links_written : Change → List Row
links_written c = IsNumber 4 c.next ∷ IsNumber 4 c.prev ∷ IsNumber 4 c.alt_next ∷ IsNumber 4 c.alt_prev ∷ []

-- cursor, virtual column, flags, marks, visual area
abbrev pub state_written : Bool → List Row
state_written empty = IsZeros 12 ∷ IsZeros 4 ∷ IsNumber 2 (if empty then 2 else 0) ∷ IsZeros 312 ∷ IsZeros 24 ∷ IsZeros 4 ∷ IsZeros 4 ∷ []

-- the rows that are written of a change
abbrev pub change_written : Change → List Row
change_written c =
    IsNumber 2 0x5fd0
    ∷ IsNumber 4 c.next ∷ IsNumber 4 c.prev ∷ IsNumber 4 c.alt_next ∷ IsNumber 4 c.alt_prev ∷ IsNumber 4 c.number
    ∷ IsZeros 12 ∷ IsZeros 4 ∷ IsNumber 2 (if c.empty then 2 else 0) ∷ IsZeros 312 ∷ IsZeros 24 ∷ IsZeros 4 ∷ IsZeros 4
    ∷ IsNumber 8 c.time ∷ InOrder (save_written c.save)
    ∷ Each entry_written c.entries ∷ IsNumber 2 0x3581 ∷ []

-- the rows that are written in front of the changes
abbrev pub front_written : List ℕ → ℕ → List Row
front_written digest lines =
    Is start_bytes ∷ IsNumber 2 2 ∷ Is digest ∷ IsNumber 4 lines ∷ InOrder (sized []) ∷ IsZeros 4 ∷ IsZeros 4 ∷ []

-- the rows that are written of the numbers
abbrev pub numbers_written : History → List Row
numbers_written h =
    IsNumber 4 h.oldest ∷ IsNumber 4 h.newest ∷ IsNumber 4 h.current_head
    ∷ IsNumber 4 h.heads ∷ IsNumber 4 h.last ∷ IsNumber 4 h.current ∷ []

-- the rows that are written of a whole file
abbrev pub file_written : History → List Row
file_written h =
    front_written h.digest h.lines ++ numbers_written h ++ IsNumber 8 h.time ∷ InOrder (save_written h.last_save)
    ∷ Each change_written h.changes ∷ IsNumber 2 0xe7aa ∷ []

-- the bytes that are written for a history, whatever follows them
abbrev pub IsWritten : History → List ℕ → Type 0
IsWritten h bytes = (following : ℕ) → InOrder (file_written h) bytes following
