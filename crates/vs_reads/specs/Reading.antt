-- Lines that are read one after another, from runs that were copied from a store.
use Rattle.std.specs.Prelude.{ℕ, ◌≡◌, ◌≤◌, ◌+◌, ◌-◌, List, drop, length, take}
use Rattle.vs_text.specs.Text.{file_of}
use Rattle.vs_edit.specs.Splices.{cut_out, HoldsLines}
use Rattle.vs_reads.specs.declared.reader.LineReader.{LineReader}

-- the copied bytes of the lines that are still to be read
abbrev pub rest_of : LineReader → List ℕ
rest_of reader = drop reader.from reader.run.items

-- the copied bytes of the line that was read last, which are none before the first
abbrev pub line_of : LineReader → List ℕ
line_of reader = take (reader.stop - reader.start) (drop reader.start reader.run.items)

-- The bytes of the line that was read last are there.
abbrev pub HasLine : LineReader → Type 0
HasLine reader = (reader.start ≤ reader.stop) × (reader.stop ≤ length reader.run.items)

-- A reader reads line `at` of a store next, and stops before line `end`. The bytes that it has copied are those of lines.
pub record IsAt (reader : LineReader) (at end : ℕ) : Type 0 where
  pub at_is : reader.at ≡ at
  pub end_is : reader.end ≡ end
  pub lines : HoldsLines reader.held (rest_of reader)

-- What a reader has copied are the lines of the text that it reads next.
abbrev pub HasCopied : List (List ℕ) → LineReader → Type 0
HasCopied text reader = rest_of reader ≡ file_of (cut_out text reader.at reader.held)

-- The lines that are held come before the one before which the reader stops.
abbrev pub StopsWithin : LineReader → Type 0
StopsWithin reader = reader.at + reader.held ≤ reader.end
