-- What a command line is made of.
use Rattle.std.specs.Prelude.{ℕ, Bool, ◌&&◌, ◌+◌, if◌then◌else◌, List, length, take, drop, codes}
use Rattle.vs_exparse.specs.Bytes.{max_line_bytes, is_letter, is_blank, is_lead, run, skip, begins, is_empty}
use Rattle.vs_exparse.specs.Range.{range_of, is_given}
use Rattle.vs_exparse.specs.declared.command.Range.{Range}
use Rattle.vs_exparse.specs.declared.parts.LineParts.{LineParts}

-- the first 1,048,577 bytes of a line without the blanks and colons in front
abbrev pub start_of : List ℕ → List ℕ
start_of line = skip is_lead (take (max_line_bytes + 1) line)

-- a range, a word, a `!` and an argument
pub record Parts : Type 0 where
  pub range : Range
  pub word : List ℕ
  pub bang : Bool
  pub argument : List ℕ

-- The word is the longest run of letters, or an equals sign. A range with nothing after it prints.
abbrev pub word_after : Range → List ℕ → List ℕ
word_after range rest =
    if is_given range && is_empty rest then codes "print"
    else (if begins (codes "=") rest then codes "=" else run is_letter rest)

-- A `!` stands right after the word. The argument is what stands after it and any blanks.
abbrev pub parts_after : Range → List ℕ → List ℕ → Parts
parts_after range word rest = record {
  range = range;
  word = word;
  bang = begins (codes "!") rest;
  argument = skip is_blank (if begins (codes "!") rest then drop 1 rest else rest);
}

abbrev pub parts_from : Range → List ℕ → Parts
parts_from range rest = parts_after range (word_after range rest) (drop (length (word_after range rest)) rest)

-- the parts of a line that is one
abbrev pub parts_of : List ℕ → Parts
parts_of start = parts_from (range_of start).value (range_of start).rest

-- the parts that some of a line's bytes stand for
abbrev pub parts_in : LineParts → Parts
parts_in parts = record { range = parts.range; word = parts.word.now; bang = parts.bang; argument = parts.argument.now }
