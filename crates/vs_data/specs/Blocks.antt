-- A data block: stored lines of a text. Places are bytes of the block, and lines are counted from 0.
use Rattle.std.specs.Prelude.{◌≡◌, ◌≢◌, All, replicate, ℕ, zero, suc, ◌+◌, ◌-◌, ◌*◌, ◌/◌, ◌%◌, ◌^◌, ◌<◌, ◌≤◌, Bool, not, ◌&&◌, ◌||◌}
use Rattle.std.specs.Prelude.{if◌then◌else◌, ◌==◌, nat_le, nat_lt, List, bytes_eq}
use Rattle.std.specs.Prelude.{[], ◌∷◌, ◌++◌, length, take, drop, map, slice_index, slice_range, Option, None, Some, Result, Ok, Err}
use Rattle.std.specs.Option.{option_and_then, option_map}
use Rattle.std.specs.Result.{result_ok}
use Rattle.std.specs.List.{find, flat_map, list_all, range_with_len, sum_by}
use Rattle.vs_bytes.specs.Fields.{Little, bytes_of, number_at, with_field}
use Rattle.vs_data.specs.declared.DataView.{DataView}
use Rattle.vs_data.specs.declared.DataErr.{DataErr}
use Rattle.vs_data.specs.declared.DataErr.TheVariants.{BadId, BadBounds, BadIndex}

-- the free space as the header has it, where the text begins and ends, and the number of lines
abbrev pub free_field : List ℕ → ℕ
free_field block = number_at Little 4 block 4

abbrev pub text_start_in : List ℕ → ℕ
text_start_in block = number_at Little 4 block 8

abbrev pub text_end_in : List ℕ → ℕ
text_end_in block = number_at Little 4 block 12

-- The field is a whole number with a sign. A negative count is 2 ^ 63 or more here, above every bound.
abbrev pub count_in : List ℕ → ℕ
count_in block = number_at Little 8 block 16

-- the header's fields that a reader goes by
abbrev pub view_of : List ℕ → DataView
view_of block =
    record { count = count_in block; text_start = text_start_in block; text_end = text_end_in block }

-- the bytes between the index and the text
abbrev pub free_space : DataView → ℕ
free_space view = view.text_start - (24 + 4 * view.count)

-- the index entry of a line, the place in it where the line begins, and its mark bit
abbrev pub entry_at : List ℕ → ℕ → ℕ
entry_at block line = number_at Little 4 block (24 + 4 * line)

abbrev pub start_at : List ℕ → ℕ → ℕ
start_at block line = entry_at block line % 2 ^ 31

abbrev pub mark_at : List ℕ → ℕ → ℕ
mark_at block line = entry_at block line / 2 ^ 31

-- the place where a line's bytes end: where the line before it begins, and the text end for the first line
abbrev pub end_at : List ℕ → ℕ → ℕ
end_at block zero = text_end_in block
end_at block (suc line) = start_at block line

-- a stored line: its bytes in the block but the zero byte at their end
abbrev pub line_at : List ℕ → ℕ → List ℕ
line_at block line = slice_range block (start_at block line) (end_at block line - 1)

-- the number of zero bytes
abbrev pub zeros_in : List ℕ → ℕ
zeros_in bytes = sum_by (λ byte. if byte == 0 then 1 else 0) bytes

-- the bytes from one place up to another are some, and the last and no other is zero
unfoldable pub is_line : List ℕ → ℕ → ℕ → Bool
is_line block start end =
    nat_lt start end && ((slice_index block (end - 1) == 0) && list_all (λ byte. not (byte == 0)) (slice_range block start (end - 1)))

-- The lines lie one below the other from the text's end to its start, each of some bytes with a zero at their end.
pub record EndsLines (block : List ℕ) : Type 0 where
  pub order : (line : ℕ) → line < count_in block → start_at block line < end_at block line
  pub zeros : (line : ℕ) → line < count_in block → slice_index block (end_at block line - 1) ≡ 0
  pub start : end_at block (count_in block) ≡ text_start_in block

-- the index entry is that of a line, and the last line begins where the text does
abbrev pub is_good_entry : List ℕ → ℕ → Bool
is_good_entry block line =
    is_line block (start_at block line) (end_at block line)
    && (not (line + 1 == count_in block) || (start_at block line == text_start_in block))

-- the block has room for a header and begins with the bytes `ad`
abbrev pub has_id : List ℕ → Bool
has_id block = nat_le 24 (length block) && (number_at Little 2 block 0 == 0x6461)

-- header and index, text and block end in this order, and there is no text without lines
abbrev pub has_bounds : List ℕ → Bool
has_bounds block =
    nat_le (24 + 4 * count_in block) (text_start_in block) && nat_le (text_start_in block) (text_end_in block)
    && nat_le (text_end_in block) (length block)
    && (nat_lt 0 (count_in block) || (text_start_in block == text_end_in block))

-- what `bounds` answers: the header's fields, or the first refusal
unfoldable pub bounds_in : List ℕ → Result DataView DataErr
bounds_in block =
    if has_id block then (if has_bounds block then Ok (view_of block) else Err BadBounds) else Err BadId

-- the first line whose index entry is not good
unfoldable pub first_bad : List ℕ → Option ℕ
first_bad block = find (λ line. not (is_good_entry block line)) (range_with_len 0 (count_in block))

-- an answer of `bounds` with what was found in the index
abbrev pub with_index : Result DataView DataErr → Option ℕ → Result DataView DataErr
with_index (Err refusal) bad = Err refusal
with_index (Ok view) None = Ok view
with_index (Ok view) (Some line) = Err (BadIndex line)

-- what `read` answers: a refusal of `bounds`, or else the first bad entry, or else the header's fields
unfoldable pub view_in : List ℕ → Result DataView DataErr
view_in block = with_index (bounds_in block) (first_bad block)

-- what a function of a line's number gives for each line that the header counts
abbrev pub each_line : {X : Type 0} → List ℕ → (ℕ → X) → List X
each_line block f = map f (range_with_len 0 (count_in block))

-- the stored lines, where the block is not refused
unfoldable pub lines_in : List ℕ → Option (List (List ℕ))
lines_in block = option_map (λ _. each_line block (λ line. line_at block line)) (result_ok (view_in block))

-- a list with another put in before one of its places
abbrev pub put_in : {X : Type 0} → List X → ℕ → List X → List X
put_in xs at more = take at xs ++ (more ++ drop at xs)

-- the stored lines of a block with those of another put in, where neither is refused
abbrev pub with_lines_in : List ℕ → ℕ → List ℕ → Option (List (List ℕ))
with_lines_in block at other = option_and_then (λ more. option_map (λ lines. put_in lines at more) (lines_in block)) (lines_in other)

-- the lines' mark bits
abbrev pub marks_in : List ℕ → List ℕ
marks_in block = each_line block (λ line. mark_at block line)

-- what the lines take: the bytes of each, a zero byte and an index entry
abbrev pub space_of : List (List ℕ) → ℕ
space_of lines = sum_by (λ line. length line + 5) lines

-- the header counts the lines, and header, lines and free space reach to the text end
pub record Measures (view : DataView) (lines : List (List ℕ)) : Type 0 where
  pub count : length lines ≡ view.count
  pub space : 24 + space_of lines + free_space view ≡ view.text_end

-- beside lines and index: the header has the view's free space, and the bytes before it and past the text stay
pub record KeepsFrame (old new : List ℕ) (view : DataView) : Type 0 where
  pub free : free_field new ≡ free_space view
  pub front : take 4 new ≡ take 4 old
  pub beyond : drop view.text_end new ≡ drop view.text_end old

-- the bytes `ad` and the two unused ones
abbrev pub id_bytes : List ℕ
id_bytes = 0x61 ∷ 0x64 ∷ 0 ∷ 0 ∷ []

-- The bytes that a reader does not go by are as they are written: the unused ones are zeros, the free space stands in the header, the text
-- ends where the block does, and no line is marked. All bytes of a block but those between index and text follow from this and its lines.
abbrev pub is_as_written : List ℕ → Bool
is_as_written block =
    bytes_eq (take 4 block) id_bytes
    && ((free_field block == free_space (view_of block)) && ((text_end_in block == length block) && list_all (λ mark. mark == 0) (marks_in block)))

-- the bytes of the header after those
abbrev pub header_of : DataView → List ℕ
header_of view =
    bytes_of Little 4 (free_space view) ++ bytes_of Little 4 view.text_start ++ bytes_of Little 4 view.text_end
    ++ bytes_of Little 8 view.count

-- the bytes of a block under the header of a view
abbrev pub headed : List ℕ → DataView → List ℕ
headed block view = with_field block 4 (header_of view)

-- a block with the lines of another from one line on, at its end
pub record HasRest (old : List ℕ) (from : ℕ) (new : List ℕ) (view : DataView) : Type 0 where
  pub count : view.count ≡ count_in old - from
  pub start : view.text_start + end_at old from ≡ length old + text_start_in old
  pub end : view.text_end ≡ length old
  pub answer : view_in new ≡ Ok view
  pub lines : lines_in new ≡ option_map (λ lines. drop from lines) (lines_in old)
  pub marks : marks_in new ≡ drop from (marks_in old)
  pub free : free_field new ≡ free_space view
  pub front : take 4 new ≡ id_bytes

-- stored lines, each followed by a zero byte
abbrev pub ended_of : List (List ℕ) → List ℕ
ended_of lines = flat_map (λ line. line ++ 0 ∷ []) lines

-- Of stored lines that are given by their bytes the first ones stand after those of the block: so many bytes, each line with its zero byte.
pub record PutsLast (old new : List ℕ) (before after : DataView) (bytes : List ℕ) (taken : ℕ) : Type 0 where
  pub put : List (List ℕ)
  pub lines_end : take taken bytes ≡ ended_of put
  pub within : taken ≤ length bytes
  pub no_zero : All (All (λ byte. byte ≢ 0)) put
  pub count : after.count ≡ before.count + length put
  pub start : after.text_start + taken ≡ before.text_start
  pub end : after.text_end ≡ before.text_end
  pub view : view_in new ≡ Ok after
  pub lines : lines_in new ≡ option_map (λ lines. lines ++ put) (lines_in old)
  pub marks : marks_in new ≡ marks_in old ++ replicate (length put) 0
  pub free : free_field new ≡ free_space after
  pub front : take 4 new ≡ take 4 old
  pub beyond : drop after.text_end new ≡ drop after.text_end old

-- There is no room for the line that ends first in the bytes.
abbrev pub HasNoRoom : DataView → List ℕ → Type 0
HasNoRoom view bytes = (line rest : List ℕ) → bytes ≡ line ++ (0 ∷ rest) → All (λ byte. byte ≢ 0) line → free_space view < length line + 5

-- the length of a block: whole pages, no more than a block of one line has
pub record IsBlockLength (n : ℕ) : Type 0 where
  pub not_empty : 0 < n
  pub pages : n % 4096 ≡ 0
  pub limit : n ≤ 1100000
