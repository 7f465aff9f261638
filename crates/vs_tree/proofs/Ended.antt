-- Stored lines that end with byte 0 turn into their file form byte by byte, since no stored line has that byte.
use Rattle.std.proofs.Common.{◌≡◌, ◌≢◌, ℕ, ◌+◌, ◌<◌, List, [], ◌∷◌, ◌++◌, Some, length, get_or, take, drop, map, All, refl, sym, ap, ◌∙◌, arith, append-nil, append_assoc, length-append}
use Rattle.std.specs.List.{AllByRecursion}
use Rattle.std.proofs.lemmas.Bool.Decides.{nat_tests}
use Rattle.std.proofs.lemmas.Grind.{common_steps}
use Rattle.std.proofs.lemmas.List.{length-map, map-append}
use Rattle.std.proofs.lemmas.List.Concat.{flat_map-append}
use Rattle.std.proofs.lemmas.List.Elements.{All-append, All-nil, All-from_recursion, recursion_from_All}
use Rattle.vs_text.specs.Text.{IsLine, plain_byte, plain_line}
use Rattle.vs_text.specs.Limits.{IsShort}
use Rattle.vs_text.proofs.StoredForm.{IsLine-plain_line}
use Rattle.vs_data.specs.Blocks.{ended_of, lines_in}
use Rattle.vs_tree.specs.Reads.{AddsEnded, AddsLines, exchanged_byte, file_of_stored}

abbrev HasNoZero : List ℕ → Type 0
HasNoZero line = All (λ byte. byte ≢ 0) line

plain_byte_is : (byte : ℕ) → byte ≢ 0 → exchanged_byte byte ≡ plain_byte byte
plain_byte_is byte some = grind (arith, nat_tests)

plain_line_is : (line : List ℕ) → AllByRecursion (λ byte. byte ≢ 0) line → map exchanged_byte line ≡ plain_line line
plain_line_is [] none = refl
plain_line_is (byte ∷ line) some = rw (plain_byte_is byte some.0, plain_line_is line some.1) refl

ended_line : (line : List ℕ) → HasNoZero line → map exchanged_byte (line ++ 0 ∷ []) ≡ plain_line line ++ 10 ∷ []
ended_line line some = map-append exchanged_byte line (0 ∷ []) ∙ ap (λ xs. xs ++ 10 ∷ []) (plain_line_is line (recursion_from_All (λ byte. byte ≢ 0) line some))

pub ended_lines : (lines : List (List ℕ)) → AllByRecursion HasNoZero lines → map exchanged_byte (ended_of lines) ≡ file_of_stored lines
ended_lines [] none = refl
ended_lines (line ∷ lines) some =
    map-append exchanged_byte (line ++ 0 ∷ []) (ended_of lines)
    ∙ ap (λ xs. xs ++ map exchanged_byte (ended_of lines)) (ended_line line some.0)
    ∙ ap (λ xs. (plain_line line ++ 10 ∷ []) ++ xs) (ended_lines lines some.1)

-- nothing was added yet
pub ended_none : (block old : List ℕ) (from n : ℕ) → n ≡ 0 → AddsEnded block old old from n
ended_none block old from n none = record {
  lines = [];
  bytes = sym (append-nil old);
  number = sym none;
  no_zero = All-nil HasNoZero;
  short = All-nil IsShort;
  those = λ all reads. sym (ap (λ k. take k (drop from all)) none);
}

take_next : (all : List (List ℕ)) (from n : ℕ) → from + n < length all → take (n + 1) (drop from all) ≡ take n (drop from all) ++ get_or all (from + n) [] ∷ []
take_next all from n within = grind (arith, common_steps)

-- the next line was added
pub ended_next : (block old now new : List ℕ) (from n k : ℕ) (line : List ℕ) → k ≡ n + 1 → AddsEnded block old now from n → HasNoZero line → IsShort line → new ≡ now ++ (line ++ 0 ∷ [])
    → ((all : List (List ℕ)) → lines_in block ≡ Some all → (from + n < length all) × (line ≡ get_or all (from + n) [])) → AddsEnded block old new from k
ended_next block old now new from n k line more added some short is there = record {
  lines = added.lines ++ line ∷ [];
  bytes = is ∙ ap (λ xs. xs ++ (line ++ 0 ∷ [])) added.bytes ∙ append_assoc old (ended_of added.lines) (line ++ 0 ∷ [])
      ∙ ap (λ xs. old ++ (ended_of added.lines ++ xs)) (sym (append-nil (line ++ 0 ∷ [])))
      ∙ ap (λ xs. old ++ xs) (sym (flat_map-append (λ each. each ++ 0 ∷ []) added.lines (line ∷ [])));
  number = omega (arith, length-append added.lines (line ∷ []), added.number, more);
  no_zero = All-append HasNoZero added.lines (line ∷ []) added.no_zero (All-from_recursion HasNoZero (line ∷ []) (some, tt));
  short = All-append IsShort added.lines (line ∷ []) added.short (All-from_recursion IsShort (line ∷ []) (short, tt));
  those = λ all reads.
      ap (λ xs. xs ++ line ∷ []) (added.those all reads) ∙ ap (λ x. take n (drop from all) ++ x ∷ []) (there all reads).1
      ∙ sym (take_next all from n (there all reads).0) ∙ ap (λ m. take m (drop from all)) (sym more);
}

pub lines_plain : (lines : List (List ℕ)) → AllByRecursion IsLine (map plain_line lines)
lines_plain [] = tt
lines_plain (line ∷ lines) = (IsLine-plain_line line, lines_plain lines)

lines_short : (lines : List (List ℕ)) → AllByRecursion IsShort lines → AllByRecursion IsShort (map plain_line lines)
lines_short [] short = tt
lines_short (line ∷ lines) short = (omega (arith, short.0, length-map line plain_byte), lines_short lines short.1)

module _ (block old now new : List ℕ) (from n : ℕ) (added : AddsEnded block old now from n) (is : new ≡ old ++ map exchanged_byte (drop (length old) now)) where
  drop_old : (xs ys : List ℕ) → drop (length xs) (xs ++ ys) ≡ ys
  drop_old [] ys = refl
  drop_old (x ∷ xs) ys = drop_old xs ys

  file_is : new ≡ old ++ file_of_stored added.lines
  file_is = is ∙ ap (λ xs. old ++ map exchanged_byte (drop (length old) xs)) added.bytes
      ∙ ap (λ xs. old ++ map exchanged_byte xs) (drop_old old (ended_of added.lines))
      ∙ ap (λ xs. old ++ xs) (ended_lines added.lines (recursion_from_All HasNoZero added.lines added.no_zero))

  -- the bytes with the exchange are lines in file form
  pub ended_adds : AddsLines old new n
  ended_adds = record {
    text = map plain_line added.lines;
    bytes = file_is;
    number = length-map added.lines plain_line ∙ added.number;
    is_text = All-from_recursion IsLine (map plain_line added.lines) (lines_plain added.lines);
    short = All-from_recursion IsShort (map plain_line added.lines) (lines_short added.lines (recursion_from_All IsShort added.lines added.short));
  }

  -- and those of the block
  pub ended_run : (all : List (List ℕ)) → lines_in block ≡ Some all → new ≡ old ++ file_of_stored (take n (drop from all))
  ended_run all reads = file_is ∙ ap (λ xs. old ++ file_of_stored xs) (added.those all reads)

take_old : (xs ys : List ℕ) → take (length xs) (xs ++ ys) ≡ xs
take_old [] ys = refl
take_old (x ∷ xs) ys = ap (λ zs. x ∷ zs) (take_old xs ys)

-- what stood before the added lines stands as it was, where the bytes from there on were exchanged
pub exchanged_after : (block old now new : List ℕ) (start from n : ℕ) → start ≡ length old → AddsEnded block old now from n → new ≡ take start now ++ map exchanged_byte (drop start now)
    → new ≡ old ++ map exchanged_byte (drop (length old) now)
exchanged_after block old now new start from n is added made =
    made ∙ ap (λ k. take k now ++ map exchanged_byte (drop k now)) is
    ∙ ap (λ xs. xs ++ map exchanged_byte (drop (length old) now)) (ap (λ xs. take (length old) xs) added.bytes ∙ take_old old (ended_of added.lines))
