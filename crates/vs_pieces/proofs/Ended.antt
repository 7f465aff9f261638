-- A line or several that are added to ended lines are the last of them.
use Rattle.std.proofs.Common.{◌≡◌, ◌≢◌, ℕ, ◌+◌, ◌*◌, ◌<◌, ◌≤◌, List, [], ◌∷◌, ◌++◌, length, get_or, drop, count_by, Err, Ok, OnErr, OnOk, Result, is_ok, cond, if◌then◌else◌, inl, inr, refl, sym, ap, subst, ◌∙◌, arith, append_assoc, length-append, length-drop}
use Rattle.std.specs.List.{AllByRecursion}
use Rattle.std.proofs.lemmas.Bool.{eq-eqb, ne_eqb}
use Rattle.std.proofs.lemmas.Bool.Decides.{eqb_tells}
use Rattle.std.proofs.lemmas.Grind.{flat_map-append}
use Rattle.std.proofs.lemmas.List.{get_or-drop, get_or_default}
use Rattle.std.proofs.lemmas.List.Elements.{recursion_from_All}
use Rattle.std.proofs.lemmas.List.Sums.{sum_by-append, sum_by-cons}
use Rattle.memchr.specs.Find.{Nowhere, Passes, is_byte}
use Rattle.vs_text.specs.Text.{lines_of, file_of, onto_first, IsLine}
use Rattle.vs_pieces.specs.Whole.{is_end}
use Rattle.vs_text.proofs.LineEnds.{lines_of-line, IsText-lines_of}
use Rattle.vs_text.proofs.Reading.{lines_of-file_then, file_of-one_more}

pub lines_more : (bytes line now : List ℕ) → file_of (lines_of bytes) ≡ bytes → IsLine line → now ≡ (bytes ++ line) ++ 10 ∷ [] → lines_of now ≡ lines_of bytes ++ line ∷ []
lines_more bytes line now whole is grown =
    let parts : now ≡ file_of (lines_of bytes) ++ (line ++ 10 ∷ []) = grown ∙ append_assoc bytes line (10 ∷ []) ∙ ap (λ (xs : List ℕ). xs ++ (line ++ 10 ∷ [])) (sym whole) in
    ap lines_of parts ∙ lines_of-file_then (lines_of bytes) (line ++ 10 ∷ []) (IsText-lines_of bytes) ∙ ap (λ (ls : List (List ℕ)). lines_of bytes ++ ls) (lines_of-line line [] is)

pub whole_more : (bytes line now : List ℕ) → file_of (lines_of bytes) ≡ bytes → IsLine line → now ≡ (bytes ++ line) ++ 10 ∷ [] → file_of (lines_of now) ≡ now
whole_more bytes line now whole is grown =
    ap file_of (lines_more bytes line now whole is grown) ∙ file_of-one_more (lines_of bytes) line ∙ ap (λ (xs : List ℕ). xs ++ (line ++ 10 ∷ [])) whole
    ∙ sym (grown ∙ append_assoc bytes line (10 ∷ []))

-- the same by what the call says that adds the line
pub whole_after : {E : Type 0} (result : Result (Unit {0}) E) (bytes line now : List ℕ) → file_of (lines_of bytes) ≡ bytes → IsLine line
    → OnOk result (now ≡ (bytes ++ line) ++ 10 ∷ []) → OnErr result (now ≡ bytes) → file_of (lines_of now) ≡ now
whole_after (Ok x) bytes line now whole is ok err = whole_more bytes line now whole is ok
whole_after (Err e) bytes line now whole is ok err = subst (λ (xs : List ℕ). file_of (lines_of xs) ≡ xs) (sym err) whole

-- ended lines after others
pub run_lines : (bytes lines now : List ℕ) → file_of (lines_of bytes) ≡ bytes → now ≡ bytes ++ lines → lines_of now ≡ lines_of bytes ++ lines_of lines
run_lines bytes lines now whole grown =
    ap lines_of (grown ∙ ap (λ (xs : List ℕ). xs ++ lines) (sym whole)) ∙ lines_of-file_then (lines_of bytes) lines (IsText-lines_of bytes)

run_whole : (bytes lines now : List ℕ) → file_of (lines_of bytes) ≡ bytes → file_of (lines_of lines) ≡ lines → now ≡ bytes ++ lines → file_of (lines_of now) ≡ now
run_whole bytes lines now whole ended grown =
    ap file_of (run_lines bytes lines now whole grown) ∙ flat_map-append (λ (l : List ℕ). l ++ 10 ∷ []) (lines_of bytes) (lines_of lines)
    ∙ ap (λ (xs : List ℕ). xs ++ file_of (lines_of lines)) whole ∙ ap (λ (xs : List ℕ). bytes ++ xs) ended ∙ sym grown

-- the same by what the call says that adds them
pub run_after : {E : Type 0} (result : Result (Unit {0}) E) (bytes lines now : List ℕ) → file_of (lines_of bytes) ≡ bytes → file_of (lines_of lines) ≡ lines
    → now ≡ (if is_ok result then bytes ++ lines else bytes) → file_of (lines_of now) ≡ now
run_after (Ok x) bytes lines now whole ended is = run_whole bytes lines now whole ended is
run_after (Err e) bytes lines now whole ended is = subst (λ (xs : List ℕ). file_of (lines_of xs) ≡ xs) (sym is) whole

-- a byte before lines
file_of-onto : (byte : ℕ) (lines : List (List ℕ)) (bytes : List ℕ) → 0 < length bytes → file_of lines ≡ bytes → file_of (onto_first byte lines) ≡ byte ∷ bytes
file_of-onto byte [] bytes some is = absurd (omega (arith, some, ap (λ (xs : List ℕ). length xs) is))
file_of-onto byte (line ∷ lines) bytes some is = ap (λ (xs : List ℕ). byte ∷ xs) is

-- bytes up to a line end are lines with their ends
pub whole_to_end : (front : List ℕ) → file_of (lines_of (front ++ 10 ∷ [])) ≡ front ++ 10 ∷ []
whole_to_end [] = refl
whole_to_end (byte ∷ front) =
    let bytes = front ++ 10 ∷ [] in
    elim (eqb_tells byte 10) [
      | inl ten ↦ rw ten.1 (ap (λ (xs : List ℕ). 10 ∷ xs) (whole_to_end front))
      | inr other ↦ rw other.0 (file_of-onto byte (lines_of bytes) bytes (omega (arith, length-append front (10 ∷ []))) (whole_to_end front))
    ]

-- no line end is after the last one
pub line_after : (bytes rest : List ℕ) (n : ℕ) → Nowhere (Passes (is_byte 10) bytes) n (length bytes) → rest ≡ drop n bytes → IsLine rest
line_after bytes rest n none is = subst IsLine (sym is) (λ k d below ten.
    let size = length-drop n bytes in
    let place : get_or (drop n bytes) k 0 ≡ get_or bytes (n + k) 0 = get_or-drop n bytes k 0 in
    none (n + k) (omega arith) (omega (arith, below, size)) (eq-eqb (get_or bytes (n + k) 0) 10 (sym place ∙ get_or_default (drop n bytes) k 0 d below ∙ ten)))

count_line : (line : List ℕ) → AllByRecursion (λ byte. byte ≢ 10) line → count_by is_end line ≡ 0
count_line [] h = refl
count_line (byte ∷ line) h = sum_by-cons (λ b. cond (is_end b) 1 0) byte line ∙ rw (ne_eqb byte 10 h.0) (omega (arith, count_line line h.1))

count_file : (text : List (List ℕ)) → AllByRecursion IsLine text → count_by is_end (file_of text) ≡ length text
count_file [] h = refl
count_file (line ∷ text) h =
    omega (
      arith,
      sum_by-append (λ b. cond (is_end b) 1 0) (line ++ 10 ∷ []) (file_of text),
      sum_by-append (λ b. cond (is_end b) 1 0) line (10 ∷ []),
      count_line line (recursion_from_All (λ byte. byte ≢ 10) line h.0),
      count_file text h.1,
    )

-- each line has one line end
pub count_lines : (bytes : List ℕ) → file_of (lines_of bytes) ≡ bytes → length (lines_of bytes) ≡ count_by is_end bytes
count_lines bytes whole = sym (ap (count_by is_end) (sym whole) ∙ count_file (lines_of bytes) (recursion_from_All IsLine (lines_of bytes) (IsText-lines_of bytes)))

-- there are no more lines than bytes
pub lines_few : (seen : List (List ℕ)) → length seen ≤ length (file_of seen)
lines_few [] = omega arith
lines_few (line ∷ seen) = omega (arith, length-append (line ++ 10 ∷ []) (file_of seen), length-append line (10 ∷ []), lines_few seen)

-- lines whose bytes are no more than one line may have
pub lines_most : (lines : List (List ℕ)) → length (file_of lines) ≤ 1048576 → length (file_of lines) ≤ length lines * 1048577
lines_most [] few = omega arith
lines_most (line ∷ lines) few = omega (arith, few)
