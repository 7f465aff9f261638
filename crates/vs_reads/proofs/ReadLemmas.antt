-- The first of the lines that were copied, and those after it.
use Rattle.std.proofs.Common.{◌≡◌, ℕ, ◌<◌, ◌≤◌, ◌+◌, ◌-◌, List, [], ◌∷◌, ◌++◌, length, get_or, take, drop, sym, ap, ◌∙◌, arith, append_assoc, length-append, length-take, length-drop}
use Rattle.std.proofs.lemmas.List.{take_at, drop_at, drop-drop, drop-take, get_or-take, get_or-drop}
use Rattle.std.proofs.lemmas.List.Elements.{All-head, All-drop, All-take}
use Rattle.vs_text.specs.Text.{IsLine, IsText, file_of, lines_of}
use Rattle.vs_text.proofs.FileForm.{lines_of-file_of}
use Rattle.vs_text.specs.Limits.{IsShort}
use Rattle.vs_edit.specs.Splices.{cut_out, HoldsLines}
use Rattle.vs_reads.specs.declared.reader.LineReader.{LineReader}
use Rattle.vs_reads.specs.Reading.{IsAt}

-- A number is the length of the first of the lines whose file form these bytes are.
abbrev pub IsFirstLength : List ℕ → ℕ → Type 0
IsFirstLength bytes len = (line : List ℕ) (after : List (List ℕ)) → IsLine line → bytes ≡ file_of (line ∷ after) → len ≡ length line

parts : (bytes : List ℕ) (lines : List (List ℕ)) → 0 < length lines → bytes ≡ file_of lines → bytes ≡ (get_or lines 0 [] ++ 10 ∷ []) ++ file_of (drop 1 lines)
parts bytes [] some is = absurd (omega arith)
parts bytes (line ∷ after) some is = is

pub first-length : (bytes : List ℕ) (lines : List (List ℕ)) (len : ℕ) → IsText lines → 0 < length lines → bytes ≡ file_of lines → IsFirstLength bytes len → len ≡ length (get_or lines 0 [])
first-length bytes [] len text some is found = absurd (omega arith)
first-length bytes (line ∷ after) len text some is found = found line after (All-head IsLine line after text) is

-- the first line and its newline are there
pub first-within : (bytes : List ℕ) (lines : List (List ℕ)) (len : ℕ) → IsText lines → 0 < length lines → bytes ≡ file_of lines → IsFirstLength bytes len → len + 1 ≤ length bytes
first-within bytes lines len text some is found =
    omega (
      arith,
      first-length bytes lines len text some is found,
      ap (λ (l : List ℕ). length l) (parts bytes lines some is),
      length-append (get_or lines 0 [] ++ 10 ∷ []) (file_of (drop 1 lines)),
      length-append (get_or lines 0 []) (10 ∷ []),
    )

pub first-line : (bytes : List ℕ) (lines : List (List ℕ)) (len : ℕ) → IsText lines → 0 < length lines → bytes ≡ file_of lines → IsFirstLength bytes len → take len bytes ≡ get_or lines 0 []
first-line bytes lines len text some is found =
    let first = get_or lines 0 [] in
    ap (take len) (parts bytes lines some is ∙ append_assoc first (10 ∷ []) (file_of (drop 1 lines)))
    ∙ take_at first (10 ∷ file_of (drop 1 lines)) len (sym (first-length bytes lines len text some is found))

pub first-rest : (bytes : List ℕ) (lines : List (List ℕ)) (len : ℕ) → IsText lines → 0 < length lines → bytes ≡ file_of lines → IsFirstLength bytes len → drop (len + 1) bytes ≡ file_of (drop 1 lines)
first-rest bytes lines len text some is found =
    let first = get_or lines 0 [] in
    ap (drop (len + 1)) (parts bytes lines some is)
    ∙ drop_at (first ++ 10 ∷ []) (file_of (drop 1 lines)) (len + 1) (omega (arith, first-length bytes lines len text some is found, length-append first (10 ∷ [])))

-- the lines after the first one
pub holds-rest : (n len : ℕ) (bytes rest : List ℕ) → 0 < n → (holds : HoldsLines n bytes) → IsFirstLength bytes len → rest ≡ drop (len + 1) bytes → HoldsLines (n - 1) rest
holds-rest n len bytes rest some holds found is = record {
  lines = drop 1 holds.lines;
  counted = omega (arith, holds.counted, length-drop 1 holds.lines);
  is_text = All-drop IsLine 1 holds.lines holds.is_text;
  short_lines = All-drop IsShort 1 holds.lines holds.short_lines;
  form = is ∙ first-rest bytes holds.lines len holds.is_text (omega (arith, some, holds.counted)) holds.form found;
}

-- how many bytes there are
pub first-size : (bytes rest : List ℕ) (lines : List (List ℕ)) → 0 < length lines → bytes ≡ file_of lines → rest ≡ file_of (drop 1 lines) → length bytes ≡ length (get_or lines 0 []) + 1 + length rest
first-size bytes rest lines some is rest_is =
    omega (
      arith,
      ap (λ (l : List ℕ). length l) (parts bytes lines some is),
      length-append (get_or lines 0 [] ++ 10 ∷ []) (file_of (drop 1 lines)),
      length-append (get_or lines 0 []) (10 ∷ []),
      ap (λ (l : List ℕ). length l) rest_is,
    )

-- some lines have bytes
pub some-bytes : (bytes : List ℕ) (lines : List (List ℕ)) → 0 < length lines → bytes ≡ file_of lines → 0 < length bytes
some-bytes bytes lines some is =
    omega (arith, ap (λ (l : List ℕ). length l) (parts bytes lines some is), length-append (get_or lines 0 [] ++ 10 ∷ []) (file_of (drop 1 lines)), length-append (get_or lines 0 []) (10 ∷ []))

-- lines that are cut out of a text have no newline
pub copied-text : (text : List (List ℕ)) (at held : ℕ) → IsText text → IsText (cut_out text at held)
copied-text text at held is = All-take IsLine held (drop at text) (All-drop IsLine at text is)

pub copied-some : (text : List (List ℕ)) (at held : ℕ) → at < length text → 0 < held → 0 < length (cut_out text at held)
copied-some text at held below some = omega (arith, below, some, length-take held (drop at text), length-drop at text)

-- the first of them
pub copied-first : (line : List ℕ) (text : List (List ℕ)) (at held now : ℕ) → 0 < held → now ≡ at → line ≡ get_or (cut_out text now held) 0 [] → line ≡ get_or text at []
copied-first line text at held now some same is = is ∙ get_or-take held (drop now text) 0 [] some ∙ get_or-drop now text 0 [] ∙ ap (λ i. get_or text i []) (omega (arith, same))

-- as many lines are copied as are held
pub copied-count : (bytes : List ℕ) (text : List (List ℕ)) (at held : ℕ) → IsText text → (holds : HoldsLines held bytes) → bytes ≡ file_of (cut_out text at held) → length (cut_out text at held) ≡ held
copied-count bytes text at held is_text holds is =
    let cut = cut_out text at held in
    ap (λ (xs : List (List ℕ)). length xs) (sym (lines_of-file_of cut (copied-text text at held is_text)) ∙ ap lines_of (sym is ∙ holds.form) ∙ lines_of-file_of holds.lines holds.is_text)
    ∙ holds.counted

-- those after the first ones
pub copied-later : (text : List (List ℕ)) (at held count next left : ℕ) → count ≤ held → next ≡ at + count → left ≡ held - count → file_of (drop count (cut_out text at held)) ≡ file_of (cut_out text next left)
copied-later text at held count next left within next_is left_is =
    let size : held ≡ count + left = omega (arith, within, left_is) in
    ap file_of (ap (λ n. drop count (take n (drop at text))) size ∙ drop-take count left (drop at text)
    ∙ ap (take left) (drop-drop count at text ∙ ap (λ n. drop n text) (sym next_is)))

-- those after the first
pub copied-rest : (text : List (List ℕ)) (at held next left : ℕ) → 0 < held → next ≡ at + 1 → left ≡ held - 1 → file_of (drop 1 (cut_out text at held)) ≡ file_of (cut_out text next left)
copied-rest text at held next left some next_is left_is =
    let count : held ≡ 1 + left = omega (arith, some, left_is) in
    let same : drop 1 (cut_out text at held) ≡ cut_out text next left =
    ap (λ n. drop 1 (take n (drop at text))) count ∙ drop-take 1 left (drop at text) ∙ ap (take left) (drop-drop 1 at text ∙ ap (λ n. drop n text) (sym next_is)) in
    ap file_of same

-- the reader's next place
pub next-at : (old new : LineReader) (at end next : ℕ) → IsAt old at end → IsAt new (old.at + 1) old.end → next ≡ at + 1 → IsAt new next end
next-at old new at end next before after is = record {
  at_is = omega (arith, before.at_is, after.at_is, is);
  end_is = after.end_is ∙ before.end_is;
  lines = after.lines;
}

-- the line that was read, where the reader's place is known
pub line-at : (reader : LineReader) (text : List (List ℕ)) (line : List ℕ) (at end : ℕ) → IsAt reader at end → line ≡ get_or text reader.at [] → line ≡ get_or text at []
line-at reader text line at end before is = is ∙ ap (λ i. get_or text i []) before.at_is
