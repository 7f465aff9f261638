-- Lines as bytes: where they begin, and what is left when the first ones go.
use Rattle.std.proofs.Common.{◌≡◌, ◌∙◌, ◌+◌, ◌-◌, ◌<◌, ◌≤◌, ℕ, zero, suc, List, [], ◌∷◌, ◌++◌, length, take, drop, get_or, ap, sym, arith, refl, append_assoc, length-append, length-drop}
use Rattle.std.proofs.Math.Seq.{drop-append-add, take-add, take-append-add}
use Rattle.std.proofs.lemmas.List.{drop-drop, drop_more, take_all, take_at}
use Rattle.std.proofs.lemmas.List.Elements.{All-append, All-drop, All-get_or}
use Rattle.vs_text.specs.Text.{IsLine, IsText, bytes_of, file_of, lines_of}
use Rattle.vs_text.proofs.FileForm.{bytes_of-append, length-file_of, lines_of-file_of}
use Rattle.vs_text.proofs.LineEnds.{IsText-lines_of}
use Rattle.vs_edit.specs.Splices.{HoldsLines, cut_out}
use Rattle.vs_reads.proofs.CutLemmas.{bytes-more}
use Rattle.vs_reads.proofs.ReadLemmas.{IsFirstLength}
use Rattle.vs_gap.specs.Ahead.{IsAhead}

-- the bytes after those of the first lines
pub drop-bytes : (lines : List (List ℕ)) (i : ℕ) → i ≤ length lines → drop (bytes_of (take i lines)) (file_of lines) ≡ file_of (drop i lines)
drop-bytes lines zero within = refl
drop-bytes [] (suc i) within = absurd (omega (arith, within))
drop-bytes (line ∷ lines) (suc i) within =
    let rest = bytes_of (take i lines) in
    let size : length line + 1 + rest ≡ length (line ++ 10 ∷ []) + rest = omega (arith, length-append line (10 ∷ [])) in
    ap (λ n. drop n ((line ++ 10 ∷ []) ++ file_of lines)) size ∙ drop-append-add (line ++ 10 ∷ []) (file_of lines) rest ∙ drop-bytes lines i (omega (arith, within))

pub take-bytes : (lines : List (List ℕ)) (i : ℕ) → i ≤ length lines → take (bytes_of (take i lines)) (file_of lines) ≡ file_of (take i lines)
take-bytes lines zero within = refl
take-bytes [] (suc i) within = absurd (omega (arith, within))
take-bytes (line ∷ lines) (suc i) within =
    let rest = bytes_of (take i lines) in
    let size : length line + 1 + rest ≡ length (line ++ 10 ∷ []) + rest = omega (arith, length-append line (10 ∷ [])) in
    ap (λ n. take n ((line ++ 10 ∷ []) ++ file_of lines)) size ∙ take-append-add (line ++ 10 ∷ []) (file_of lines) rest
    ∙ ap (λ l. (line ++ 10 ∷ []) ++ l) (take-bytes lines i (omega (arith, within)))

pub front-bytes : (lines : List (List ℕ)) (i : ℕ) → i ≤ length lines → bytes_of (take i lines) ≤ bytes_of lines
front-bytes lines zero within = omega arith
front-bytes [] (suc i) within = absurd (omega (arith, within))
front-bytes (line ∷ lines) (suc i) within = omega (arith, front-bytes lines i (omega (arith, within)))

pub many-bytes : (lines : List (List ℕ)) → length lines ≤ bytes_of lines
many-bytes [] = omega arith
many-bytes (line ∷ lines) = omega (arith, many-bytes lines)

-- more lines have more bytes
pub longer-bytes : (lines : List (List ℕ)) (at count : ℕ) → bytes_of (take at lines) ≤ bytes_of (take (at + count) lines)
longer-bytes lines at count =
    omega (arith, ap bytes_of (take-add at count lines), bytes_of-append (take at lines) (take count (drop at lines)))

-- ---- the line that stands at a place

module _ (lines : List (List ℕ)) (bytes : List ℕ) (i size len : ℕ) (text : IsText lines) (below : i < length lines) (is : bytes ≡ file_of lines)
    (size_is : size ≡ bytes_of (take i lines)) (first : IsFirstLength (take (length bytes - size) (drop size bytes)) len) where
  tail : take (length bytes - size) (drop size bytes) ≡ file_of (get_or lines i [] ∷ drop (i + 1) lines)
  tail =
      take_all (length bytes - size) (drop size bytes) (omega (arith, length-drop size bytes))
      ∙ ap (drop size) is ∙ ap (λ n. drop n (file_of lines)) size_is ∙ drop-bytes lines i (omega (arith, below)) ∙ ap file_of (drop_more lines i [] below)

  pub line-text : IsLine (get_or lines i [])
  line-text = All-get_or IsLine lines i [] below text

  pub line-size : len ≡ length (get_or lines i [])
  line-size = first (get_or lines i []) (drop (i + 1) lines) line-text tail

  pub next-size : size + (len + 1) ≡ bytes_of (take (i + 1) lines)
  next-size =
      let same : 0 + i ≡ i = omega arith in
      let within : 0 + i < length lines = omega (arith, below) in
      omega (arith, size_is, line-size, bytes-more lines 0 i within, ap (λ k. length (get_or lines k [])) same)

  pub next-within : size + (len + 1) ≤ bytes_of lines
  next-within = omega (arith, next-size, front-bytes lines (i + 1) (omega (arith, below)))

  pub line-is : (to : ℕ) → to ≡ size + len → take (to - size) (drop size bytes) ≡ get_or lines i []
  line-is to to_is =
      let line = get_or lines i [] in
      let rest = file_of (drop (i + 1) lines) in
      let count : to - size ≡ len = omega (arith, to_is) in
      ap (λ n. take n (drop size bytes)) count
      ∙ ap (take len) (ap (drop size) is ∙ ap (λ n. drop n (file_of lines)) size_is ∙ drop-bytes lines i (omega (arith, below)) ∙ ap file_of (drop_more lines i [] below)
      ∙ append_assoc line (10 ∷ []) rest)
      ∙ take_at line (10 ∷ rest) len (sym line-size)

-- lines from one on
pub cut-bytes : (lines : List (List ℕ)) (bytes : List ℕ) (at count from to : ℕ) → at + count ≤ length lines → bytes ≡ file_of lines → from ≡ bytes_of (take at lines)
    → to ≡ bytes_of (take (at + count) lines) → take (to - from) (drop from bytes) ≡ file_of (cut_out lines at count)
cut-bytes lines bytes at count from to within is from_is to_is =
    let rest = drop at lines in
    let size : to - from ≡ bytes_of (take count rest) =
    omega (arith, from_is, to_is, ap bytes_of (take-add at count lines), bytes_of-append (take at lines) (take count rest)) in
    ap (λ n. take n (drop from bytes)) size
    ∙ ap (take (bytes_of (take count rest))) (ap (drop from) is ∙ ap (λ n. drop n (file_of lines)) from_is ∙ drop-bytes lines at (omega (arith, within)))
    ∙ take-bytes rest count (omega (arith, within, length-drop at lines))

pub file-append : (a b : List (List ℕ)) → file_of (a ++ b) ≡ file_of a ++ file_of b
file-append [] b = refl
file-append (line ∷ a) b =
    ap (λ l. (line ++ 10 ∷ []) ++ l) (file-append a b) ∙ sym (append_assoc (line ++ 10 ∷ []) (file_of a) (file_of b))

pub lines-append : (first second : List ℕ) (a b : List (List ℕ)) → IsText a → IsText b → first ≡ file_of a → second ≡ file_of b → lines_of (first ++ second) ≡ a ++ b
lines-append first second a b a_text b_text a_is b_is =
    ap lines_of (ap (λ l. l ++ second) a_is ∙ ap (λ l. file_of a ++ l) b_is ∙ sym (file-append a b)) ∙ lines_of-file_of (a ++ b) (All-append IsLine a b a_text b_text)

-- the file form tells the lines
pub same-lines : (a b : List (List ℕ)) → IsText a → IsText b → file_of a ≡ file_of b → a ≡ b
same-lines a b a_text b_text is = sym (lines_of-file_of a a_text) ∙ ap lines_of is ∙ lines_of-file_of b b_text

module _ (bytes : List ℕ) (from held : ℕ) (is : IsAhead bytes from held) where
  abbrev lines : List (List ℕ)
  lines = lines_of (drop from bytes)

  -- the first lines go
  module _ (count size : ℕ) (within : count ≤ length lines) (size_is : size ≡ bytes_of (take count lines)) where
    rest : drop (from + size) bytes ≡ file_of (drop count lines)
    rest = sym (drop-drop size from bytes) ∙ ap (drop size) (sym is.ended) ∙ ap (λ n. drop n (file_of lines)) size_is ∙ drop-bytes lines count within

    pub lines-passed : lines_of (drop (from + size) bytes) ≡ drop count lines
    lines-passed = ap lines_of rest ∙ lines_of-file_of (drop count lines) (All-drop IsLine count lines (IsText-lines_of (drop from bytes)))

    pub ahead-passed : IsAhead bytes (from + size) (held - count)
    ahead-passed = record {
      within = omega (arith, is.within, front-bytes lines count within, size_is, length-file_of lines, ap (λ (l : List ℕ). length l) is.ended, length-drop from bytes);
      ended = ap file_of lines-passed ∙ sym rest;
      counted = omega (arith, ap (λ (l : List (List ℕ)). length l) lines-passed, length-drop count lines, is.counted);
    }

  -- lines come after the last
  module _ (more now : List ℕ) (count : ℕ) (holds : HoldsLines count more) (now_is : now ≡ drop from bytes ++ more) where
    pub lines-appended : (text : List (List ℕ)) → IsText text → more ≡ file_of text → lines_of now ≡ lines ++ text
    lines-appended text is_text form = ap lines_of now_is ∙ lines-append (drop from bytes) more lines text (IsText-lines_of (drop from bytes)) is_text (sym is.ended) form

    pub ahead-appended : IsAhead now 0 (held + count)
    ahead-appended =
        let whole = lines-appended holds.lines holds.is_text holds.form in
        record {
          within = omega arith;
          ended = ap file_of whole ∙ file-append lines holds.lines ∙ ap (λ l. l ++ file_of holds.lines) is.ended ∙ ap (λ l. drop from bytes ++ l) (sym holds.form) ∙ sym now_is;
          counted = omega (arith, ap (λ (l : List (List ℕ)). length l) whole, length-append lines holds.lines, is.counted, holds.counted);
        }
