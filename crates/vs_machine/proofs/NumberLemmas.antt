-- Numbered lines grow by one line.
use Rattle.std.proofs.Common.{◌≡◌, ℕ, ◌+◌, ◌-◌, ◌<◌, ◌≤◌, List, [], ◌∷◌, ◌++◌, length, drop, take, get_or, refl, sym, ap, ◌∙◌, arith, append_assoc, length-append}
use Rattle.std.proofs.lemmas.List.{length-take, length-drop, take_more}
use Rattle.vs_text.specs.Text.{bytes_of, file_of, lines_of}
use Rattle.vs_text.proofs.FileForm.{length-file_of}
use Rattle.vs_text.proofs.LineEnds.{IsText-lines_of}
use Rattle.vs_edit.specs.Splices.{cut_out}
use Rattle.vs_edit.proofs.FileForm.{cut_out-more, file_of-more}
use Rattle.vs_reads.proofs.ReadLemmas.{IsFirstLength}
use Rattle.vs_gap.proofs.AheadLemmas.{line-is, many-bytes, next-size, next-within}
use Rattle.vs_machine.specs.Shown.{with_number, numbered}

numbered-more : (first : ℕ) (lines : List (List ℕ)) (line : List ℕ) → numbered first (lines ++ line ∷ []) ≡ numbered first lines ++ with_number (first + length lines) line ∷ []
numbered-more first [] line = ap (λ n. with_number n line ∷ []) (omega arith)
numbered-more first (one ∷ lines) line =
    ap (λ lines. with_number first one ∷ lines) (numbered-more (first + 1) lines line ∙ ap (λ n. numbered (first + 1) lines ++ with_number n line ∷ []) (omega arith))

-- one more line is numbered, where other bytes stand before the lines
pub number_more : (start bytes next line : List ℕ) (had : List (List ℕ)) (first number : ℕ) → number ≡ first + length had → bytes ≡ start ++ file_of (numbered first had)
    → next ≡ bytes ++ (with_number number line ++ 10 ∷ []) → next ≡ start ++ file_of (numbered first (had ++ line ∷ []))
number_more start bytes next line had first number number_is done next_is =
    let form = file_of (numbered first had) in
    let new = with_number number line in
    next_is ∙ ap (λ (l : List ℕ). l ++ (new ++ 10 ∷ [])) done ∙ append_assoc start form (new ++ 10 ∷ [])
    ∙ ap (λ (l : List ℕ). start ++ l)
    (sym (append_assoc form new (10 ∷ [])) ∙ file_of-more (numbered first had) new ∙ ap (λ (n : ℕ). file_of (numbered first had ++ with_number n line ∷ [])) number_is
    ∙ ap file_of (sym (numbered-more first had line)))

length-cut_out : (text : List (List ℕ)) (top i : ℕ) → top + i < length text → length (cut_out text top i) ≡ i
length-cut_out text top i below = omega (arith, below, length-take i (drop top text), length-drop top text)

-- one more line of a text
pub number_line : (text : List (List ℕ)) (bytes next line : List ℕ) (first top i : ℕ) → top + i < length text
    → bytes ≡ file_of (numbered first (cut_out text top i)) → line ≡ get_or text (top + i) []
    → next ≡ bytes ++ (with_number (first + i) line ++ 10 ∷ [])
    → next ≡ file_of (numbered first (cut_out text top (i + 1)))
number_line text bytes next line first top i below done line_is next_is =
    let had : List (List ℕ) = cut_out text top i in
    let more : had ++ line ∷ [] ≡ cut_out text top (i + 1) = ap (λ x. had ++ x ∷ []) line_is ∙ cut_out-more text top i below in
    number_more [] bytes next line had first (first + i) (omega (arith, length-cut_out text top i below)) done next_is ∙ ap (λ lines. file_of (numbered first lines)) more

-- a line that was added has bytes
pub pushed_some : (bytes next line : List ℕ) → next ≡ bytes ++ (line ++ 10 ∷ []) → 0 < length next
pushed_some bytes next line is = omega (arith, ap (λ (l : List ℕ). length l) is, length-append bytes (line ++ 10 ∷ []), length-append line (10 ∷ []))

-- there are as many numbered lines as lines
length-numbered : (first : ℕ) (lines : List (List ℕ)) → length (numbered first lines) ≡ length lines
length-numbered first [] = refl
length-numbered first (line ∷ lines) = omega (arith, length-numbered (first + 1) lines)

-- some lines have bytes, with their numbers and without
pub lines_some : (start next : List ℕ) (lines : List (List ℕ)) → next ≡ start ++ file_of lines → 0 < length lines → 0 < length next
lines_some start next lines is some = omega (arith, some, many-bytes lines, length-file_of lines, ap (λ (l : List ℕ). length l) is, length-append start (file_of lines))

pub numbered_some : (start next : List ℕ) (first : ℕ) (lines : List (List ℕ)) → next ≡ start ++ file_of (numbered first lines) → 0 < length lines → 0 < length next
numbered_some start next first lines is some = lines_some start next (numbered first lines) is (omega (arith, some, length-numbered first lines))

-- the line after so many others
module _ (bytes : List ℕ) (ended : file_of (lines_of bytes) ≡ bytes) (i from len : ℕ) (below : i < length (lines_of bytes))
    (from_is : from ≡ bytes_of (take i (lines_of bytes))) (found : IsFirstLength (take (length bytes - from) (drop from bytes)) len) where
  pub room-after : from + (len + 1) ≤ length bytes
  room-after =
      omega (
        arith,
        next-within (lines_of bytes) bytes i from len (IsText-lines_of bytes) below (sym ended) from_is found,
        length-file_of (lines_of bytes),
        ap (λ (l : List ℕ). length l) ended,
      )

  pub bytes-after : from + len + 1 ≡ bytes_of (take (i + 1) (lines_of bytes))
  bytes-after = omega (arith, next-size (lines_of bytes) bytes i from len (IsText-lines_of bytes) below (sym ended) from_is found)

  pub number-after : (start old new line : List ℕ) (first : ℕ) → old ≡ start ++ file_of (numbered first (take i (lines_of bytes))) → line ≡ take (from + len - from) (drop from bytes)
      → new ≡ old ++ (with_number (first + i) line ++ 10 ∷ []) → new ≡ start ++ file_of (numbered first (take (i + 1) (lines_of bytes)))
  number-after start old new line first done line_is new_is =
      let lines = lines_of bytes in
      let more : take i lines ++ line ∷ [] ≡ take (i + 1) lines =
      ap (λ l. take i lines ++ l ∷ []) (line_is ∙ line-is lines bytes i from len (IsText-lines_of bytes) below (sym ended) from_is found (from + len) refl) ∙ sym (take_more lines i [] below) in
      number_more start old new line (take i lines) first (first + i) (omega (arith, below, length-take i lines)) done new_is ∙ ap (λ l. start ++ file_of (numbered first l)) more
