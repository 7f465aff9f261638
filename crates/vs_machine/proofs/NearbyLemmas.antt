-- Lines that were read together stay those of a text as the first ones go and others come.
use Rattle.std.proofs.Common.{◌≡◌, ◌∙◌, ℕ, ◌+◌, ◌≤◌, List, [], ◌++◌, length, take, drop, ap, sym, arith, length-append, length-drop, length-take}
use Rattle.std.proofs.Math.Seq.{take-add}
use Rattle.std.proofs.lemmas.List.{drop-drop, drop-take, take-take}
use Rattle.std.proofs.lemmas.List.Elements.{All-take}
use Rattle.vs_text.specs.Text.{IsLine, IsText, file_of, lines_of}
use Rattle.vs_text.proofs.FileForm.{lines_of-file_of}
use Rattle.vs_edit.specs.Splices.{cut_out}

module _ (text lines : List (List ℕ)) (top : ℕ) (are : lines ≡ cut_out text top (length lines)) where
  -- the first lines go
  pub passed-are : (past now : ℕ) → past ≤ length lines → now ≡ top + past → drop past lines ≡ cut_out text now (length (drop past lines))
  passed-are past now within now_is =
      let left = length (drop past lines) in
      let size : length lines ≡ past + left = omega (arith, within, length-drop past lines) in
      ap (drop past) are ∙ ap (λ n. drop past (take n (drop top text))) size ∙ drop-take past left (drop top text)
      ∙ ap (take left) (drop-drop past top text ∙ ap (λ n. drop n text) (sym now_is))

  -- the lines after the last one come
  pub more-are : (more : List (List ℕ)) (next : ℕ) → next ≡ top + length lines → more ≡ cut_out text next (length more) → lines ++ more ≡ cut_out text top (length (lines ++ more))
  more-are more next next_is more_are =
      let held = length lines in
      let rest : drop next text ≡ drop held (drop top text) = ap (λ n. drop n text) next_is ∙ sym (drop-drop held top text) in
      ap (λ l. l ++ more) are ∙ ap (λ l. take held (drop top text) ++ l) (more_are ∙ ap (take (length more)) rest)
      ∙ sym (take-add held (length more) (drop top text)) ∙ ap (λ n. take n (drop top text)) (sym (length-append lines more))

  -- the first of them
  pub first-are : (count : ℕ) → count ≤ length lines → take count lines ≡ cut_out text top count
  first-are count within = ap (take count) are ∙ take-take count (length lines) (drop top text) within

-- the bytes of the first of some lines, which were put into an empty vector
module _ (lines : List (List ℕ)) (count : ℕ) (start put bytes : List ℕ) (text : IsText lines) (empty : start ≡ []) (added : put ≡ start ++ file_of (take count lines)) (is : bytes ≡ put) where
  bytes-are : bytes ≡ file_of (take count lines)
  bytes-are = is ∙ added ∙ ap (λ l. l ++ file_of (take count lines)) empty

  -- tell the lines
  pub lines-told : lines_of bytes ≡ take count lines
  lines-told = ap lines_of bytes-are ∙ lines_of-file_of (take count lines) (All-take IsLine count lines text)

  pub told-ended : file_of (lines_of bytes) ≡ bytes
  told-ended = ap file_of lines-told ∙ sym bytes-are

  pub told-counted : count ≤ length lines → length (lines_of bytes) ≡ count
  told-counted within = omega (arith, within, ap (λ (l : List (List ℕ)). length l) lines-told, length-take count lines)
