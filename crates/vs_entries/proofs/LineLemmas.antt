-- Ended lines, one after the other.
use Rattle.std.proofs.Common.{◌≡◌, ℕ, ◌+◌, ◌-◌, ◌<◌, ◌≤◌, List, [], ◌∷◌, length, get_or, take, drop, refl, sym, ap, subst, ◌∙◌, arith, length-drop}
use Rattle.std.proofs.lemmas.List.{take_all}
use Rattle.std.proofs.lemmas.List.Elements.{All-drop, All-head}
use Rattle.vs_text.specs.Text.{IsLine, IsText, file_of, lines_of}
use Rattle.vs_text.proofs.FileForm.{lines_of-file_of}
use Rattle.vs_text.proofs.LineEnds.{IsText-lines_of}
use Rattle.vs_edit.specs.Splices.{HoldsLines}
use Rattle.vs_reads.proofs.ReadLemmas.{IsFirstLength, first-line, first-rest, first-within}

some-lines : (bytes : List ℕ) (lines : List (List ℕ)) → 0 < length bytes → file_of lines ≡ bytes → 0 < length lines
some-lines bytes [] some ended = absurd (omega (arith, some, ap (λ (xs : List ℕ). length xs) ended))
some-lines bytes (line ∷ lines) some ended = omega arith

parted : (lines : List (List ℕ)) → 0 < length lines → lines ≡ get_or lines 0 [] ∷ drop 1 lines
parted [] some = absurd (omega arith)
parted (line ∷ lines) some = refl

is-head : (lines : List (List ℕ)) → 0 < length lines → IsText lines → IsLine (get_or lines 0 [])
is-head [] some text = absurd (omega arith)
is-head (line ∷ lines) some text = All-head IsLine line lines text

-- The first of some ended lines has this length.
module _ (bytes : List ℕ) (len : ℕ) (some : 0 < length bytes) (ended : file_of (lines_of bytes) ≡ bytes) (found : IsFirstLength bytes len) where
  there : 0 < length (lines_of bytes)
  there = some-lines bytes (lines_of bytes) some ended

  pub within : len + 1 ≤ length bytes
  within = first-within bytes (lines_of bytes) len (IsText-lines_of bytes) there (sym ended) found

  front : take len bytes ≡ get_or (lines_of bytes) 0 []
  front = first-line bytes (lines_of bytes) len (IsText-lines_of bytes) there (sym ended) found

  back : drop (len + 1) bytes ≡ file_of (drop 1 (lines_of bytes))
  back = first-rest bytes (lines_of bytes) len (IsText-lines_of bytes) there (sym ended) found

  back-lines : lines_of (drop (len + 1) bytes) ≡ drop 1 (lines_of bytes)
  back-lines = ap lines_of back ∙ lines_of-file_of (drop 1 (lines_of bytes)) (All-drop IsLine 1 (lines_of bytes) (IsText-lines_of bytes))

  pub is-line : IsLine (take len bytes)
  is-line = subst IsLine (sym front) (is-head (lines_of bytes) there (IsText-lines_of bytes))

  pub in-lines : lines_of bytes ≡ take len bytes ∷ lines_of (drop (len + 1) bytes)
  in-lines = parted (lines_of bytes) there ∙ ap (λ (line : List ℕ). line ∷ drop 1 (lines_of bytes)) (sym front) ∙ ap (λ (lines : List (List ℕ)). take len bytes ∷ lines) (sym back-lines)

  pub still-ended : file_of (lines_of (drop (len + 1) bytes)) ≡ drop (len + 1) bytes
  still-ended = ap file_of back-lines ∙ sym back

pub tail-is : (bytes : List ℕ) (n : ℕ) → take (length bytes - n) (drop n bytes) ≡ drop n bytes
tail-is bytes n = take_all (length bytes - n) (drop n bytes) (omega (arith, length-drop n bytes))

pub held-lines : {count : ℕ} {bytes : List ℕ} (holds : HoldsLines count bytes) → lines_of bytes ≡ holds.lines
held-lines holds = ap lines_of holds.form ∙ lines_of-file_of holds.lines holds.is_text

pub held-ended : {count : ℕ} {bytes : List ℕ} → HoldsLines count bytes → file_of (lines_of bytes) ≡ bytes
held-ended holds = ap file_of (held-lines holds) ∙ sym holds.form
