-- Lines that are read, one more at a time.
use Rattle.std.proofs.Common.{◌≡◌, ◌<◌, ◌+◌, ℕ, List, [], ◌∷◌, ◌++◌, All, length, get_or, ap, sym, subst, ◌∙◌, arith, append_assoc, length-append}
use Rattle.std.proofs.lemmas.List.Elements.{All-push}
use Rattle.vs_text.specs.Text.{bytes_of}
use Rattle.vs_text.specs.Limits.{IsShort}
use Rattle.vs_text.proofs.FileForm.{bytes_of-append}
use Rattle.vs_edit.specs.Splices.{cut_out}
use Rattle.vs_edit.proofs.FileForm.{cut_out-more}

-- a list to which the lines that were cut out so far went, and one line more
pub pushed : (text start now new : List (List ℕ)) (top i : ℕ) (line : List ℕ) → top + i < length text → now ≡ start ++ cut_out text top i →
    line ≡ get_or text (top + i) [] → new ≡ now ++ line ∷ [] → new ≡ start ++ cut_out text top (i + 1)
pushed text start now new top i line below so_far is put =
    put ∙ ap (λ xs. xs ++ line ∷ []) so_far ∙ append_assoc start (cut_out text top i) (line ∷ [])
    ∙ ap (λ xs. start ++ xs) (ap (λ x. cut_out text top i ++ x ∷ []) is ∙ cut_out-more text top i below)

-- the bytes of lines that are cut out, and of one line more
pub bytes-more : (text : List (List ℕ)) (top i : ℕ) → top + i < length text → bytes_of (cut_out text top (i + 1)) ≡ bytes_of (cut_out text top i) + length (get_or text (top + i) []) + 1
bytes-more text top i below =
    ap bytes_of (sym (cut_out-more text top i below)) ∙ bytes_of-append (cut_out text top i) (get_or text (top + i) [] ∷ []) ∙ omega arith

-- short lines, and one more
pub pushed-short : (now new : List (List ℕ)) (line read : List ℕ) → new ≡ now ++ line ∷ [] → line ≡ read → All IsShort now → IsShort read → All IsShort new
pushed-short now new line read put is all short =
    subst (All IsShort) (sym put) (All-push IsShort now line all (subst IsShort (sym is) short))

-- a list that has one line more than it had
pub pushed-count : (start now new : List (List ℕ)) (i : ℕ) (line : List ℕ) → length now ≡ length start + i → new ≡ now ++ line ∷ [] → length new ≡ length start + (i + 1)
pushed-count start now new i line so_far put = omega (arith, so_far, ap (λ (l : List (List ℕ)). length l) put, length-append now (line ∷ []))
