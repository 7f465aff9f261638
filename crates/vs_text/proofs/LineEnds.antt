-- Where byte 10 first stands, the first line ends and the rest of the file's text begins.
use Rattle.std.proofs.Common.{◌≡◌, ◌≢◌, ℕ, ◌<◌, ◌≤◌, ◌+◌, List, [], ◌∷◌, ◌++◌, length, refl, arith, max, inl, inr}
use Rattle.std.proofs.lemmas.Bool.{ne_eqb}
use Rattle.std.proofs.lemmas.Bool.Decides.{eqb_tells}
use Rattle.std.proofs.lemmas.List.Elements.{recursion_from_All, All-nil, All-cons, All-head, All-tail}
use Rattle.std.specs.List.{AllByRecursion}
use Rattle.vs_text.specs.Text.{lines_of, onto_first, bytes_of, IsLine, IsText}

ended_line : (line rest : List ℕ) → AllByRecursion (λ byte. byte ≢ 10) line → lines_of (line ++ 10 ∷ rest) ≡ line ∷ lines_of rest
ended_line [] rest h = refl
ended_line (byte ∷ bytes) rest h = rw (ne_eqb byte 10 h.0, ended_line bytes rest h.1) refl

-- a line, its end, and what follows
pub lines_of-line : (line rest : List ℕ) → IsLine line → lines_of (line ++ 10 ∷ rest) ≡ line ∷ lines_of rest
lines_of-line line rest h = ended_line line rest (recursion_from_All (λ byte. byte ≢ 10) line h)

last_line : (byte : ℕ) (line : List ℕ) → byte ≢ 10 → AllByRecursion (λ byte. byte ≢ 10) line → lines_of (byte ∷ line) ≡ (byte ∷ line) ∷ []
last_line byte [] h hs = rw (ne_eqb byte 10 h) refl
last_line byte (next ∷ line) h hs = rw (ne_eqb byte 10 h, last_line next line hs.0 hs.1) refl

-- a last line without an end
pub lines_of_last : (line : List ℕ) → 0 < length line → IsLine line → lines_of line ≡ line ∷ []
lines_of_last [] some h = absurd (omega arith)
lines_of_last (byte ∷ line) some h =
    let r = recursion_from_All (λ byte. byte ≢ 10) (byte ∷ line) h in last_line byte line r.0 r.1

length-onto_first : (byte : ℕ) (text : List (List ℕ)) → length (onto_first byte text) ≤ length text + 1
length-onto_first byte [] = omega arith
length-onto_first byte (line ∷ text) = omega arith

bytes_of-onto_first : (byte : ℕ) (text : List (List ℕ)) → bytes_of (onto_first byte text) ≤ max (bytes_of text) 1 + 1
bytes_of-onto_first byte [] = omega arith
bytes_of-onto_first byte (line ∷ text) = omega arith

-- a file has no more lines than bytes
pub length-lines_of : (bytes : List ℕ) → length (lines_of bytes) ≤ length bytes
length-lines_of [] = omega arith
length-lines_of (byte ∷ bytes) = elim (eqb_tells byte 10) [
  | inl ten ↦ rw ten.0 (omega (arith, length-lines_of bytes))
  | inr other ↦ rw other.0 (omega (arith, length-lines_of bytes, length-onto_first byte (lines_of bytes)))
]

-- the bytes of a text are those of its file, and at most one more
pub bytes_of-lines_of : (bytes : List ℕ) → bytes_of (lines_of bytes) ≤ length bytes + 1
bytes_of-lines_of [] = omega arith
bytes_of-lines_of (byte ∷ bytes) = elim (eqb_tells byte 10) [
  | inl ten ↦ rw ten.0 (omega (arith, bytes_of-lines_of bytes))
  | inr other ↦ rw other.0 (omega (arith, bytes_of-lines_of bytes, bytes_of-onto_first byte (lines_of bytes)))
]

onto_first_text : (byte : ℕ) (text : List (List ℕ)) → byte ≢ 10 → IsText text → IsText (onto_first byte text)
onto_first_text byte [] other h =
    All-cons IsLine (byte ∷ []) [] (All-cons (λ b. b ≢ 10) byte [] other (All-nil (λ b. b ≢ 10))) (All-nil IsLine)
onto_first_text byte (line ∷ text) other h =
    All-cons IsLine (byte ∷ line) text (All-cons (λ b. b ≢ 10) byte line other (All-head IsLine line text h)) (All-tail IsLine line text h)

-- no line of a file has byte 10
pub IsText-lines_of : (bytes : List ℕ) → IsText (lines_of bytes)
IsText-lines_of [] = All-nil IsLine
IsText-lines_of (byte ∷ bytes) = elim (eqb_tells byte 10) [
  | inl ten ↦ rw ten.0 (All-cons IsLine [] (lines_of bytes) (All-nil (λ b. b ≢ 10)) (IsText-lines_of bytes))
  | inr other ↦ rw other.0 (onto_first_text byte (lines_of bytes) other.1 (IsText-lines_of bytes))
]
