-- Byte 10 is in no line and byte 0 in no stored line, so each takes the other's place without loss.
use Rattle.std.proofs.Common.{◌≡◌, ◌≢◌, ℕ, suc, ◌+◌, ◌<◌, ◌≤◌, false, List, [], ◌∷◌, ◌++◌, length, map, take, drop, set, get_or, append-nil, refl, sym, ap, ◌∙◌, arith, All, ◌==◌}
use Rattle.std.specs.List.{AllByRecursion}
use Rattle.std.proofs.lemmas.Bool.Decides.{nat_tests}
use Rattle.std.proofs.lemmas.List.Elements.{recursion_from_All, All-from_recursion}
use Rattle.std.proofs.lemmas.List.{take_all, drop_all, get_or_default}
use Rattle.std.proofs.lemmas.List.Edits.{map_over_more}
use Rattle.vs_text.specs.Text.{stored_byte, plain_byte, stored_line, plain_line, stored, unstored, IsLine, IsText}

plain_stored : (byte : ℕ) → byte ≢ 10 → plain_byte (stored_byte byte) ≡ byte
plain_stored byte h = grind (arith, nat_tests)

stored_not_zero : (byte : ℕ) → stored_byte byte ≢ 0
stored_not_zero byte = λ zero. grind (arith, nat_tests)

plain_not_ten : (byte : ℕ) → plain_byte byte ≢ 10
plain_not_ten byte = λ ten. grind (arith, nat_tests)

line_back : (line : List ℕ) → AllByRecursion (λ byte. byte ≢ 10) line → plain_line (stored_line line) ≡ line
line_back [] h = refl
line_back (byte ∷ line) h = rw (plain_stored byte h.0, line_back line h.1) refl

-- the stored form of a line leads back to it
pub plain_line-stored_line : (line : List ℕ) → IsLine line → plain_line (stored_line line) ≡ line
plain_line-stored_line line h = line_back line (recursion_from_All (λ byte. byte ≢ 10) line h)

no_zero : (line : List ℕ) → AllByRecursion (λ byte. byte ≢ 0) (stored_line line)
no_zero [] = tt
no_zero (byte ∷ line) = (stored_not_zero byte, no_zero line)

-- a stored line has no zero byte
pub stored_line_no_zero : (line : List ℕ) → All (λ byte. byte ≢ 0) (stored_line line)
stored_line_no_zero line = All-from_recursion (λ byte. byte ≢ 0) (stored_line line) (no_zero line)

no_ten : (bytes : List ℕ) → AllByRecursion (λ byte. byte ≢ 10) (plain_line bytes)
no_ten [] = tt
no_ten (byte ∷ bytes) = (plain_not_ten byte, no_ten bytes)

-- the line of any stored form has no byte 10
pub IsLine-plain_line : (bytes : List ℕ) → IsLine (plain_line bytes)
IsLine-plain_line bytes = All-from_recursion (λ byte. byte ≢ 10) (plain_line bytes) (no_ten bytes)

lines_back : (text : List (List ℕ)) → AllByRecursion IsLine text → map plain_line (map stored_line text) ≡ text
lines_back [] h = refl
lines_back (line ∷ text) h = rw (plain_line-stored_line line h.0, lines_back text h.1) refl

some_lines : (n : ℕ) → (suc n == 0) ≡ false
some_lines n = grind (arith, nat_tests)

-- the stored form and the knowledge whether there are lines lead back to the text
pub unstored-stored : (text : List (List ℕ)) → IsText text → unstored (length text == 0) (stored text) ≡ text
unstored-stored [] h = refl
unstored-stored (line ∷ text) h =
    ap (λ none. unstored none (stored (line ∷ text))) (some_lines (length text)) ∙ lines_back (line ∷ text) (recursion_from_All IsLine (line ∷ text) h)

-- two texts with one stored form are one, where both have lines or neither has
pub same_from_stored : (a b : List (List ℕ)) → IsText a → IsText b → (length a == 0) ≡ (length b == 0) → stored a ≡ stored b → a ≡ b
same_from_stored a b ha hb empty same =
    sym (unstored-stored a ha) ∙ (ap (λ none. unstored none (stored a)) empty ∙ (ap (unstored (length b == 0)) same ∙ unstored-stored b hb))

-- one more byte of a line is rewritten in its place
pub mapped_more : (f : ℕ → ℕ) (xs ys : List ℕ) (i byte : ℕ) → i < length xs → length ys ≡ length xs → byte ≡ f (get_or ys i 0)
    → ys ≡ map f (take i xs) ++ drop i xs → set ys i byte ≡ map f (take (i + 1) xs) ++ drop (i + 1) xs
mapped_more f xs ys i byte within long is mapped =
    let here = get_or ys i 0 in
    rw is (map_over_more f xs ys i here within mapped (get_or_default ys i 0 here (omega arith)))

-- every byte of a line has been rewritten in its place
pub mapped_all : (f : ℕ → ℕ) (xs ys : List ℕ) (i : ℕ) → length xs ≤ i → ys ≡ map f (take i xs) ++ drop i xs → ys ≡ map f xs
mapped_all f xs ys i past mapped =
    mapped ∙ (rw (take_all i xs past, drop_all i xs past) (append-nil (map f xs)))
