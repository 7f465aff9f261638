-- The file form is read back line by line.
use Rattle.std.proofs.Common.{◌≡◌, ℕ, ◌+◌, List, [], ◌∷◌, ◌++◌, length, refl, ap, ◌∙◌, arith, append_assoc, length-append}
use Rattle.std.specs.List.{AllByRecursion}
use Rattle.std.proofs.lemmas.List.Elements.{recursion_from_All}
use Rattle.vs_text.specs.Text.{lines_of, file_of, bytes_of, IsLine, IsText}
use Rattle.vs_text.proofs.LineEnds.{lines_of-line}

reads_back : (text : List (List ℕ)) → AllByRecursion IsLine text → lines_of (file_of text) ≡ text
reads_back [] h = refl
reads_back (line ∷ text) h =
    ap lines_of (append_assoc line (10 ∷ []) (file_of text)) ∙ (lines_of-line line (file_of text) h.0 ∙ ap (λ rest. line ∷ rest) (reads_back text h.1))

-- reading what was written gives the text
pub lines_of-file_of : (text : List (List ℕ)) → IsText text → lines_of (file_of text) ≡ text
lines_of-file_of text h = reads_back text (recursion_from_All IsLine text h)

-- the number of bytes with one for each line end is the length of the file form
pub length-file_of : (text : List (List ℕ)) → length (file_of text) ≡ bytes_of text
length-file_of [] = refl
length-file_of (line ∷ text) =
    omega (arith, length-append (line ++ 10 ∷ []) (file_of text), length-append line (10 ∷ []), length-file_of text)

pub bytes_of-append : (a b : List (List ℕ)) → bytes_of (a ++ b) ≡ bytes_of a + bytes_of b
bytes_of-append [] b = omega arith
bytes_of-append (line ∷ a) b = omega (arith, bytes_of-append a b)
