-- The lines of ended lines and what follows them.
use Rattle.std.proofs.Common.{◌≡◌, ℕ, List, [], ◌∷◌, ◌++◌, refl, ap, ◌∙◌, append_assoc, append-nil}
use Rattle.std.specs.List.{AllByRecursion}
use Rattle.std.proofs.lemmas.List.Elements.{recursion_from_All}
use Rattle.std.proofs.lemmas.Grind.{flat_map-append}
use Rattle.vs_text.specs.Text.{lines_of, file_of, IsLine, IsText}
use Rattle.vs_text.proofs.LineEnds.{lines_of-line}

file_then : (ended : List (List ℕ)) (rest : List ℕ) → AllByRecursion IsLine ended → lines_of (file_of ended ++ rest) ≡ ended ++ lines_of rest
file_then [] rest h = refl
file_then (line ∷ ended) rest h =
    let first : file_of (line ∷ ended) ++ rest ≡ line ++ 10 ∷ (file_of ended ++ rest) = simp append_assoc in
    ap lines_of first ∙ (lines_of-line line (file_of ended ++ rest) h.0 ∙ ap (λ lines. line ∷ lines) (file_then ended rest h.1))

-- the lines of ended lines and what follows
pub lines_of-file_then : (ended : List (List ℕ)) (rest : List ℕ) → IsText ended → lines_of (file_of ended ++ rest) ≡ ended ++ lines_of rest
lines_of-file_then ended rest h = file_then ended rest (recursion_from_All IsLine ended h)

-- a line that ends
pub file_of-one_more : (ended : List (List ℕ)) (line : List ℕ) → file_of (ended ++ line ∷ []) ≡ file_of ended ++ (line ++ 10 ∷ [])
file_of-one_more ended line = flat_map-append (λ l. l ++ 10 ∷ []) ended (line ∷ []) ∙ ap (λ xs. file_of ended ++ xs) (append-nil (line ++ 10 ∷ []))
