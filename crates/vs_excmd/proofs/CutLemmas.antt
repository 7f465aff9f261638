-- Lines, one more at a time.
use Rattle.std.proofs.Common.{◌≡◌, ◌+◌, ℕ, List, [], ◌∷◌, ◌++◌, length, ap, arith}
use Rattle.vs_text.specs.Text.{bytes_of}
use Rattle.vs_text.proofs.FileForm.{bytes_of-append}

-- the bytes of lines, and of one line more
pub pushed-bytes : (lines new : List (List ℕ)) (line : List ℕ) (bytes more : ℕ) → bytes ≡ bytes_of lines → new ≡ lines ++ line ∷ [] → more ≡ bytes + length line + 1 → more ≡ bytes_of new
pushed-bytes lines new line bytes more counted is sum =
    omega (arith, counted, sum, ap bytes_of is, bytes_of-append lines (line ∷ []))
