-- Patterns and replacements have no byte 10, and a pattern finds some byte.
use Rattle.std.proofs.Common.{◌≡◌, ◌≢◌, ◌<◌, ◌==◌, ℕ, List, [], ◌∷◌, length, map, flat_map, Bool, true, false, not, if◌then◌else◌, refl, arith}
use Rattle.std.specs.List.{list_all}
use Rattle.std.proofs.lemmas.List.Elements.{All-append, All-nil, All-cons}
use Rattle.vs_text.specs.Text.{IsLine}
use Rattle.vs_exparse.specs.Bytes.{is_empty}
use Rattle.vs_exparse.specs.Pieces.{pieces_of, pieces_after, literal_of, replaced_by, is_pattern, is_replacement, in_pattern, in_replacement, is_plain}
use Rattle.vs_exparse.specs.declared.pieces.Piece.{Piece}
use Rattle.vs_exparse.proofs.ClashLemmas.{and-first, and-second}

pattern-byte : (e : Bool) (byte : ℕ) → in_pattern (record { escaped = e; byte = byte }) ≡ true → byte ≢ 10
pattern-byte true byte is = λ ten. let bad = rw ten at is in cc
pattern-byte false byte is = λ ten. let bad = rw ten at is in cc

bytes-line : (pieces : List Piece) → list_all in_pattern pieces ≡ true → IsLine (map (λ piece. piece.byte) pieces)
bytes-line [] all = All-nil (λ byte. byte ≢ 10)
bytes-line (piece ∷ pieces) all =
    All-cons (λ byte. byte ≢ 10) piece.byte (map (λ piece. piece.byte) pieces)
    (pattern-byte piece.escaped piece.byte (and-first (in_pattern piece) (list_all in_pattern pieces) all))
    (bytes-line pieces (and-second (in_pattern piece) (list_all in_pattern pieces) all))

pub literal-line : (pattern : List ℕ) → is_pattern pattern ≡ true → IsLine (literal_of pattern)
literal-line pattern is = bytes-line (pieces_of pattern) (and-second (not (is_empty pattern)) (list_all in_pattern (pieces_of pattern)) is)

escaped-some : (text : List ℕ) → 0 < length (map (λ (piece : Piece). piece.byte) (pieces_after true text))
escaped-some [] = omega arith
escaped-some (byte ∷ text) = omega arith

some-by : (byte : ℕ) (text : List ℕ) (b : Bool) → (byte == 92) ≡ b → 0 < length (literal_of (byte ∷ text))
some-by byte text true is = rw is (escaped-some text)
some-by byte text false is = rw is (omega arith)

pub literal-some : (pattern : List ℕ) → is_pattern pattern ≡ true → 0 < length (literal_of pattern)
literal-some [] is = cc
literal-some (byte ∷ text) is = some-by byte text (byte == 92) refl

replacement-byte : (e : Bool) (byte : ℕ) → in_replacement (record { escaped = e; byte = byte }) ≡ true → byte ≢ 10
replacement-byte true byte is = λ ten. let bad = rw ten at is in cc
replacement-byte false byte is = λ ten. let bad = rw ten at is in cc

part-line : (found : List ℕ) (piece : Piece) (b : Bool) → IsLine found → in_replacement piece ≡ true → IsLine (if b then found else piece.byte ∷ [])
part-line found piece true found_line is = found_line
part-line found piece false found_line is = All-cons (λ byte. byte ≢ 10) piece.byte [] (replacement-byte piece.escaped piece.byte is) (All-nil (λ byte. byte ≢ 10))

parts-line : (found : List ℕ) (pieces : List Piece) → IsLine found → list_all in_replacement pieces ≡ true →
    IsLine (flat_map (λ piece. if is_plain 38 piece then found else piece.byte ∷ []) pieces)
parts-line found [] found_line all = All-nil (λ byte. byte ≢ 10)
parts-line found (piece ∷ pieces) found_line all =
    All-append (λ byte. byte ≢ 10) (if is_plain 38 piece then found else piece.byte ∷ []) (flat_map (λ piece. if is_plain 38 piece then found else piece.byte ∷ []) pieces)
    (part-line found piece (is_plain 38 piece) found_line (and-first (in_replacement piece) (list_all in_replacement pieces) all))
    (parts-line found pieces found_line (and-second (in_replacement piece) (list_all in_replacement pieces) all))

pub replacement-line : (found written : List ℕ) → IsLine found → is_replacement written ≡ true → IsLine (replaced_by found written)
replacement-line found written found_line is = parts-line found (pieces_of written) found_line is
