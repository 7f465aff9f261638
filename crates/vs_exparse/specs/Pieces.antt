-- Patterns and replacements as they are written: bytes, each with or without a backslash in front.
use Rattle.std.specs.Prelude.{ℕ, Bool, true, false, ◌==◌, ◌&&◌, ◌+◌, not, if◌then◌else◌, List, [], ◌∷◌, take, drop, map, flat_map, codes}
use Rattle.std.specs.List.{list_all}
use Rattle.vs_exparse.specs.Bytes.{is_empty, is_one_of}
use Rattle.vs_exparse.specs.declared.pieces.Piece.{Piece}

abbrev pub plain : ℕ → Piece
plain byte = record { escaped = false; byte = byte }

abbrev pub escaped : ℕ → Piece
escaped byte = record { escaped = true; byte = byte }

-- the pieces of a text that stands after a backslash, or does not. A backslash at the end is a piece of its own.
abbrev pub pieces_after : Bool → List ℕ → List Piece
pieces_after false [] = []
pieces_after true [] = plain 92 ∷ []
pieces_after true (byte ∷ text) = escaped byte ∷ pieces_after false text
pieces_after false (byte ∷ text) = if byte == 92 then pieces_after true text else plain byte ∷ pieces_after false text

abbrev pub pieces_of : List ℕ → List Piece
pieces_of text = pieces_after false text

-- how many bytes a piece takes
abbrev pub width_of : Piece → ℕ
width_of piece = if piece.escaped then 2 else 1

abbrev pub is_plain : ℕ → Piece → Bool
is_plain byte piece = not piece.escaped && (piece.byte == byte)

-- how many bytes stand before the first plain slash; all of them where there is none
abbrev pub width_to_slash : List Piece → ℕ
width_to_slash [] = 0
width_to_slash (piece ∷ pieces) = if is_plain 47 piece then 0 else width_of piece + width_to_slash pieces

abbrev pub field_len : List ℕ → ℕ
field_len text = width_to_slash (pieces_of text)

-- what stands before the first plain slash, and what stands after it
abbrev pub field_of : List ℕ → List ℕ
field_of text = take (field_len text) text

abbrev pub after_field : List ℕ → List ℕ
after_field text = drop (field_len text + 1) text

-- In a pattern only a backslash and a slash are escaped, and they always are. A line end is no byte of a pattern.
abbrev pub in_pattern : Piece → Bool
in_pattern piece = if piece.escaped then is_one_of (codes "\\/") piece.byte else not (is_one_of (codes "\\/\n") piece.byte)

abbrev pub is_pattern : List ℕ → Bool
is_pattern text = not (is_empty text) && list_all in_pattern (pieces_of text)

-- In a replacement an ampersand, a backslash, a slash and a tilde may be escaped, and the last three always are.
-- A carriage return and a line end are no bytes of a replacement.
abbrev pub in_replacement : Piece → Bool
in_replacement piece = if piece.escaped then is_one_of (codes "&\\/~") piece.byte else not (is_one_of (codes "\\/~\r\n") piece.byte)

abbrev pub is_replacement : List ℕ → Bool
is_replacement text = list_all in_replacement (pieces_of text)

-- the bytes that a pattern finds
abbrev pub literal_of : List ℕ → List ℕ
literal_of pattern = map (λ piece. piece.byte) (pieces_of pattern)

-- what is put in the place of a match: a plain ampersand is the match
abbrev pub replaced_by : List ℕ → List ℕ → List ℕ
replaced_by found replacement = flat_map (λ piece. if is_plain 38 piece then found else piece.byte ∷ []) (pieces_of replacement)
