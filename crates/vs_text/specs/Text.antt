-- Lines and texts, and the forms in which files and swap files hold them.
use Rattle.std.specs.Prelude.{ℕ, ◌≢◌, ◌+◌, ◌==◌, if◌then◌else◌, Bool, List, [], ◌∷◌, ◌++◌, length, map, All}
use Rattle.std.specs.List.{flat_map}

-- A line has no byte 10.
abbrev pub IsLine : List ℕ → Type 0
IsLine bytes = All (λ byte. byte ≢ 10) bytes

-- Each line of a text has no byte 10.
abbrev pub IsText : List (List ℕ) → Type 0
IsText text = All IsLine text

-- a byte before the first line, or a line of its own where there is none
abbrev pub onto_first : ℕ → List (List ℕ) → List (List ℕ)
onto_first byte [] = (byte ∷ []) ∷ []
onto_first byte (line ∷ lines) = (byte ∷ line) ∷ lines

-- the text of a file: byte 10 ends a line, and a rest that is not empty is a last line
abbrev pub lines_of : List ℕ → List (List ℕ)
lines_of [] = []
lines_of (byte ∷ bytes) = if byte == 10 then [] ∷ lines_of bytes else onto_first byte (lines_of bytes)

-- the file form of a text: each line followed by byte 10
abbrev pub file_of : List (List ℕ) → List ℕ
file_of text = flat_map (λ line. line ++ 10 ∷ []) text

-- the number of bytes of a text, with one for each line end
abbrev pub bytes_of : List (List ℕ) → ℕ
bytes_of [] = 0
bytes_of (line ∷ text) = length line + 1 + bytes_of text

-- byte 0 stands as byte 10 in a stored line
abbrev pub stored_byte : ℕ → ℕ
stored_byte byte = if byte == 0 then 10 else byte

-- byte 10 of a stored line stands for byte 0
abbrev pub plain_byte : ℕ → ℕ
plain_byte byte = if byte == 10 then 0 else byte

-- the stored form of a line
abbrev pub stored_line : List ℕ → List ℕ
stored_line line = map stored_byte line

-- the line of a stored form
abbrev pub plain_line : List ℕ → List ℕ
plain_line bytes = map plain_byte bytes

-- the stored form of a text: that of each line, and one empty line for the text without lines
abbrev pub stored : List (List ℕ) → List (List ℕ)
stored [] = [] ∷ []
stored (line ∷ text) = map stored_line (line ∷ text)

-- the text of a stored form, where it is known whether the text has no lines
abbrev pub unstored : Bool → List (List ℕ) → List (List ℕ)
unstored empty lines = if empty then [] else map plain_line lines
