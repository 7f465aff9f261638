-- A text with its format, and the bytes of a file that stand for both.
use Rattle.std.specs.Prelude.{ℕ, ◌≡◌, ◌≢◌, ◌⊎◌, ◌==◌, ◌&&◌, ◌||◌, not, if◌then◌else◌, Bool, true, false, List, [], ◌∷◌, ◌++◌}
use Rattle.std.specs.List.{flat_map, list_any}
use Rattle.vs_text.specs.Text.{lines_of}
use Rattle.vs_text.specs.declared.format.Format.{Format}
use Rattle.vs_text.specs.declared.format.Format.TheVariants.{Unix, Dos}

-- a text, and how its lines end in its file
pub record Document : Type 0 where
  pub text : List (List ℕ)
  pub format : Format

-- the bytes that end a line
abbrev pub line_end : Format → List ℕ
line_end Unix = 10 ∷ []
line_end Dos = 13 ∷ 10 ∷ []

-- the file form of a text: each line followed by the line end
abbrev pub file_in : Format → List (List ℕ) → List ℕ
file_in format text = flat_map (λ line. line ++ line_end format) text

-- the last of some bytes, or the byte before them where there are none
abbrev pub last_byte : ℕ → List ℕ → ℕ
last_byte before [] = before
last_byte before (byte ∷ bytes) = last_byte byte bytes

-- whether some line ends
abbrev pub has_end : List ℕ → Bool
has_end [] = false
has_end (byte ∷ bytes) = (byte == 10) || has_end bytes

-- whether some byte 10 stands directly after another byte than 13, where this byte stands before all
abbrev pub has_unix_end : ℕ → List ℕ → Bool
has_unix_end before [] = false
has_unix_end before (byte ∷ bytes) = ((byte == 10) && not (before == 13)) || has_unix_end byte bytes

-- the format of a file: dos exactly where a line ends and each byte 10 stands directly after a byte 13
abbrev pub format_of : List ℕ → Format
format_of bytes = if has_end bytes && not (has_unix_end 0 bytes) then Dos else Unix

-- whether a line ends before all others
abbrev pub begins_with_end : List ℕ → Bool
begins_with_end [] = false
begins_with_end (byte ∷ bytes) = byte == 10

-- the bytes without the byte 13 before each byte 10
abbrev pub plain_ends : List ℕ → List ℕ
plain_ends [] = []
plain_ends (byte ∷ bytes) = if (byte == 13) && begins_with_end bytes then plain_ends bytes else byte ∷ plain_ends bytes

-- The bytes of a line lost one byte 13 at their end, if they had one.
abbrev pub LosesReturn : List ℕ → List ℕ → Type 0
LosesReturn line front = (line ≡ front ++ 13 ∷ []) ⊎ ((line ≡ front) × (last_byte 10 line ≢ 13))

-- the bytes of a file of this format, with byte 10 alone as each line end
abbrev pub plain_in : Format → List ℕ → List ℕ
plain_in Unix bytes = bytes
plain_in Dos bytes = plain_ends bytes

-- the lines of a file of this format: those of its bytes, where in a dos file each line that ended lost the byte 13 at its end
abbrev pub lines_in : Format → List ℕ → List (List ℕ)
lines_in format bytes = lines_of (plain_in format bytes)

-- the document of a file
abbrev pub document_of : List ℕ → Document
document_of bytes = record { text = lines_in (format_of bytes) bytes; format = format_of bytes }

-- whether the bytes of a line before its end end in another byte than 13
abbrev pub ends_otherwise : List ℕ → Bool
ends_otherwise line = not (last_byte 10 line == 13)

-- whether the file form of a text in a format has this format: in dos where it has a line, in unix where it has none or one that
-- does not end in byte 13
abbrev pub keeps_format : Format → List (List ℕ) → Bool
keeps_format Dos [] = false
keeps_format Dos (line ∷ text) = true
keeps_format Unix [] = true
keeps_format Unix (line ∷ text) = list_any ends_otherwise (line ∷ text)
