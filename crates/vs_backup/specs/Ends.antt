-- How the lines that are copied out of a store, each of which ends in byte 10, end in a file.
use Rattle.std.specs.Prelude.{ℕ, ◌==◌, if◌then◌else◌, List, [], ◌∷◌}
use Rattle.vs_text.specs.declared.format.Format.{Format}
use Rattle.vs_text.specs.declared.format.Format.TheVariants.{Unix, Dos}

-- the bytes with a byte 13 before each byte 10
abbrev pub dos_ends : List ℕ → List ℕ
dos_ends [] = []
dos_ends (byte ∷ bytes) = if byte == 10 then 13 ∷ 10 ∷ dos_ends bytes else byte ∷ dos_ends bytes

-- the bytes with the line ends of a format in place of each byte 10
abbrev pub ends_in : Format → List ℕ → List ℕ
ends_in Unix bytes = bytes
ends_in Dos bytes = dos_ends bytes
