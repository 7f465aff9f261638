-- A name as it is put together.
use Rattle.std.specs.Prelude.{ℕ, ◌-◌, ◌==◌, nat_eq, nat_le, if◌then◌else◌, List, [], ◌∷◌, ◌++◌, length, get_or, codes}
use Rattle.std.specs.List.{starts_with}
use Rattle.vs_host.specs.Disk.{Name}
use Rattle.vs_family.specs.declared.pieces.Pieces.{Pieces}

-- the bytes of a name in pieces
abbrev pub spelled : Pieces → List ℕ
spelled name = name.dot.now ++ (name.stem.now ++ name.letter ∷ (name.ending.now ++ name.made.now))

-- what stands before a name to hide it
abbrev pub dot_of : Name → Name
dot_of file = if starts_with nat_eq file (codes ".") then [] else codes "."

-- The pieces of the names under which a session leaves files, by the place of a name among them: the dot before those of the swap files
-- and of the undo file,
abbrev pub dot_at : Name → ℕ → Name
dot_at file number = if nat_le 1 number then (if nat_le number 3 then dot_of file else []) else []

-- the letter in the place of the last byte of the file's name,
abbrev pub letter_at : Name → ℕ → ℕ
letter_at file number = if nat_le 5 number then 122 - (number - 5) else get_or file (length file - 1) 0

-- and the ending
abbrev pub ending_at : ℕ → Name
ending_at number =
    if number == 0 then [] else
    (if number == 1 then codes ".swp" else (if number == 2 then codes ".swo" else (if number == 3 then codes ".un~" else codes "~")))
