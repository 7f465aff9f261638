-- Whose line a line of the script of two sessions is.
use Rattle.std.specs.Prelude.{ℕ, nat_eq, if◌then◌else◌, List, [], ◌∷◌, drop, codes}
use Rattle.std.specs.List.{starts_with}
use Rattle.vs_family.specs.declared.which.Which.{Which}
use Rattle.vs_family.specs.declared.which.Which.TheVariants.{One, Two}

-- a line of the script of one session, without the two bytes before it, or of none
pub data Tag : Type 0 where
  LineOf : Which → List ℕ → Tag
  LineOfNone : Tag

-- whose line it is, by its first two bytes
abbrev pub tag_of : List ℕ → Tag
tag_of line =
    if starts_with nat_eq line (codes "1:") then LineOf One (drop 2 line)
    else (if starts_with nat_eq line (codes "2:") then LineOf Two (drop 2 line) else LineOfNone)

-- one of these, as both sessions are the same or not
abbrev pub if_same : {X : Type 0} → Which → Which → X → X → X
if_same One One same other = same
if_same One Two same other = other
if_same Two One same other = other
if_same Two Two same other = same

-- the line before those of this session, where it is one of them
abbrev pub line_for : Which → Tag → List (List ℕ) → List (List ℕ)
line_for which (LineOf whose line) lines = if_same which whose (line ∷ lines) lines
line_for which LineOfNone lines = lines

-- the script of one session
abbrev pub lines_for : Which → List (List ℕ) → List (List ℕ)
lines_for which [] = []
lines_for which (line ∷ lines) = line_for which (tag_of line) (lines_for which lines)
