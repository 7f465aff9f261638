-- Lines that are passed in search of a text.
use Rattle.std.specs.Prelude.{ℕ, ◌+◌, ◌≤◌, ◌<◌, List, [], All, Some, None, length, take, get_or}
use Rattle.memchr.specs.Find.{FindsNeedle}
use Rattle.vs_text.specs.Text.{bytes_of}

-- A text stands nowhere in a line.
abbrev pub Lacks : List ℕ → List ℕ → Type 0
Lacks needle line = FindsNeedle line needle 0 None

-- A text stands in a line, first at this place.
pub record FindsIn (needle line : List ℕ) : Type 0 where
  pub place : ℕ
  pub first : FindsNeedle line needle 0 (Some place)

-- Of these lines the first `count` lack a text, and it stands in the next one, where there is one.
pub record PassesTo (needle : List ℕ) (lines : List (List ℕ)) (count : ℕ) : Type 0 where
  pub lacking : All (Lacks needle) (take count lines)
  pub stands : count < length lines → FindsIn needle (get_or lines count [])

-- A place among the bytes of these lines, each with its newline, lies in line `count`.
pub record IsInLine (lines : List (List ℕ)) (count place : ℕ) : Type 0 where
  pub from : bytes_of (take count lines) ≤ place
  pub to : place ≤ bytes_of (take count lines) + length (get_or lines count [])
