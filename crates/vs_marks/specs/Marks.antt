-- Marked lines of a text, by their numbers.
use Rattle.std.specs.Prelude.{ℕ, ◌+◌, ◌-◌, ◌<◌, ◌≤◌, ⊤, if◌then◌else◌, nat_lt, List, [], ◌∷◌, ◌++◌, All, length, drop, map, reverse, Option, Some, None}
use Rattle.std.specs.List.{filter_map}
use Rattle.vs_marks.specs.declared.marks.Marks.{Marks}

-- Where a marked line stands once `new` lines have come in the place of `old` lines from line `top` on. Of those lines, the first
-- new one stands for the first old one, and so on: a line beyond the new ones is gone.
abbrev pub mark_after : ℕ → ℕ → ℕ → ℕ → Option ℕ
mark_after top old new line = if nat_lt line (top + old) then (if nat_lt line (top + new) then Some line else None) else Some (line + new - old)

abbrev pub marks_after : ℕ → ℕ → ℕ → List ℕ → List ℕ
marks_after top old new lines = filter_map (mark_after top old new) lines

-- Numbers in their order, each once.
abbrev pub Ascends : List ℕ → Type 0
Ascends [] = ⊤
Ascends (line ∷ lines) = All (λ other. line < other) lines × Ascends lines

-- the marked lines before some line, and those after it
abbrev pub near_of : Marks → List ℕ
near_of marks = drop marks.from marks.near.items

abbrev pub far_in : ℕ → List ℕ → List ℕ
far_in lead far = map (λ line. line - lead) (reverse far)

abbrev pub far_of : Marks → List ℕ
far_of marks = far_in marks.lead marks.far.items

abbrev pub lines_of : Marks → List ℕ
lines_of marks = near_of marks ++ far_of marks

-- The marks may be used.
pub record IsSound (marks : Marks) : Type 0 where
  pub from_within : marks.from ≤ length marks.near.items
  pub led : All (λ line. marks.lead ≤ line) marks.far.items
  pub ascends : Ascends (lines_of marks)
  pub within : All (λ line. line < marks.lines) (lines_of marks)
