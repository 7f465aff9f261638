-- Where the ways of two states meet, and which states are the children last used of their parents.
use Rattle.std.specs.Prelude.{ℕ, ◌≡◌, List, [], ◌∷◌, ◌++◌}
use Rattle.vs_undo.specs.declared.meeting.Meeting.{Meeting}
use Rattle.vs_undo.specs.declared.parts.Node.{Node}
use Rattle.vs_undo.specs.declared.parts.Parts.{Parts}
use Rattle.vs_undo.specs.Ways.{start, start_below, IsWayOf}
use Rattle.vs_undo.specs.Sound.{child_of}
use Rattle.vs_undo.specs.History.{with_child}

-- Each state on a way is the child last used of its parent.
abbrev pub IsUsed : Parts → List ℕ → Type 0
IsUsed parts [] = Unit {0}
IsUsed parts (number ∷ way) = (child_of parts (start way) ≡ number) × IsUsed parts way

-- Each state on the way of the current one is the child last used of its parent.
abbrev pub IsSettled : Parts → Type 0
IsSettled parts = (way : List ℕ) → IsWayOf parts.nodes parts.current way → IsUsed parts way

-- the tree where each state on a part of a way that ends below a state is the child last used of its parent
abbrev pub used_below : List ℕ → ℕ → Parts → Parts
used_below [] top parts = parts
used_below (number ∷ way) top parts = used_below way top (with_child (start_below way top) number parts)

-- The ways of two states go up to one state, from which both go on together.
pub record Meets (nodes : List Node) (a b : ℕ) (meeting : Meeting) : Type 0 where
  pub rest : List ℕ
  pub top : start rest ≡ meeting.top
  pub from : IsWayOf nodes a (meeting.from.items ++ rest)
  pub to : IsWayOf nodes b (meeting.to.items ++ rest)

-- The way of the current state and that of another one do, and above that each state is the child last used of its parent.
pub record IsMeeting (parts : Parts) (number : ℕ) (meeting : Meeting) : Type 0 where
  pub meets : Meets parts.nodes parts.current number meeting
  pub in_use : IsUsed parts meets.rest
