-- While changes are dropped: those below another child of the oldest state become children of the oldest state themselves.
use Rattle.std.specs.Prelude.{ℕ, ◌≡◌, ◌≢◌, ◌<◌, ◌+◌, ◌==◌, ◌||◌, ◌&&◌, not, if◌then◌else◌, Bool, true, false, List, [], ◌∷◌, length, map, Some, None}
use Rattle.std.specs.Prelude.{unwrap_or, IsSome}
use Rattle.vs_undo.specs.declared.parts.Node.{Node}
use Rattle.vs_undo.specs.Ways.{node_at, parent_at, is_on, way_of}

-- a state is a child of the oldest state other than the one that stays
abbrev pub is_beside : ℕ → List Node → ℕ → Bool
is_beside child nodes number = not (number == child) && (unwrap_or (parent_at nodes number) 1 == 0)

-- a change whose parent is the oldest state
abbrev pub at_root : Node → Node
at_root node = record node { parent = 0 }

-- how many changes have another parent than the oldest state
abbrev pub deeper : List Node → ℕ
deeper [] = 0
deeper (node ∷ nodes) = (if node.parent == 0 then 0 else 1) + deeper nodes

-- Some changes beside a child of the oldest state have become children of that state, and all others are as they were.
pub record IsFlatter (child : ℕ) (nodes now : List Node) : Type 0 where
  pub numbers : map (λ (node : Node). node.number) now ≡ map (λ (node : Node). node.number) nodes
  pub none : node_at now 0 ≡ None
  pub outside : is_on (way_of nodes 0) child ≡ false
  pub top : parent_at now child ≡ Some 0
  pub same : (k : ℕ) → is_on (way_of nodes k) child ≡ true → node_at now k ≡ node_at nodes k
  pub past : (k p : ℕ) → parent_at now k ≡ Some p → is_on (way_of nodes k) child ≡ ((k == child) || is_on (way_of nodes p) child)
  pub up : (k p : ℕ) → parent_at now k ≡ Some p → p ≢ 0 → IsSome (node_at now p) × (length (way_of nodes p) < length (way_of nodes k))

-- No change lies below another child of the oldest state.
abbrev pub IsFlat : ℕ → List Node → Type 0
IsFlat child nodes = (k p : ℕ) → parent_at nodes k ≡ Some p → is_beside child nodes p ≡ false

-- a change stays where its parent is not the oldest state, or it is the child that stays
abbrev pub stays : ℕ → Node → Bool
stays child node = not (node.parent == 0) || (node.number == child)
