-- The kept numbers in rising order, and those some places before or after one of them.
use Rattle.std.specs.Prelude.{ℕ, ◌-◌, nat_lt, min, List, ◌∷◌, length, map, get_or}
use Rattle.std.specs.List.{filter}
use Rattle.vs_undo.specs.declared.parts.Node.{Node}

-- the numbers that are kept, that of the root first
abbrev pub numbers : List Node → List ℕ
numbers nodes = 0 ∷ map (λ (node : Node). node.number) nodes

-- the kept numbers below one
abbrev pub below : List Node → ℕ → List ℕ
below nodes number = filter (λ n. nat_lt n number) (numbers nodes)

-- the kept numbers above one
abbrev pub above : List Node → ℕ → List ℕ
above nodes number = filter (λ n. nat_lt number n) (numbers nodes)

-- the kept number so many places below one, or the oldest where there are fewer
abbrev pub nth_below : List Node → ℕ → ℕ → ℕ
nth_below nodes number by = get_or (below nodes number) (length (below nodes number) - by) 0

-- the kept number so many places above one, or the last where there are fewer
abbrev pub nth_above : List Node → ℕ → ℕ → ℕ
nth_above nodes number by = get_or (above nodes number) (min by (length (above nodes number)) - 1) 0
