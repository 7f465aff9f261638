-- Trees whose blocks are not thin.
use Rattle.std.specs.Prelude.{◌≡◌, ℕ, zero, suc, ◌+◌, ◌-◌, ◌*◌, ◌^◌, ◌<◌, ◌≤◌, List, ◌∷◌, ◌++◌, length, take, drop, Some, if◌then◌else◌, nat_lt, ⊤}
use Rattle.std.specs.List.{flat_map, AllByRecursion}
use Rattle.vs_pages.specs.Maps.{Map, pages_at}
use Rattle.vs_tree_shape.specs.declared.entries.Entry.{Entry}
use Rattle.vs_tree_shape.specs.declared.entries.Place.{Place}
use Rattle.vs_tree_shape.specs.Places.{IsPlace}
use Rattle.vs_tree_shape.specs.Trees.{Format, read_by, Tree, lines_of, HasLines}

-- No data block is without lines, and each pointer block has at least so many entries.
abbrev pub IsFilled : ℕ → (d : ℕ) → Tree d → Type 0
IsFilled least zero t = 1 ≤ length t.lines
IsFilled least (suc d) t = (least ≤ length t.1) × AllByRecursion (λ u. IsFilled least d u) t.1

-- the least number of entries of block 1: two where they lead to pointer blocks
abbrev pub root_least : ℕ → ℕ
root_least zero = 1
root_least (suc zero) = 1
root_least (suc (suc d)) = 2

-- The same for the tree from block 1 on, which may have fewer entries itself.
abbrev pub IsFilledRoot : ℕ → (d : ℕ) → Tree d → Type 0
IsFilledRoot least zero t = 1 ≤ length t.lines
IsFilledRoot least (suc d) t = (root_least (suc d) ≤ length t.1) × AllByRecursion (λ u. IsFilled least d u) t.1

-- The pages have a filled tree, whose data blocks lie this deep: each pointer block but block 1 has at least 32 entries.
pub record HasFilled (c : Format) (m : Map) (depth : ℕ) : Type 0 where
  pub lines : List (List ℕ)
  pub has : HasLines c m depth lines
  pub filled : IsFilledRoot 32 depth has.tree

-- A filled tree has many lines where block 1 leads to pointer blocks, and so few levels where it has no more lines than a text.
abbrev pub IsLowWhereFilled : Format → Type 0
IsLowWhereFilled c = (m : Map) (depth : ℕ) (lines : List (List ℕ)) → HasFilled c m depth → HasLines c m depth lines
    → (2 ≤ depth → 2 * 32 ^ (depth - 1) ≤ length lines) × (length lines ≤ 4000000 → depth ≤ 5)

-- The tree below an entry is filled, as the pages have it.
abbrev pub HasFilledBelow : Format → Map → ℕ → ℕ → Entry → Type 0
HasFilledBelow c m least zero e =
    (lines : List (List ℕ)) × (read_by (c.lines e.pages) (pages_at m e.block e.pages) ≡ Some lines) × (1 ≤ length lines)
HasFilledBelow c m least (suc d) e =
    (es : List Entry) × (read_by c.entries (pages_at m e.block 1) ≡ Some es) × (least ≤ length es)
    × AllByRecursion (λ (x : Entry). HasFilledBelow c m least d x) es

-- so it is below each of some entries
abbrev pub AllFilledBelow : Format → Map → ℕ → ℕ → List Entry → Type 0
AllFilledBelow c m least d es = AllByRecursion (λ (e : Entry). HasFilledBelow c m least d e) es

-- The same for the tree from block 1 on.
abbrev pub HasFilledRoot : Format → Map → ℕ → ℕ → Type 0
HasFilledRoot c m least depth =
    (es : List Entry) × (read_by c.entries (pages_at m 1 1) ≡ Some es) × (root_least depth ≤ length es)
    × AllFilledBelow c m least (depth - 1) es

-- the tree below which a line lies
pub record Way (d : ℕ) (kids : List (Tree d)) (at : ℕ) : Type 0 where
  pub before : List (Tree d)
  pub child : Tree d
  pub after : List (Tree d)
  pub rest : ℕ
  pub cut : kids ≡ before ++ child ∷ after
  pub sum : at ≡ length (flat_map (λ u. lines_of d u) before) + rest
  pub inside : rest < length (lines_of d child)

-- The line is there, and all blocks but those on the way to it are filled. The data block on the way has this line.
abbrev pub IsFilledBut : ℕ → (d : ℕ) → Tree d → ℕ → Type 0
IsFilledBut least zero t at = at < length t.lines
IsFilledBut least (suc d) t at =
    (w : Way d t.1 at) × AllByRecursion (λ u. IsFilled least d u) w.before
    × AllByRecursion (λ u. IsFilled least d u) w.after × IsFilledBut least d w.child w.rest

-- The pages have a tree that is filled but for the blocks on the way to a line.
pub record HasFilledBut (c : Format) (m : Map) (depth at : ℕ) : Type 0 where
  pub lines : List (List ℕ)
  pub has : HasLines c m depth lines
  pub filled : IsFilledBut 32 depth has.tree at

-- The tree below an entry is filled but for the blocks on the way to a line, as the pages have it. Data blocks are not looked at.
abbrev pub HasFilledBelowBut : Format → Map → ℕ → ℕ → Entry → ℕ → Type 0
HasFilledBelowBut c m least zero e at = ⊤
HasFilledBelowBut c m least (suc d) e at =
    (es : List Entry) × (read_by c.entries (pages_at m e.block 1) ≡ Some es) × (place : Place) × IsPlace es at place
    × AllFilledBelow c m least d (take place.index es) × AllFilledBelow c m least d (drop (place.index + 1) es)
    × HasFilledBelowBut c m least d place.entry place.rest

-- so it is below some entries
abbrev pub AllFilledBut : Format → Map → ℕ → ℕ → List Entry → ℕ → Type 0
AllFilledBut c m least d es at =
    (place : Place) × IsPlace es at place × AllFilledBelow c m least d (take place.index es)
    × AllFilledBelow c m least d (drop (place.index + 1) es) × HasFilledBelowBut c m least d place.entry place.rest

-- The same for the tree from block 1 on.
abbrev pub HasFilledRootBut : Format → Map → ℕ → ℕ → ℕ → Type 0
HasFilledRootBut c m least depth at =
    (es : List Entry) × (read_by c.entries (pages_at m 1 1) ≡ Some es) × AllFilledBut c m least (depth - 1) es at

-- How many lines before a line that is taken out one lies on whose way the same block is then: none where the block, to which the
-- entry leads, has lines after it.
abbrev pub steps_back : Entry → ℕ → ℕ
steps_back entry rest = if nat_lt (rest + 1) entry.lines then 0 else 1
