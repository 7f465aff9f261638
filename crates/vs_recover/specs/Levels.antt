-- A level of a tree: all blocks that lie equally deep, in order.
use Rattle.std.specs.Prelude.{◌≡◌, ℕ, zero, suc, ◌+◌, ◌≤◌, ◌&&◌, nat_le, nat_lt, nat_eq, Bool, true, if◌then◌else◌, List, [], ◌∷◌, ◌++◌, length, map}
use Rattle.std.specs.Prelude.{Option, Some, None}
use Rattle.std.specs.List.{flat_map, AllByRecursion}
use Rattle.vs_pages.specs.Maps.{Map, total, span, pages_at}
use Rattle.vs_tree_shape.specs.declared.entries.Entry.{Entry}
use Rattle.vs_tree_shape.specs.Places.{lines_below}
use Rattle.vs_tree_shape.specs.Trees.{Format, read_by, Tree, lines_of, uses, entry_of, IsTree}
use Rattle.vs_swap.specs.Files.{GivesLines, swap_format}

-- how often the tree uses a page, but for the pages of its root
abbrev pub below : (d : ℕ) → Tree d → ℕ → ℕ
below zero t k = 0
below (suc d) t k = total (λ u. uses d u k) t.1

-- how often the blocks of these entries use a page
abbrev pub taken : List Entry → ℕ → ℕ
taken entries k = total (λ (e : Entry). span e.block e.pages k) entries

-- These entries lead to trees, all so deep, with these lines. The pages of the trees' roots are among those in use, and the
-- trees use no other page that is in use, and none twice.
pub record Level (c : Format) (m : Map) (used : ℕ → ℕ) (d : ℕ) (entries : List Entry) (lines : List (List ℕ)) : Type 0 where
  pub trees : List (Tree d)
  pub each : AllByRecursion (λ u. IsTree c d m u) trees
  pub entries_are : map (λ u. entry_of d u) trees ≡ entries
  pub once : (k : ℕ) → used k + total (λ u. below d u k) trees ≤ 1
  pub lines_are : flat_map (λ u. lines_of d u) trees ≡ lines

-- one list before another, where both are there
abbrev pub chained : {X : Type 0} → Option (List X) → Option (List X) → Option (List X)
chained (Some xs) (Some ys) = Some (xs ++ ys)
chained (Some xs) None = None
chained None o = None

-- each of the entries has some pages
abbrev pub are_wide : List Entry → Bool
are_wide [] = true
are_wide (e ∷ es) = nat_le 1 e.pages && are_wide es

-- what was read of a pointer block, where its entry fits
abbrev pub fitting_points : Entry → Option (List Entry) → Option (List Entry)
fitting_points e None = None
fitting_points e (Some found) = if nat_eq e.pages 1 && (nat_eq (lines_below found) e.lines && are_wide found) then Some found else None

-- what was read of a data block, where its entry fits
abbrev pub fitting_lines : Entry → Option (List (List ℕ)) → Option (List (List ℕ))
fitting_lines e None = None
fitting_lines e (Some found) = if nat_le 1 e.pages && nat_eq (length found) e.lines then Some found else None

-- the entries of the pointer block that an entry leads to
abbrev pub points_at : Format → Map → Entry → Option (List Entry)
points_at c m e = fitting_points e (read_by c.entries (pages_at m e.block 1))

-- the lines of the data block that an entry leads to
abbrev pub lines_at : Format → Map → Entry → Option (List (List ℕ))
lines_at c m e = fitting_lines e (read_by (c.lines e.pages) (pages_at m e.block e.pages))

-- what each element gives, one after the other
abbrev pub chain : {X Y : Type 0} → (X → Option (List Y)) → List X → Option (List Y)
chain f [] = Some []
chain f (x ∷ xs) = chained (f x) (chain f xs)

-- the next level, where this one has pointer blocks alone
abbrev pub opened : Format → Map → List Entry → Option (List Entry)
opened c m entries = chain (λ e. points_at c m e) entries

-- the lines of a level of data blocks alone
abbrev pub gathered : Format → Map → List Entry → Option (List (List ℕ))
gathered c m entries = chain (λ e. lines_at c m e) entries

-- the pages in use before the first block is read: page 0, block 1 and all that are past the file's end
abbrev pub first_used : ℕ → ℕ → ℕ
first_used pages k = if nat_lt 1 k && nat_lt k pages then 0 else 1

-- lines that the tree from block 1 on has
abbrev pub Reaches : Map → List (List ℕ) → Type 0
Reaches m lines = (depth : ℕ) × GivesLines m depth lines

-- lines that a level has, however deep it lies
abbrev pub AtLevel : Map → (ℕ → ℕ) → List Entry → List (List ℕ) → Type 0
AtLevel m used entries lines = (d : ℕ) × Level swap_format m used d entries lines

-- The walk has come to this level: what the tree has is what the level has.
pub record Stage (m : Map) (used : ℕ → ℕ) (entries : List Entry) : Type 0 where
  pub down : (lines : List (List ℕ)) → Reaches m lines → AtLevel m used entries lines
  pub up : (lines : List (List ℕ)) → AtLevel m used entries lines → Reaches m lines

-- A next level would use a page twice.
abbrev pub Clashes : (ℕ → ℕ) → Option (List Entry) → Type 0
Clashes used found = (next : List Entry) → found ≡ Some next → (k : ℕ) × (2 ≤ used k + taken next k)
