-- The data blocks of a tree in their order, each as the list of its lines, and how one of them is cut.
use Rattle.std.specs.Prelude.{◌≡◌, ℕ, zero, suc, ◌+◌, ◌<◌, List, [], ◌∷◌, ◌++◌, length, Option, Some, None, unwrap_or}
use Rattle.std.specs.List.{flat_map}
use Rattle.vs_pages.specs.Maps.{Map, pages_at, total}
use Rattle.vs_tree_shape.specs.declared.entries.Entry.{Entry}
use Rattle.vs_tree_shape.specs.Trees.{Format, read_by}

-- the one block that was read, or none
abbrev pub as_block : Option (List (List ℕ)) → List (List (List ℕ))
as_block (Some lines) = lines ∷ []
as_block None = []

-- The data blocks below a block of so many pages, where all of them are taken to lie so deep. A block that does not read has none.
abbrev pub read_blocks : Format → ℕ → Map → ℕ → ℕ → List (List (List ℕ))
read_blocks c zero m block pages = as_block (read_by (c.lines pages) (pages_at m block pages))
read_blocks c (suc d) m block pages = flat_map (λ (e : Entry). read_blocks c d m e.block e.pages) (unwrap_or (read_by c.entries (pages_at m block 1)) [])

-- the data blocks below some entries
abbrev pub blocks_below : Format → ℕ → Map → List Entry → List (List (List ℕ))
blocks_below c d m es = flat_map (λ (e : Entry). read_blocks c d m e.block e.pages) es

-- the number of lines of blocks
abbrev pub lines_in_blocks : List (List (List ℕ)) → ℕ
lines_in_blocks blocks = total (λ (lines : List (List ℕ)). length lines) blocks

-- Of all blocks the one with the line at this number is cut, and the others stay: others stand in its place, as is said of its lines
-- and of how many of them come before that line.
pub record Cuts (all : List (List (List ℕ))) (at : ℕ) (Into : List (List ℕ) → ℕ → List (List (List ℕ)) → Type 0) (after : List (List (List ℕ))) : Type 0 where
  pub front : List (List (List ℕ))
  pub here : List (List ℕ)
  pub back : List (List (List ℕ))
  pub rest : ℕ
  pub parts : List (List (List ℕ))
  pub all_are : all ≡ front ++ here ∷ back
  pub place : at ≡ lines_in_blocks front + rest
  pub inside : rest < length here
  pub into : Into here rest parts
  pub after_are : after ≡ front ++ (parts ++ back)
