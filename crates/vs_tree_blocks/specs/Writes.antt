-- What calls leave of the pages of a store: blocks in place of a block, and how many pages were worked.
use Rattle.std.specs.Prelude.{◌≡◌, ℕ, ◌+◌, ◌≤◌, IsTrue, List, [], ◌∷◌, length, map, Some, IsSome}
use Rattle.std.specs.List.{AllByRecursion, flat_map}
use Rattle.vs_pages.specs.Maps.{Map, lacks, one, span, total, pages_at}
use Rattle.vs_pages.specs.declared.pages.Pages.{Ghosts}
use Rattle.vs_data.specs.Blocks.{lines_in}
use Rattle.vs_tree_shape.specs.declared.entries.Entry.{Entry}
use Rattle.vs_tree_shape.specs.Places.{lines_below}
use Rattle.vs_tree_shape.specs.Trees.{Leaf, Tree, entry_of, leaf, lines_of, uses}
use Rattle.vs_tree_shape.specs.Changes.{Below, Replaces, ReplacedBy}
use Rattle.vs_tree_shape.specs.Works.{Works, WorksBesideZero}
use Rattle.vs_tree_blocks.specs.Blocks.{tree_format, lines_at, FitsFields}

-- Data blocks with these lines stand in place of what used these pages, and the entries lead to them.
pub record HasBlocks (m n : Map) (old : ℕ → ℕ) (blocks : List (List (List ℕ))) (entries : List Entry) : Type 0 where
  pub leaves : List Leaf
  pub entries_are : entries ≡ map (λ u. entry_of 0 u) leaves
  pub replaces : Replaces tree_format m n old 0 leaves
  pub blocks_are : map (λ (u : Leaf). u.lines) leaves ≡ blocks

-- In place of a data block of one page at most three stand, with these lines, and their entries have room in a pointer block.
pub record IsWritten (Told : Type 0) (m n : Map) (block : ℕ) (blocks : List (List (List ℕ))) (entries : List Entry) : Type 0 where
  pub stand : Told → HasBlocks m n (λ k. span block 1 k) blocks entries
  pub fields : AllByRecursion FitsFields entries
  pub few : length entries ≤ 3
  pub lines : lines_below entries ≡ total (λ (ls : List (List ℕ)). length ls) blocks

-- the same over a store, where it tells its pages
abbrev pub Writes : {P : Type 0} → Ghosts P → P → P → ℕ → List (List (List ℕ)) → List Entry → Type 0
Writes g old new block blocks entries = IsWritten (IsTrue g.tells) (g.shows old).present (g.shows new).present block blocks entries

-- at most so many different pages were worked, beside page 0
abbrev pub WorksBy : {P : Type 0} → Ghosts P → P → P → ℕ → Type 0
WorksBy g old new count = WorksBesideZero (g.shows old).worked (g.shows new).worked count

-- the same where the store tells its pages
abbrev pub Touches : {P : Type 0} → Ghosts P → P → P → ℕ → Type 0
Touches g old new count = IsTrue g.tells → WorksBy g old new count

-- At most so many different pages were worked, where the store tells its pages.
abbrev pub TouchesOnly : {P : Type 0} → Ghosts P → P → P → ℕ → Type 0
TouchesOnly g old new count = IsTrue g.tells → Works (g.shows old).worked (g.shows new).worked count

-- All pages that were there but that of the block are as they were.
abbrev pub Spares : {P : Type 0} → Ghosts P → P → P → ℕ → Type 0
Spares g old new block =
    IsTrue g.tells → (k : ℕ) → one block k ≡ 0 → lacks ((g.shows old).present k) ≡ 0 → (g.shows new).present k ≡ (g.shows old).present k

-- a block of one page has these bytes
abbrev pub HasPage : {P : Type 0} → Ghosts P → P → ℕ → List ℕ → Type 0
HasPage g s block bytes = IsTrue g.tells → pages_at (g.shows s).present block 1 ≡ Some bytes

-- the page is there
abbrev pub IsThere : {P : Type 0} → Ghosts P → P → ℕ → Type 0
IsThere g s block = IsTrue g.tells → IsSome (pages_at (g.shows s).present block 1)

-- What holds of the lines of a data block, where the store tells them.
abbrev pub OfLines : {P : Type 0} → Ghosts P → P → Entry → (List (List ℕ) → Type 0) → Type 0
OfLines g s entry Holds = IsTrue g.tells → (lines : List (List ℕ)) → lines_at (g.shows s).present entry.block entry.pages ≡ Some lines → Holds lines

-- what holds of the lines of a data block in memory
abbrev pub OfBlock : List ℕ → (List (List ℕ) → Type 0) → Type 0
OfBlock bytes Holds = (lines : List (List ℕ)) → lines_in bytes ≡ Some lines → Holds lines

-- Data blocks with these lines stand in place of a data block.
abbrev pub LeavesBlocks : {P : Type 0} → Ghosts P → P → P → Entry → List (List (List ℕ)) → List Entry → Type 0
LeavesBlocks g old new entry blocks entries =
    IsTrue g.tells → HasBlocks (g.shows old).present (g.shows new).present (λ k. span entry.block entry.pages k) blocks entries

-- Data blocks with these lines were added, to which the entries lead.
abbrev pub AddsBlocks : {P : Type 0} → Ghosts P → P → P → List (List (List ℕ)) → List Entry → Type 0
AddsBlocks g old new blocks entries = IsTrue g.tells → HasBlocks (g.shows old).present (g.shows new).present (λ k. 0) blocks entries

-- Data blocks with these lines stand in place of a data block of one page.
abbrev pub StandsIn : {P : Type 0} → Ghosts P → P → P → ℕ → List (List (List ℕ)) → List Entry → Type 0
StandsIn g old new block blocks entries = IsTrue g.tells → HasBlocks (g.shows old).present (g.shows new).present (λ k. span block 1 k) blocks entries

-- Data blocks with these lines stand behind a data block, which is as it was.
abbrev pub StandsBefore : {P : Type 0} → Ghosts P → P → P → Entry → List (List (List ℕ)) → List Entry → Type 0
StandsBefore g old new entry blocks entries = OfLines g old entry (λ lines.
    HasBlocks (g.shows old).present (g.shows new).present (λ k. span entry.block entry.pages k) (lines ∷ blocks) entries)

-- A data block with these lines was added, to which the entry leads.
abbrev pub AddsBlock : {P : Type 0} → Ghosts P → P → P → Entry → List (List ℕ) → Type 0
AddsBlock g old new entry lines =
    IsTrue g.tells → Replaces tree_format (g.shows old).present (g.shows new).present (λ k. 0) 0 (leaf entry.block entry.pages lines ∷ [])

-- Trees with these lines stand in place of a data block.
abbrev pub Leaves : {P : Type 0} → Ghosts P → P → P → Entry → List (List ℕ) → List Entry → Type 0
Leaves g old new entry lines entries = ReplacedBy tree_format (g.shows old).present (g.shows new).present (λ k. span entry.block entry.pages k) 0 lines entries

-- In place of a pointer block over trees to which the entries lead, these entries lead to trees with the same lines. They
-- lie as deep as is said for each depth of those trees.
abbrev pub StandsOver : {P : Type 0} → Ghosts P → P → P → ℕ → (ℕ → ℕ) → List Entry → List Entry → Type 0
StandsOver g old new block depth entries above =
    IsTrue g.tells → (d : ℕ) (kids : List (Tree d)) → Below tree_format (g.shows old).present block d kids entries
    → ReplacedBy tree_format (g.shows old).present (g.shows new).present (λ k. one block k + total (λ u. uses d u k) kids)
    (depth d) (flat_map (λ u. lines_of d u) kids) above
