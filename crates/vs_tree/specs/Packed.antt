-- Runs of stored lines that are as full as a page allows, and the data blocks that they stand in.
use Rattle.std.specs.Prelude.{◌≡◌, ℕ, ◌+◌, ◌-◌, ◌<◌, ◌≤◌, ◌⊎◌, ◌++◌, IsTrue, List, [], ◌∷◌, length, map, ⊤}
use Rattle.vs_data.specs.Blocks.{space_of}
use Rattle.vs_pages.specs.declared.pages.Pages.{Ghosts}
use Rattle.vs_text.specs.Text.{file_of, lines_of, stored_line}
use Rattle.vs_tree_shape.specs.DataBlocks.{lines_in_blocks}
use Rattle.vs_tree_blocks.specs.Cuts.{all_lines}
use Rattle.vs_tree_blocks.specs.Fills.{AllHaveLines}
use Rattle.vs_tree.specs.DataBlocks.{blocks_shown}
use Rattle.vs_tree.specs.Texts.{tree_lines}
use Rattle.vs_tree.specs.declared.texts.Extent.{Extent}
use Rattle.vs_tree.specs.declared.walk.Root.{Root}

-- Beside the lines of a run a page has no room for the first of the lines after them.
abbrev pub IsFullBefore : List (List ℕ) → List (List ℕ) → Type 0
IsFullBefore run [] = ⊤
IsFullBefore run (next ∷ after) = 4072 < space_of run + (length next + 5)

-- Each run is full before the first line of the next one, and the last run before the first of the lines after them.
abbrev pub ArePacked : List (List (List ℕ)) → List (List ℕ) → Type 0
ArePacked [] after = ⊤
ArePacked (run ∷ runs) after = IsFullBefore run (all_lines runs ++ after) × ArePacked runs after

-- the lines of some bytes in their stored form
abbrev pub stored_lines : List ℕ → List (List ℕ)
stored_lines bytes = map stored_line (lines_of bytes)

-- Each line of the bytes has its line end.
abbrev pub IsWhole : List ℕ → Type 0
IsWhole bytes = file_of (lines_of bytes) ≡ bytes

-- A page has room for the lines of the run, or it is one line alone.
abbrev pub IsPageful : List (List ℕ) → Type 0
IsPageful run = (space_of run ≤ 4072) ⊎ (length run ≤ 1)

-- The first run stands in one data block, from this line on. The data blocks behind that one are the other runs, one each. Where there
-- are others, the first run ends its block.
pub record StandInRow (all : List (List (List ℕ))) (at : ℕ) (first : List (List ℕ)) (runs : List (List (List ℕ))) : Type 0 where
  pub front : List (List (List ℕ))
  pub before : List (List ℕ)
  pub behind : List (List ℕ)
  pub back : List (List (List ℕ))
  pub all_are : all ≡ front ++ (before ++ (first ++ behind)) ∷ (runs ++ back)
  pub place : at ≡ lines_in_blocks front + length before
  pub ends : 1 ≤ length runs → behind ≡ []

-- Lines have data blocks of their own behind that of a run. Each of these blocks is full before the first line of the next one, and the
-- last before the first of the lines after them.
pub record HaveBlocks (all : List (List (List ℕ))) (at : ℕ) (first lines after : List (List ℕ)) : Type 0 where
  pub runs : List (List (List ℕ))
  pub lines_are : lines ≡ all_lines runs
  pub each : AllHaveLines runs
  pub packed : ArePacked runs after
  pub row : StandInRow all at first runs

-- Lines stand packed in the data blocks from this line on: first a run for which a page has room, in one block, which is full before the
-- lines behind it. Those have data blocks of their own.
pub record ArePut (all : List (List (List ℕ))) (at : ℕ) (lines after : List (List ℕ)) : Type 0 where
  pub first : List (List ℕ)
  pub rest : List (List ℕ)
  pub lines_are : lines ≡ first ++ rest
  pub some : 1 ≤ length first
  pub page : IsPageful first
  pub full : IsFullBefore first (rest ++ after)
  pub blocks : HaveBlocks all at first rest after

-- So they stand but for some before them, no more than so many.
pub record ArePutBut (all : List (List (List ℕ))) (most at : ℕ) (lines : List (List ℕ)) : Type 0 where
  pub lead : List (List ℕ)
  pub others : List (List ℕ)
  pub lines_are : lines ≡ lead ++ others
  pub few : length lead ≤ most
  pub put : 1 ≤ length others → ArePut all (at + length lead) others []

-- So these lines stand in the data blocks of the tree.
abbrev pub PacksTree : {P : Type 0} → Ghosts P → P → ℕ → ℕ → List (List ℕ) → Type 0
PacksTree g s height at lines = IsTrue g.tells → 1 ≤ length lines → ArePut (blocks_shown g s height) at lines []

-- The lines of the run stand in one data block of the tree, from this line on.
abbrev pub HoldsRun : {P : Type 0} → Ghosts P → P → ℕ → ℕ → List (List ℕ) → Type 0
HoldsRun g s height at run = IsTrue g.tells → StandInRow (blocks_shown g s height) at run []

-- Where a run was the last in the tree, these lines have data blocks of their own behind it.
abbrev pub PacksBehind : {P : Type 0} → Ghosts P → P → P → Root → Root → List (List ℕ) → Type 0
PacksBehind g old new root now lines =
    IsTrue g.tells → (at : ℕ) (run : List (List ℕ)) → root.lines ≡ at + length run → 1 ≤ length run
    → StandInRow (blocks_shown g old root.height) at run [] → HaveBlocks (blocks_shown g new now.height) at run lines []

-- So the lines that came after the last one stand in the tree of the text: all of them, but for the first one where the text was
-- without lines. That one came in place of the empty line in the tree.
abbrev pub PacksText : {P : Type 0} → Ghosts P → P → Extent → Extent → List (List ℕ) → Type 0
PacksText g s before after lines =
    IsTrue g.tells → ArePutBut (blocks_shown g s after.height) (tree_lines before.lines - before.lines) before.lines (map stored_line lines)
