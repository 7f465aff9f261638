-- Changes at a line, as the code is given them.
use Rattle.std.specs.Prelude.{◌≡◌, ◌≢◌, ℕ, ◌+◌, ◌*◌, ◌^◌, ◌<◌, ◌≤◌, nat_le, if◌then◌else◌, List, [], length, get_or, All, IsTrue, Some}
use Rattle.vs_data.specs.Blocks.{space_of}
use Rattle.vs_pages.specs.Maps.{Map, pages_at, span}
use Rattle.vs_pages.specs.declared.pages.Pages.{Ghosts}
use Rattle.vs_tree_shape.specs.declared.entries.Entry.{Entry}
use Rattle.vs_tree_shape.specs.Trees.{lines_of}
use Rattle.vs_tree_shape.specs.DataBlocks.{Cuts, blocks_below, read_blocks}
use Rattle.vs_tree_shape.specs.Changes.{Change, ChangesBelow, HasLineBelow, Takes, edited, splice}
use Rattle.vs_tree_shape.specs.Works.{Works, WorksBesideZero}
use Rattle.vs_tree_blocks.specs.Blocks.{data_lines, tree_format}
use Rattle.vs_tree_blocks.specs.Cuts.{all_lines, blocks_with, part, parted, room_in, spread}
use Rattle.vs_tree_blocks.specs.Runs.{lines_within}
use Rattle.vs_tree_blocks.specs.Writes.{HasBlocks, Leaves, OfLines, WorksBy}
use Rattle.vs_tree_blocks.specs.declared.edit.Edit.{Edit}
use Rattle.vs_tree_blocks.specs.declared.edit.Edited.{Edited}
use Rattle.vs_tree_blocks.specs.declared.edit.Edit.TheVariants.{Before, After, Behind, Remove}

-- the change that an edit makes, where it takes out so many lines
abbrev pub change_of : Edit → ℕ → Change
change_of (Before run) gone = record { skip = 0; gone = gone; new = run.now }
change_of (After run) gone = record { skip = 1; gone = gone; new = run.now }
change_of (Behind runs) gone = record { skip = 1; gone = gone; new = all_lines runs.now }
change_of (Remove most) gone = record { skip = 0; gone = gone; new = [] }

-- an edit that puts in few lines, in no more runs than a pointer block has entries for, or takes out some
abbrev pub IsEdit : Edit → Type 0
IsEdit (Before run) = length run.now < 2 ^ 62
IsEdit (After run) = length run.now < 2 ^ 62
IsEdit (Behind runs) = (length runs.now ≤ 126) × (length (all_lines runs.now) < 2 ^ 62)
IsEdit (Remove most) = 0 < most

-- how many lines an edit may take out
abbrev pub MayTake : Edit → ℕ → Type 0
MayTake (Before run) gone = gone ≡ 0
MayTake (After run) gone = gone ≡ 0
MayTake (Behind runs) gone = gone ≡ 0
MayTake (Remove most) gone = (0 < gone) × (gone ≤ most)

-- how many lines an edit puts in
abbrev pub added_by : Edit → ℕ
added_by (Before run) = length run.now
added_by (After run) = length run.now
added_by (Behind runs) = length (all_lines runs.now)
added_by (Remove most) = 0

-- a line for which a page has room
abbrev pub FitsPage : List ℕ → Type 0
FitsPage line = length line ≤ 4067

-- a small edit: a page has room for what it puts in, and for the line at which it takes lines out. Runs that are put in together are none.
abbrev pub IsOnePageEdit : Edit → List ℕ → Type 0
IsOnePageEdit (Before run) line = space_of run.now ≤ 4072
IsOnePageEdit (After run) line = space_of run.now ≤ 4072
IsOnePageEdit (Behind runs) line = ⊥
IsOnePageEdit (Remove most) line = FitsPage line

-- How many pages a small edit works at most below a block, so many levels above the data blocks: where lines come, the block
-- and a new one at each level and three data blocks; where lines go, the blocks on the way.
abbrev pub most_worked : Edit → ℕ → ℕ
most_worked (Before run) depth = 2 * depth + 3
most_worked (After run) depth = 2 * depth + 3
most_worked (Behind runs) depth = 2 * depth + 3
most_worked (Remove most) depth = depth + 1

-- the same for a whole tree, whose root may go on to two new blocks
abbrev pub most_in_tree : Edit → ℕ → ℕ
most_in_tree (Before run) height = 2 * height + 4
most_in_tree (After run) height = 2 * height + 4
most_in_tree (Behind runs) height = 2 * height + 4
most_in_tree (Remove most) height = height + 1

-- how many entries stand at most in place of one after an edit below it
abbrev pub most_entries : Edit → ℕ
most_entries (Before run) = 3
most_entries (After run) = 3
most_entries (Behind runs) = 128
most_entries (Remove most) = 1

-- A small edit at a line below the block works so many pages at most.
abbrev pub WorksBelow : Map → List ℕ → List ℕ → Entry → ℕ → ℕ → Edit → ℕ → Type 0
WorksBelow m old new top depth at edit count =
    (a : HasLineBelow tree_format m top depth at) → IsOnePageEdit edit (get_or (lines_of depth a.tree) at []) → WorksBesideZero old new count

-- The same over a store, where it tells its pages.
abbrev pub EditsFew : {P : Type 0} → Ghosts P → P → P → Entry → ℕ → ℕ → Edit → ℕ → Type 0
EditsFew g old new top depth at edit count = IsTrue g.tells → WorksBelow (g.shows old).present (g.shows old).worked (g.shows new).worked top depth at edit count

-- An edit that takes lines out, at a line for which a page has room, works the blocks on the way alone.
abbrev pub RemovesFew : {P : Type 0} → Ghosts P → P → P → Entry → ℕ → ℕ → Edit → Type 0
RemovesFew g old new top depth at edit =
    IsTrue g.tells → most_entries edit ≤ 1 → (a : HasLineBelow tree_format (g.shows old).present top depth at)
    → IsOnePageEdit edit (get_or (lines_of depth a.tree) at []) → Works (g.shows old).worked (g.shows new).worked (depth + 1)

-- The edit was made at a line below the block, and took out what the answer says.
abbrev pub EditsBelow : {P : Type 0} → Ghosts P → P → P → Entry → ℕ → ℕ → Edit → Edited → Type 0
EditsBelow g old new top depth at edit after =
    IsTrue g.tells → ChangesBelow tree_format (g.shows old).present (g.shows new).present top depth at
    after.removed.bytes (change_of edit after.removed.lines) after.entries.items

-- The edit was made at the first line of a data block.
abbrev pub EditsLong : {P : Type 0} → Ghosts P → P → P → Entry → Edit → Edited → Type 0
EditsLong g old new entry edit after = OfLines g old entry (λ lines.
    Leaves g old new entry (edited (change_of edit after.removed.lines) lines 0) after.entries.items
    × Takes (change_of edit after.removed.lines) lines 0 after.removed.bytes)

-- The blocks in place of a data block of so many pages with a run put in before its line `at`. A block of several pages has one line, and takes no other.
abbrev pub blocks_put : ℕ → List ℕ → ℕ → List (List ℕ) → List (List (List ℕ))
blocks_put pages bytes at run = if nat_le pages 1 then blocks_with (room_in bytes) (lines_within bytes) at run else parted (lines_within bytes) at run

-- the blocks in place of a data block after an edit that took out so many lines
abbrev pub blocks_after : ℕ → List ℕ → ℕ → Edit → ℕ → List (List (List ℕ))
blocks_after pages bytes at (Before run) gone = blocks_put pages bytes at run.now
blocks_after pages bytes at (After run) gone = blocks_put pages bytes (at + 1) run.now
blocks_after pages bytes at (Behind runs) gone = spread (lines_within bytes) (at + 1) runs.now
blocks_after pages bytes at (Remove most) gone = part (splice (lines_within bytes) at gone [])

-- A small edit of a data block with one line works so many pages at most.
abbrev pub WorksLong : {P : Type 0} → Ghosts P → P → P → Entry → Edit → ℕ → Type 0
WorksLong g old new entry edit count = OfLines g old entry (λ lines. IsOnePageEdit edit (get_or lines 0 []) → WorksBy g old new count)

-- The lines stand in the blocks as the rules of splitting say.
abbrev pub CutsBlock : {P : Type 0} → Ghosts P → P → P → Entry → ℕ → Edit → Edited → Type 0
CutsBlock g old new entry at edit after =
    IsTrue g.tells → (bytes : List ℕ) → pages_at (g.shows old).present entry.block entry.pages ≡ Some bytes
    → HasBlocks (g.shows old).present (g.shows new).present (λ k. span entry.block entry.pages k)
    (blocks_after entry.pages bytes at edit after.removed.lines) after.entries.items

-- A data block with these lines was edited at one of them, and such blocks stand in its place, as the rules of splitting say.
abbrev pub IsEditedInto : Edit → ℕ → List (List ℕ) → ℕ → List (List (List ℕ)) → Type 0
IsEditedInto edit gone lines at parts = (pages : ℕ) × (bytes : List ℕ) × (data_lines pages bytes ≡ Some lines) × (parts ≡ blocks_after pages bytes at edit gone)

-- Of the data blocks below the entry the one with the line was edited so, and the others stay.
abbrev pub CutsBelow : {P : Type 0} → Ghosts P → P → P → Entry → ℕ → ℕ → Edit → Edited → Type 0
CutsBelow g old new top depth at edit after =
    IsTrue g.tells → Cuts (read_blocks tree_format depth (g.shows old).present top.block top.pages) at (IsEditedInto edit after.removed.lines)
    (blocks_below tree_format depth (g.shows new).present after.entries.items)

-- a line that may stand in a data block: it has no zero byte, and is not too long
pub record IsStored (line : List ℕ) : Type 0 where
  pub no_zero : All (λ byte. byte ≢ 0) line
  pub short : length line ≤ 1048576
