-- A swap file as the bytes that it has, and the document that it stands for.
use Rattle.std.specs.Prelude.{◌≡◌, ℕ, ◌+◌, ◌*◌, ◌==◌, ◌≤◌, Bool, nat_le, if◌then◌else◌, List, length, take, drop, Option, Some, None, Ok}
use Rattle.vs_pages.specs.Maps.{Map}
use Rattle.vs_text.specs.declared.format.Format.{Format}
use Rattle.vs_text.specs.declared.format.Format.TheVariants.{Unix, Dos}
use Rattle.vs_text.specs.Text.{IsText, stored}
use Rattle.vs_text.specs.Documents.{Document}
use Rattle.vs_zero.specs.declared.Zero.{Zero}
use Rattle.vs_zero.specs.Zero.{reading_of}
use Rattle.vs_data.specs.Blocks.{lines_in}
use Rattle.vs_tree_shape.specs.Trees as trees
use Rattle.vs_tree_shape.specs.Trees.{Tree, Stands, uses, lines_of}
use Rattle.vs_swap.specs.Entries.{swap_points}

-- the page at a number, where it lies in the file as a whole
abbrev pub page_in : List ℕ → ℕ → Option (List ℕ)
page_in file k = if nat_le (4096 * (k + 1)) (length file) then Some (take 4096 (drop (4096 * k) file)) else None

-- the whole pages of a file
abbrev pub pages_in : List ℕ → Map
pages_in file = λ k. page_in file k

-- the file has each of these pages at its place; its page 0 is its own
abbrev pub HoldsPages : Map → List ℕ → Type 0
HoldsPages pages file = (k : ℕ) (page : List ℕ) → 1 ≤ k → pages k ≡ Some page → page_in file k ≡ Some page

-- How the blocks of any swap file are read: a data block of any number of pages may have any lines, and an entry any numbers that are
-- not negative.
abbrev pub swap_format : trees.Format
swap_format = record { lines = λ pages bytes. lines_in bytes; entries = swap_points }

-- These are the lines of a tree of blocks from block 1 on, in pages that may also have others. Block 1 is a pointer block, all
-- data blocks lie this deep, no page is used twice, and page 0 never.
pub record GivesLines (pages : Map) (depth : ℕ) (lines : List (List ℕ)) : Type 0 where
  pub tree : Tree depth
  pub stands : Stands swap_format pages 1 1 depth tree
  pub deep : 1 ≤ depth
  pub zero_free : uses depth tree 0 ≡ 0
  pub lines_are : lines_of depth tree ≡ lines

-- the number that page 0 has for a format
abbrev pub format_number : Format → ℕ
format_number Unix = 1
format_number Dos = 2

-- the format of a number in page 0: dos of 2, and unix of all others
abbrev pub format_by : ℕ → Format
format_by number = if number == 2 then Dos else Unix

-- Page 0 reads as that of an open file of a pair, with pages of 4,096 bytes, and says this.
pub record IsHead (file : List ℕ) (generation : ℕ) (empty : Bool) (format : Format) : Type 0 where
  pub zero : Zero
  pub reads : reading_of (take 4096 file) ≡ Ok zero
  pub size : zero.page_size ≡ 4096
  pub paired : zero.pair ≡ Some record { generation = generation; empty = empty }
  pub format_is : format_by zero.format ≡ format

-- The bytes of a swap file stand for this document, with this generation.
pub record StandsFor (file : List ℕ) (generation : ℕ) (document : Document) : Type 0 where
  pub head : IsHead file generation (length document.text == 0) document.format
  pub depth : ℕ
  pub tree : GivesLines (pages_in file) depth (stored document.text)
  pub is_text : IsText document.text
