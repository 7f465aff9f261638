-- A text in the pages that a store shows.
use Rattle.std.specs.Prelude.{◌≡◌, ◌≤◌, ℕ, List, true}
use Rattle.vs_pages.specs.Maps.{Map}
use Rattle.vs_pages.specs.Memory.{committed_of, present_of, state_of}
use Rattle.vs_pages.specs.State.{PageState}
use Rattle.vs_pages.specs.declared.memory.MemPages.{MemPages}
use Rattle.vs_text.specs.declared.TheConstants.{MAX_LINES, MAX_TEXT_BYTES}
use Rattle.vs_tree_shape.specs.Filled.{HasFilled}
use Rattle.vs_tree_blocks.specs.Blocks.{tree_format}
use Rattle.vs_tree.specs.TextIn.{text_in}
use Rattle.vs_tree.specs.Texts.{Fits, HasText, worked_by}
use Rattle.vs_tree.specs.declared.texts.Extent.{Extent}
use Rattle.vs_tree.specs.declared.tree.LineTree.{LineTree}
use Rattle.vs_safety.specs.Texts.{Text}

-- No page was worked since the last commit.
abbrev pub IsIdle : PageState → Type 0
IsIdle shown = worked_by shown ≡ shown.commits.last

-- The tree of a text with these numbers is filled.
abbrev pub IsFilledIn : Map → Extent → Type 0
IsFilledIn m extent = HasFilled tree_format m extent.height

-- The tree is filled, as it is now and as it was committed.
pub record AreFilled (shown : PageState) (tree : LineTree) : Type 0 where
  pub present : IsFilledIn shown.present tree.present
  pub committed : IsFilledIn shown.committed tree.committed

-- The pages have a text in a filled tree, and what is committed is the same one.
pub record IsCommitted (pages : MemPages) (tree : LineTree) : Type 0 where
  pub present_fits : Fits true (present_of pages) tree.present
  pub committed_fits : Fits true (committed_of pages) tree.committed
  pub filled : AreFilled (state_of pages) tree
  pub same : text_in (committed_of pages) tree.committed ≡ text_in (present_of pages) tree.present
  pub same_height : tree.committed.height ≡ tree.present.height
  pub idle : IsIdle (state_of pages)

-- The pages have this text in a filled tree, as it is now and as it was committed, and none was worked since.
pub record IsPaged (shown : PageState) (tree : LineTree) (text : Text) : Type 0 where
  pub present : HasText shown.present tree.present text
  pub committed : HasText shown.committed tree.committed text
  pub filled : AreFilled shown tree
  pub idle : IsIdle shown

-- The numbers of a text are within the limits, also where no text is told, and the committed ones are the same.
pub record IsBounded (tree : LineTree) : Type 0 where
  pub few_lines : tree.present.lines ≤ MAX_LINES
  pub few_bytes : tree.present.bytes ≤ MAX_TEXT_BYTES
  pub same_lines : tree.committed.lines ≡ tree.present.lines
  pub same_bytes : tree.committed.bytes ≡ tree.present.bytes
  pub same_height : tree.committed.height ≡ tree.present.height

-- A text that is read into pages: the name of its file, and its lines so far.
pub record Opening : Type 0 where
  pub name : List ℕ
  pub text : Text
