-- The numbers of a tree of which no page is told.
use Rattle.std.specs.Prelude.{◌≤◌}
use Rattle.vs_text.specs.declared.TheConstants.{MAX_LINES, MAX_TEXT_BYTES}
use Rattle.vs_tree.specs.declared.tree.LineTree.{LineTree}

-- They are within the limits of a text, as it is now and as it was committed.
pub record IsWithin (tree : LineTree) : Type 0 where
  pub lines : tree.present.lines ≤ MAX_LINES
  pub bytes : tree.present.bytes ≤ MAX_TEXT_BYTES
  pub committed_lines : tree.committed.lines ≤ MAX_LINES
  pub committed_bytes : tree.committed.bytes ≤ MAX_TEXT_BYTES
