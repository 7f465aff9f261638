-- What changes of one line keep.
use Rattle.std.specs.Prelude.{true}
use Rattle.vs_pages.specs.Memory.{committed_of, present_of}
use Rattle.vs_pages.specs.declared.memory.MemPages.{MemPages}
use Rattle.vs_tree.specs.Texts.{Fits}
use Rattle.vs_tree.specs.declared.tree.LineTree.{LineTree}

-- The pages hold the tree, as it is now and as it was last committed.
abbrev pub HoldTree : MemPages → LineTree → Type 0
HoldTree pages tree = Fits true (present_of pages) tree.present × Fits true (committed_of pages) tree.committed
