-- The text, the swap pair and the folder of a desk, while its calls go on.
use Rattle.std.specs.Prelude.{◌≡◌, ◌⊎◌, Bool, IsTrue}
use Rattle.vs_host.specs.Disk.{Disk, Name}
use Rattle.vs_host.specs.declared.names.Names.{Names}
use Rattle.vs_tree.specs.Texts.{Fits}
use Rattle.vs_tree.specs.declared.tree.LineTree.{LineTree}
use Rattle.vs_pair.specs.Held.{KeepsHeld}
use Rattle.vs_pair.specs.Lent.{IsReady}
use Rattle.vs_pair.specs.Pair.{held_in, shown_in}
use Rattle.vs_pair.specs.declared.pair.SwapPair.{SwapPair}

-- The name is that of one of the two swap files.
abbrev pub IsSwapName : Names → Name → Type 0
IsSwapName names name = (name ≡ names.swp) ⊎ (name ≡ names.swo)

-- The tree fits the pages that the pair shows over this folder, and the pair may be lent.
pub record IsDesk (told : Bool) (pair : SwapPair) (tree : LineTree) (disk : Disk) : Type 0 where
  pub fits : Fits told (shown_in pair disk).present tree.present
  pub ready : IsTrue told → IsReady pair disk

-- The tree and what is known of the swap files are the same. So is what is shown of the pages where it is told, and each commit that
-- changed a page is known.
pub record SamePages (told : Bool) (pair_old pair_new : SwapPair) (tree_old tree_new : LineTree) (old new : Disk) : Type 0 where
  pub tree : tree_new ≡ tree_old
  pub files : pair_new.files ≡ pair_old.files
  pub shown : IsTrue told → shown_in pair_new new ≡ shown_in pair_old old
  pub held : IsTrue told → KeepsHeld (held_in pair_old old) (held_in pair_new new)
