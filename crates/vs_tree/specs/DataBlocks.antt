-- What calls do to the data blocks of the tree.
use Rattle.std.specs.Prelude.{◌≡◌, ◌≤◌, ◌+◌, ℕ, IsTrue, List, ◌∷◌, ◌++◌, length}
use Rattle.vs_pages.specs.declared.pages.Pages.{Ghosts}
use Rattle.vs_tree_shape.specs.DataBlocks.{Cuts, lines_in_blocks}
use Rattle.vs_tree_blocks.specs.Blocks.{data_blocks}
use Rattle.vs_tree_blocks.specs.Cuts.{spread}
use Rattle.vs_tree_blocks.specs.Edits.{IsEditedInto}
use Rattle.vs_tree_blocks.specs.declared.edit.Edit.{Edit}
use Rattle.vs_tree.specs.declared.change.EditedTree.{EditedTree}
use Rattle.vs_tree.specs.declared.walk.Root.{Root}

-- the data blocks of the tree of this height, as a store shows its pages
abbrev pub blocks_shown : {P : Type 0} → Ghosts P → P → ℕ → List (List (List ℕ))
blocks_shown g s height = data_blocks (g.shows s).present height

-- Of the data blocks of the tree the one with the line was edited so, and the others stay.
abbrev pub CutsTree : {P : Type 0} → Ghosts P → P → P → Root → ℕ → Edit → EditedTree → Type 0
CutsTree g old new root at edit after =
    IsTrue g.tells → Cuts (blocks_shown g old root.height) at (IsEditedInto edit after.removed.lines) (blocks_shown g new after.root.height)

-- Behind this line the runs came as data blocks of their own, between the two parts of the block with the line. The others stay.
abbrev pub SpreadsTree : {P : Type 0} → Ghosts P → P → P → Root → ℕ → List (List (List ℕ)) → Root → Type 0
SpreadsTree g old new root at runs now =
    IsTrue g.tells → Cuts (blocks_shown g old root.height) at (λ lines rest parts. parts ≡ spread lines (rest + 1) runs) (blocks_shown g new now.height)

-- These blocks stay, and the one behind them begins with these lines. Behind these it has no more lines than others are.
pub record KeepsStart (all front : List (List (List ℕ))) (start others : List (List ℕ)) : Type 0 where
  pub behind : List (List ℕ)
  pub back : List (List (List ℕ))
  pub all_are : all ≡ front ++ (start ++ behind) ∷ back
  pub less : length behind ≤ length others

-- What a data block begins with before this line stays there, and so do the data blocks before it.
abbrev pub KeepsBefore : {P : Type 0} → Ghosts P → P → P → Root → ℕ → Root → Type 0
KeepsBefore g old new root at now =
    IsTrue g.tells → (front back : List (List (List ℕ))) (start others : List (List ℕ))
    → blocks_shown g old root.height ≡ front ++ (start ++ others) ∷ back → 1 ≤ length start → lines_in_blocks front + length start ≤ at
    → KeepsStart (blocks_shown g new now.height) front start others
