-- Block 1 of a tree that gets lower.
use Rattle.std.specs.Prelude.{◌≡◌, ℕ, suc, ◌+◌, ◌*◌, ◌≤◌, IsTrue, Bool, true, false, List, [], ◌∷◌, length}
use Rattle.vs_pages.specs.Maps.{Map}
use Rattle.vs_pages.specs.State.{PageState}
use Rattle.vs_pages.specs.declared.pages.Pages.{Ghosts}
use Rattle.vs_tree_shape.specs.Trees.{HasLines}
use Rattle.vs_tree_shape.specs.Filled.{IsFilledBut, IsFilledRoot}
use Rattle.vs_tree_shape.specs.Keeps.{IsReady, IsThick}
use Rattle.vs_tree_shape.specs.Works.{Works}
use Rattle.vs_tree_blocks.specs.Blocks.{tree_format}

-- The pages have a tree of so many lines with data blocks this deep.
pub record StandsDeep (m : Map) (depth lines : ℕ) : Type 0 where
  pub list : List (List ℕ)
  pub has : HasLines tree_format m depth list
  pub count : length list ≡ lines

-- Block 1 has the entries of the only block below it, which is gone; or it has not one entry, and nothing changed.
abbrev pub TakesOver : (m n : Map) (e : ℕ) (lines : List (List ℕ)) → HasLines tree_format m (suc (suc e)) lines → Bool → Type 0
TakesOver m n e lines has true = (low : HasLines tree_format n (suc e) lines) × (p : ℕ) × (has.tree.1 ≡ (p, low.tree.1) ∷ [])
TakesOver m n e lines has false = (n ≡ m) × (length has.tree.1 ≡ 1 → ⊥)

-- Block 1 took over entries as long as it had one alone that led to a pointer block: the tree has its lines, and is so high now.
pub record Lowers (m n : Map) (height now : ℕ) (lines : List (List ℕ)) (has : HasLines tree_format m height lines) : Type 0 where
  pub low : HasLines tree_format n now lines
  pub ready : (at : ℕ) → IsFilledBut 32 height has.tree at → IsReady 1 now low.tree at
  pub filled : IsThick 1 height has.tree → IsFilledRoot 32 now low.tree
  pub near : IsThick 1 height has.tree → height ≤ now + 1
  pub stays : IsThick 2 height has.tree → now ≡ height

-- the same over a store
abbrev pub LowersRoot : {P : Type 0} → Ghosts P → P → P → ℕ → ℕ → Type 0
LowersRoot g old new height now =
    IsTrue g.tells → (lines : List (List ℕ)) (has : HasLines tree_format (g.shows old).present height lines)
    → Lowers (g.shows old).present (g.shows new).present height now lines has

-- The tree has its lines, and is so high now. Where it was filled but for the blocks on the way to the line it is filled now, and few pages were worked.
pub record Tidied (old new : PageState) (height now at : ℕ) (lines : List (List ℕ)) (has : HasLines tree_format old.present height lines) : Type 0 where
  pub done : HasLines tree_format new.present now lines
  pub filled : IsFilledBut 32 height has.tree at → IsFilledRoot 32 now done.tree
  pub works : IsFilledBut 32 height has.tree at → Works old.worked new.worked (2 * height + 4)

-- the same over a store
abbrev pub TidiesTree : {P : Type 0} → Ghosts P → P → P → ℕ → ℕ → ℕ → Type 0
TidiesTree g old new height now at =
    IsTrue g.tells → (lines : List (List ℕ)) (has : HasLines tree_format (g.shows old).present height lines)
    → Tidied (g.shows old) (g.shows new) height now at lines has

-- All pointer blocks were made anew: the tree has its lines, is so high now, and is filled.
abbrev pub SettlesTree : {P : Type 0} → Ghosts P → P → P → ℕ → ℕ → Type 0
SettlesTree g old new height now =
    IsTrue g.tells → (lines : List (List ℕ)) → HasLines tree_format (g.shows old).present height lines → 1 ≤ length lines
    → (done : HasLines tree_format (g.shows new).present now lines) × IsFilledRoot 32 now done.tree
