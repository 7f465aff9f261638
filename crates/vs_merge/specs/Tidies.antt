-- What making blocks thick leaves of the tree below a block.
use Rattle.std.specs.Prelude.{◌≡◌, ℕ, suc, ◌+◌, ◌≤◌, IsTrue, List, ◌∷◌, length}
use Rattle.vs_pages.specs.declared.pages.Pages.{Ghosts}
use Rattle.vs_tree_shape.specs.declared.entries.Entry.{Entry}
use Rattle.vs_tree_shape.specs.Keeps.{KeepsBelow, IsReady, IsThick, LeadsOn, spare}
use Rattle.vs_tree_shape.specs.Works.{WorksOnly}
use Rattle.vs_tree_blocks.specs.Blocks.{tree_format}

-- The block below on the way to the line was made thick, where it had fewer entries than it may have at its depth.
abbrev pub ThickensBelow : {P : Type 0} → Ghosts P → P → P → Entry → ℕ → ℕ → Type 0
ThickensBelow g old new top at least =
    IsTrue g.tells → (e need : ℕ) → 1 ≤ need → least ≡ 32 + spare (suc e)
    → KeepsBelow tree_format (g.shows old).present (g.shows new).present top (suc (suc e)) at
    (λ t. IsReady need (suc (suc e)) t at) (λ t. LeadsOn need (suc e) t at)

-- All blocks below were made thick, where all but those on the way to the line are filled.
abbrev pub TidiesBelow : {P : Type 0} → Ghosts P → P → P → Entry → ℕ → ℕ → Type 0
TidiesBelow g old new top depth at =
    IsTrue g.tells → (need : ℕ) → 1 ≤ need
    → KeepsBelow tree_format (g.shows old).present (g.shows new).present top depth at (λ t. IsReady need depth t at) (λ t. IsThick need depth t)

-- Pages were worked, none but this one and so many others at most.
pub record WorksBeside (old new : List ℕ) (page count : ℕ) : Type 0 where
  pub names : List ℕ
  pub few : length names ≤ count
  pub only : WorksOnly old new (page ∷ names)

-- the same where the store tells its pages
abbrev pub TouchesBelow : {P : Type 0} → Ghosts P → P → P → ℕ → ℕ → Type 0
TouchesBelow g old new page count = IsTrue g.tells → WorksBeside (g.shows old).worked (g.shows new).worked page count
