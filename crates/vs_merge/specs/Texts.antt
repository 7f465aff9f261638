-- What calls leave of a text whose tree is filled.
use Rattle.std.specs.Prelude.{◌≡◌, ℕ, ◌-◌, IsTrue}
use Rattle.vs_pages.specs.declared.pages.Pages.{Ghosts}
use Rattle.vs_tree_shape.specs.declared.entries.Entry.{Entry}
use Rattle.vs_tree_shape.specs.Changes.{pointer_entry}
use Rattle.vs_tree_shape.specs.Filled.{HasFilled, steps_back}
use Rattle.vs_tree_shape.specs.Paths.{IsWalk}
use Rattle.vs_tree_blocks.specs.Blocks.{tree_format}
use Rattle.vs_tree.specs.declared.texts.Extent.{Extent}
use Rattle.vs_tree.specs.declared.walk.Root.{Root}

-- The tree of the text is filled, where the store tells its pages.
abbrev pub FilledText : {P : Type 0} → Ghosts P → P → Extent → Type 0
FilledText g s extent = IsTrue g.tells → HasFilled tree_format (g.shows s).present extent.height

-- The line is the one that is taken out, or the one before it where the lowest pointer block on the way to it has none after it.
abbrev pub IsNear : {P : Type 0} → Ghosts P → P → Root → ℕ → ℕ → Type 0
IsNear g s root top near =
    IsTrue g.tells → (entry : Entry) × (rest : ℕ) × IsWalk tree_format (g.shows s).present (root.height - 1) (pointer_entry 1 root.lines) top entry rest
    × (near ≡ top - steps_back entry rest)
