-- What calls leave of a filled tree.
use Rattle.std.specs.Prelude.{◌≡◌, ℕ, suc, ◌-◌, ◌≤◌, ◌⊎◌, IsTrue}
use Rattle.vs_pages.specs.declared.pages.Pages.{Ghosts}
use Rattle.vs_tree_shape.specs.Filled.{HasFilled, HasFilledBut, HasFilledRoot, HasFilledRootBut, steps_back}
use Rattle.vs_tree_shape.specs.declared.entries.Entry.{Entry}
use Rattle.vs_tree_shape.specs.Changes.{pointer_entry}
use Rattle.vs_tree_shape.specs.Paths.{IsWalk}
use Rattle.vs_tree_blocks.specs.Blocks.{tree_format}
use Rattle.vs_tree_blocks.specs.Fills.{KeepsFilled}
use Rattle.vs_tree_blocks.specs.declared.edit.Edit.{Edit}
use Rattle.vs_tree.specs.declared.texts.Extent.{Extent}
use Rattle.vs_tree.specs.declared.walk.Root.{Root}

-- A filled tree of this height, whose pointer blocks have so many entries at least, is one then, of that height and with as many.
abbrev pub FillsRoot : {P : Type 0} → Ghosts P → P → P → ℕ → ℕ → ℕ → ℕ → Type 0
FillsRoot g old new before height after now =
    IsTrue g.tells → HasFilledRoot tree_format (g.shows old).present before height → HasFilledRoot tree_format (g.shows new).present after now

-- An edit leaves a filled tree, where it leaves a line.
abbrev pub FillsTree : {P : Type 0} → Ghosts P → P → P → Root → Edit → Root → Type 0
FillsTree g old new root edit now =
    (before after : ℕ) → KeepsFilled edit before after → 1 ≤ now.lines → FillsRoot g old new before root.height after now.height

-- A filled tree stays filled, whatever its pointer blocks have at least, up to half of what a block has room for.
abbrev pub StaysFilled : {P : Type 0} → Ghosts P → P → P → Root → Root → Type 0
StaysFilled g old new root now = (least : ℕ) → 1 ≤ least → least ≤ 64 → FillsRoot g old new least root.height least now.height

-- A filled tree stays filled but for one entry of a pointer block.
abbrev pub LosesEntry : {P : Type 0} → Ghosts P → P → P → Root → Root → Type 0
LosesEntry g old new root now = (least : ℕ) → 1 ≤ least → least ≤ 64 → FillsRoot g old new (suc least) root.height least now.height

-- A splice that takes no line out of so many, or has one line at most to take out, leaves no block thin.
abbrev pub IsMild : ℕ → ℕ → Type 0
IsMild lines old = (old ≡ 0) ⊎ (lines ≤ 1)

-- The tree of a text with these numbers is filled where it was before.
abbrev pub FillsText : {P : Type 0} → Ghosts P → P → P → Extent → Extent → Type 0
FillsText g old new before after =
    IsTrue g.tells → HasFilled tree_format (g.shows old).present before.height → HasFilled tree_format (g.shows new).present after.height

-- A line was taken out of a filled tree of this height, which has so many lines, two at least. The tree is filled then but for the
-- way to the line that took its place; to the one before it where the pointer block just above the data blocks has none after it. A
-- walk to the line ended at that block.
abbrev pub ThinsRoot : {P : Type 0} → Ghosts P → P → P → ℕ → ℕ → ℕ → ℕ → Type 0
ThinsRoot g old new height lines at now =
    IsTrue g.tells → HasFilledRoot tree_format (g.shows old).present 32 height → 2 ≤ lines
    → (entry : Entry) (rest : ℕ) → IsWalk tree_format (g.shows old).present (height - 1) (pointer_entry 1 lines) at entry rest
    → HasFilledRootBut tree_format (g.shows new).present 32 now (at - steps_back entry rest)

-- The same of a text with these numbers.
abbrev pub ThinsText : {P : Type 0} → Ghosts P → P → P → Extent → ℕ → Extent → Type 0
ThinsText g old new before top after =
    IsTrue g.tells → HasFilled tree_format (g.shows old).present before.height → 2 ≤ before.lines
    → (entry : Entry) (rest : ℕ) → IsWalk tree_format (g.shows old).present (before.height - 1) (pointer_entry 1 before.lines) top entry rest
    → HasFilledBut tree_format (g.shows new).present after.height (top - steps_back entry rest)
