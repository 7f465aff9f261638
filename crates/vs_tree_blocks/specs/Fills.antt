-- What an edit leaves of a filled tree.
use Rattle.std.specs.Prelude.{◌≡◌, ℕ, ◌+◌, ◌-◌, ◌<◌, ◌≤◌, List, [], ◌∷◌, length, IsTrue, ⊤}
use Rattle.std.specs.List.{AllByRecursion}
use Rattle.vs_pages.specs.Maps.{Map}
use Rattle.vs_pages.specs.declared.pages.Pages.{Ghosts}
use Rattle.vs_tree_shape.specs.declared.entries.Entry.{Entry}
use Rattle.vs_tree_shape.specs.Filled.{HasFilledBelow, AllFilledBelow, HasFilledBelowBut, steps_back}
use Rattle.vs_tree_shape.specs.Paths.{IsWalk}
use Rattle.vs_tree_blocks.specs.Blocks.{tree_format}
use Rattle.vs_tree_blocks.specs.declared.edit.Edit.{Edit}
use Rattle.vs_tree_blocks.specs.declared.edit.Edited.{Edited}
use Rattle.vs_tree_blocks.specs.declared.edit.Edit.TheVariants.{Before, After, Behind, Remove}

-- each of these runs has lines
abbrev pub AllHaveLines : List (List (List ℕ)) → Type 0
AllHaveLines runs = AllByRecursion (λ (run : List (List ℕ)). 1 ≤ length run) runs

-- each run that an edit puts in has lines
abbrev pub RunsHaveLines : Edit → Type 0
RunsHaveLines (Before run) = 1 ≤ length run.now
RunsHaveLines (After run) = 1 ≤ length run.now
RunsHaveLines (Behind runs) = AllHaveLines runs.now
RunsHaveLines (Remove most) = ⊤

-- how many entries a pointer block may lose by an edit below it
abbrev pub entries_lost : Edit → ℕ
entries_lost (Before run) = 0
entries_lost (After run) = 0
entries_lost (Behind runs) = 0
entries_lost (Remove most) = 1

-- From a tree whose pointer blocks have so many entries at least the edit leads to one whose blocks have so many. Each half of a
-- block that is too full has 64.
pub record KeepsFilled (edit : Edit) (before after : ℕ) : Type 0 where
  pub lines : RunsHaveLines edit
  pub some : 1 ≤ after
  pub half : after ≤ 64
  pub sum : before ≡ after + entries_lost edit

-- The entries lead to filled trees after an edit below a block where that one was filled. A pointer block is never emptied.
abbrev pub FillsBelow : {P : Type 0} → Ghosts P → P → P → Entry → ℕ → Edit → List Entry → Type 0
FillsBelow g old new top depth edit entries =
    IsTrue g.tells → (before after : ℕ) → KeepsFilled edit before after → HasFilledBelow tree_format (g.shows old).present before depth top
    → AllFilledBelow tree_format (g.shows new).present after depth entries × (1 ≤ depth → 1 ≤ length entries)

-- The entries are one, and what lies below it is filled but for the way to a line so many before this one.
pub record IsThinned (m : Map) (depth at back : ℕ) (entries : List Entry) : Type 0 where
  pub entry : Entry
  pub alone : entries ≡ entry ∷ []
  pub before : back ≤ at
  pub within : at - back < entry.lines
  pub filled : HasFilledBelowBut tree_format m 32 depth entry (at - back)

-- an edit took one line out
abbrev pub TakesLine : Edit → ℕ → Type 0
TakesLine edit gone = (entries_lost edit ≡ 1) × (gone ≡ 1)

-- Where a line was taken out below a filled block, all is filled but the way to the line that took its place; to the one before it
-- where the pointer block just above the data blocks has none after it. A walk to the line ended at that block.
abbrev pub ThinsBelow : {P : Type 0} → Ghosts P → P → P → Entry → ℕ → ℕ → Edit → Edited → Type 0
ThinsBelow g old new top depth at edit after =
    IsTrue g.tells → TakesLine edit after.removed.lines → HasFilledBelow tree_format (g.shows old).present 32 depth top → 1 ≤ depth → 2 ≤ top.lines
    → (entry : Entry) (rest : ℕ) → IsWalk tree_format (g.shows old).present (depth - 1) top at entry rest
    → IsThinned (g.shows new).present depth at (steps_back entry rest) after.entries.items
