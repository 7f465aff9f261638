-- What a walk finds below a level of blocks.
use Rattle.std.specs.Prelude.{◌≡◌, ℕ, ◌+◌, ◌≤◌, Bool, IsTrue, List, length, Option, Some, None}
use Rattle.vs_pages.specs.Maps.{Map}
use Rattle.vs_text.specs.declared.format.Format.{Format}
use Rattle.vs_tree_shape.specs.declared.entries.Entry.{Entry}
use Rattle.vs_swap.specs.Files.{swap_format}
use Rattle.vs_recover.specs.declared.levels.Below.{Below}
use Rattle.vs_recover.specs.declared.levels.Below.TheVariants.{Entries, Lines}
use Rattle.vs_recover.specs.Files.{plain}
use Rattle.vs_recover.specs.Levels.{Clashes, are_wide, gathered, opened, taken}
use Rattle.vs_recover.specs.Marks.{free_in, used_in}

-- The pages of the blocks of these entries were marked, at least one for each.
pub record IsMarked (old new : List Bool) (next : List Entry) : Type 0 where
  pub used : (k : ℕ) → used_in new k ≡ used_in old k + taken next k
  pub free : free_in new + length next ≤ free_in old
  pub wide : IsTrue (are_wide next)

-- the pages of the next level, where there is one, were marked
abbrev pub MarksBelow : List Bool → List Bool → Option Below → Type 0
MarksBelow old new (Some (Entries next)) = IsMarked old new next.items
MarksBelow old new (Some (Lines lines)) = Unit {0}
MarksBelow old new None = Unit {0}

-- The entries of all blocks of a level, or their lines in their plain form. Or there is neither: the level has no lines, and a
-- next level would use a page twice.
abbrev pub FindsBelow : Map → (ℕ → ℕ) → List Entry → Option Below → Type 0
FindsBelow m used level (Some (Entries next)) = opened swap_format m level ≡ Some next.items
FindsBelow m used level (Some (Lines lines)) = plain (gathered swap_format m level) ≡ Some lines.text
FindsBelow m used level None = Clashes used (opened swap_format m level) × (gathered swap_format m level ≡ None)

-- Lines were found in this format.
abbrev pub IsIn : Format → Below → Type 0
IsIn format (Entries next) = Unit {0}
IsIn format (Lines lines) = lines.format ≡ format
