-- Lines that are put after the last one, from the bytes of their file form.
use Rattle.std.specs.Prelude.{◌≡◌, ◌<◌, ◌≤◌, ℕ, List, ◌++◌, length, map}
use Rattle.vs_pages.specs.declared.pages.Pages.{Ghosts}
use Rattle.vs_text.specs.Text.{lines_of, stored_line}
use Rattle.vs_tree_blocks.specs.Cuts.{all_lines}
use Rattle.vs_tree_blocks.specs.Fills.{AllHaveLines}
use Rattle.vs_tree.specs.Calls.{OfText, TurnsTree}
use Rattle.vs_tree.specs.Packed.{ArePacked, IsWhole, stored_lines}
use Rattle.vs_tree.specs.Texts.{HasText}
use Rattle.vs_tree.specs.declared.texts.Extent.{Extent}
use Rattle.vs_tree.specs.declared.walk.Root.{Root}

-- The first lines of some bytes, at least one, are a run in its stored form, and the others are those of the rest.
pub record IsFilled (bytes : List ℕ) (run : List (List ℕ)) (rest : List ℕ) : Type 0 where
  pub put : List (List ℕ)
  pub lines : lines_of bytes ≡ put ++ lines_of rest
  pub stored : run ≡ map stored_line put
  pub some : 0 < length put
  pub less : length rest < length bytes
  pub whole : IsWhole bytes → IsWhole rest

-- The same in runs that are put in together, no more than one edit takes. Where each line has its line end, no run has room for the
-- line after it.
pub record IsFilledBy (bytes : List ℕ) (runs : List (List (List ℕ))) (rest : List ℕ) : Type 0 where
  pub filled : IsFilled bytes (all_lines runs) rest
  pub few : length runs ≤ 126
  pub each : AllHaveLines runs
  pub packed : IsWhole bytes → ArePacked runs (stored_lines rest)

-- The tree with this root then has these lines, in their stored form, after those that it had.
abbrev pub AppendsTree : {P : Type 0} → Ghosts P → P → P → Root → Root → List (List ℕ) → Type 0
AppendsTree g old new root now lines = TurnsTree g old new root now (λ before. before ++ map stored_line lines)

-- The pages then have the text with these lines after its last one.
abbrev pub Appends : {P : Type 0} → Ghosts P → P → P → Extent → Extent → List (List ℕ) → Type 0
Appends g old new before after lines = OfText g old before (λ text. HasText (g.shows new).present after (text ++ lines))
