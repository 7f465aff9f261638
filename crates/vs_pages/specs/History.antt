-- What was before each change.
use Rattle.std.specs.Prelude.{◌≡◌, ℕ, ◌+◌, ◌≤◌, false, List, [], ◌∷◌, ◌++◌, Option, IsSome, IsTrue, is_some, length, reverse}
use Rattle.vs_pages.specs.Cells.{Cells, is_away, put_cell, rewritten, seen, IsWritten}
use Rattle.vs_pages.specs.Maps.{Map, numbers, one, total}
use Rattle.vs_pages.specs.State.{Moment}
use Rattle.vs_pages.specs.Table.{cell_of, cells_of}
use Rattle.vs_pages.specs.declared.page.Page.{Page}
use Rattle.vs_pages.specs.declared.change.Run.{Run}
use Rattle.vs_pages.specs.declared.change.Patch.{Patch}
use Rattle.vs_pages.specs.declared.change.Change.{Change}
use Rattle.vs_pages.specs.declared.change.Change.TheVariants as kinds

-- neighbouring places with these pages
abbrev pub put_places : Cells → ℕ → List (Option Page) → Cells
put_places m at [] = m
put_places m at (p ∷ ps) = put_cell (put_places m (at + 1) ps) at (cell_of p)

-- what was kept before a change
abbrev pub undone : Change → Cells → Cells
undone (kinds.Run run) m = put_places m run.at run.was.items
undone (kinds.Patch patch) m = put_cell m patch.at (rewritten (m patch.at) patch.from patch.was.items)

-- how many places there were before a change
abbrev pub places_before : Change → ℕ → ℕ
places_before (kinds.Run run) n = run.places
places_before (kinds.Patch patch) n = n

-- the numbers that a change worked
abbrev pub numbers_of : Change → List ℕ
numbers_of (kinds.Run run) = numbers run.at (length run.was.items)
numbers_of (kinds.Patch patch) = numbers patch.at 1

-- the number after those that a change worked
abbrev pub end_of : Change → ℕ
end_of (kinds.Run run) = run.at + length run.was.items
end_of (kinds.Patch patch) = patch.at + 1

-- the numbers that changes worked, in their order
abbrev pub numbers_in : List Change → List ℕ
numbers_in [] = []
numbers_in (c ∷ cs) = numbers_of c ++ numbers_in cs

-- what was shown before each change, with the pages of a map in the place of those that are away
abbrev pub moments_in : Map → Cells → List Change → List Moment
moments_in away m [] = []
moments_in away m (c ∷ cs) = record { present = seen away (undone c m); worked = numbers_in cs } ∷ moments_in away (undone c m) cs

-- what was kept before all of the changes
abbrev pub first_of : Cells → List Change → Cells
first_of m [] = m
first_of m (c ∷ cs) = first_of (undone c m) cs

-- The places of a run are there, and it made more of them if any. It sent no page away.
pub record HasRun (m : Cells) (n : ℕ) (run : Run) : Type 0 where
  pub within : run.at + length run.was.items ≤ n
  pub fewer : run.places ≤ n
  pub past : (k : ℕ) → run.places ≤ k → is_some (put_places m run.at run.was.items k) ≡ false
  pub away : (k : ℕ) → IsTrue (is_away (m k)) → IsTrue (is_away (put_places m run.at run.was.items k))

-- The page of a patch was written, and its bytes are within it.
pub record HasPatch (m : Cells) (n : ℕ) (patch : Patch) : Type 0 where
  pub inside : patch.at + 1 ≤ n
  pub within : patch.from + length patch.was.items ≤ 4096
  pub written : IsWritten (m patch.at)

-- A change can be taken back in a table of n places.
abbrev pub CanUndo : Cells → ℕ → Change → Type 0
CanUndo m n (kinds.Run run) = HasRun m n run
CanUndo m n (kinds.Patch patch) = HasPatch m n patch

-- Changes can be taken back one after the other.
abbrev pub CanUndoAll : Cells → ℕ → List Change → Type 0
CanUndoAll m n [] = Unit {0}
CanUndoAll m n (c ∷ cs) = CanUndo m n c × CanUndoAll (undone c m) (places_before c n) cs

-- The changes of a log, whose last one is last, can be taken back one after the other in this table.
abbrev pub AreSteps : List (Option Page) → List Change → Type 0
AreSteps places log = CanUndoAll (cells_of places) (length places) (reverse log)

-- Each number at or before a page was worked, or a page was committed at or after it.
abbrev pub HasNoGap : Cells → Cells → List ℕ → Type 0
HasNoGap committed now worked = (k j : ℕ) → k ≤ j → IsSome (now j) → total (λ at. one at k) worked ≡ 0 → ((i : ℕ) → k ≤ i → is_some (committed i) ≡ false) → ⊥

-- It was so after each change.
abbrev pub EachHasNoGap : Cells → List Change → Type 0
EachHasNoGap m [] = Unit {0}
EachHasNoGap m (c ∷ cs) = HasNoGap (first_of m (c ∷ cs)) m (numbers_in (c ∷ cs)) × EachHasNoGap (undone c m) cs

-- No change of a log, whose last one is last, left a number that was never worked between the committed pages and a page.
abbrev pub HaveNoGaps : List (Option Page) → List Change → Type 0
HaveNoGaps places log = EachHasNoGap (cells_of places) (reverse log)
