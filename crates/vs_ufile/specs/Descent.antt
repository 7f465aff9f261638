-- Parents and children of the changes of a file (docs/FORMATS.md, "Undo file"). Places are counted from 1; place 0 is the root.
use Rattle.std.specs.Prelude.{ℕ, suc, ◌≡◌, ◌≢◌, ◌+◌, ◌<◌, List, ◌∷◌, length, map}
use Rattle.vs_ufile.specs.declared.history.FileChange.{FileChange}
use Rattle.vs_ufile.specs.Reading.{Placed}
use Rattle.vs_ufile.specs.Tree.{link, numbers, AreAncestors, IsChange, IsFirst, IsParent}
use Rattle.vs_ufile.specs.Values.{Change, change_of}
use Rattle.vs_ufile.specs.Walks.{at}

-- changes without the places of their bytes
abbrev pub unplaced : List FileChange → List Placed
unplaced changes = map (λ c. record { left = 0; change = change_of c }) changes

-- The child last used of a state: the first of the chain of its children, or 0 where it has none.
pub record IsLastUsed (changes : List Change) (state child : ℕ) : Type 0 where
  pub first : child ≢ 0 → IsFirst changes child child × (link (λ c. c.next) changes child ≡ state)
  pub none : child ≡ 0 → (n : ℕ) → IsChange changes n → IsParent changes n state → ⊥

-- By the places of the changes these are the parents of the changes, and the children last used of all states; and the way of each
-- change through parents ends at 0.
pub record IsLineage (changes : List Change) (ups downs : List ℕ) : Type 0 where
  pub parent_count : length ups ≡ length changes + 1
  pub child_count : length downs ≡ length changes + 1
  pub parents : (i : ℕ) → i < length changes → IsParent changes (at (numbers changes) i) (at ups (suc i))
  pub children : (p : ℕ) → p < length changes + 1 → IsLastUsed changes (at (0 ∷ numbers changes) p) (at downs p)
  pub ways : (n : ℕ) → IsChange changes n → (ancestors : List ℕ) × AreAncestors changes n ancestors
