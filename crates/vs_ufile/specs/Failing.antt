-- Which changes of a file fail, where changes are named by their places in the file, counted from 1; 0 is none.
use Rattle.std.specs.Prelude.{◌≡◌, ◌≢◌, ℕ, ◌+◌, ◌<◌, ◌≤◌, List, ◌∷◌, length, map, All, Bool, true, false, get_or, Option, Some, None, AllPairs, Contains}
use Rattle.vs_ufile.specs.declared.error.UfKind.TheVariants.{NotATree}
use Rattle.vs_ufile.specs.declared.fault.Fault.{Fault}
use Rattle.vs_ufile.specs.declared.link.Link.{Link}
use Rattle.vs_ufile.specs.declared.link.Link.TheVariants.{Next, AltNext, AltPrev}
use Rattle.vs_ufile.specs.Changes.{place_of}
use Rattle.vs_ufile.specs.Reading.{Placed, numbers_of}
use Rattle.vs_ufile.specs.Tree.{Fails, IsLeastFailing, IsTree}
use Rattle.vs_ufile.specs.Values.{Change}
use Rattle.vs_ufile.specs.Walks.{AreMarks, at}

-- the link of a change
abbrev pub link_of : Link → Change → ℕ
link_of Next = λ c. c.next
link_of AltNext = λ c. c.alt_next
link_of AltPrev = λ c. c.alt_prev

-- where one link of each change leads, and 0 for place 0
abbrev pub links_of : Link → List Placed → List ℕ
links_of link placed = 0 ∷ map (λ p. place_of (numbers_of placed) (link_of link p.change)) placed

-- a number of the first n, whose place is marked, and no marked place has a smaller one
pub record IsLeastAt (marks : List Bool) (numbers : List ℕ) (n i : ℕ) : Type 0 where
  pub within : i < n
  pub marked : get_or marks (i + 1) false ≡ true
  pub least : (j : ℕ) → j < n → get_or marks (j + 1) false ≡ true → at numbers i ≤ at numbers j

-- the least number of the first n whose place is marked, where one is
abbrev pub IsLeastMarked : List Bool → List ℕ → ℕ → Option ℕ → Type 0
IsLeastMarked marks numbers n None = (j : ℕ) → j < n → get_or marks (j + 1) false ≡ false
IsLeastMarked marks numbers n (Some i) = IsLeastAt marks numbers n i

-- ---- the tree

-- each number is one of the format, and no two are the same
pub record AreNumbers (numbers : List ℕ) : Type 0 where
  pub range : All (λ n. (0 < n) × (n ≤ 2147483647)) numbers
  pub distinct : AllPairs (λ m n. m ≢ n) numbers

-- each mark says whether its change fails
abbrev pub AreFailing : List Placed → List Bool → Type 0
AreFailing placed marks = AreMarks (length placed + 1) (λ i. Fails (map (λ p. p.change) placed) (at (0 ∷ numbers_of placed) i)) marks

-- the changes make a tree, or the least number that fails is refused at its change
abbrev pub IsTreeFault : List Placed → Option Fault → Type 0
IsTreeFault placed None = IsTree (map (λ p. p.change) placed)
IsTreeFault placed (Some fault) =
    (p : Placed) × Contains placed p × IsLeastFailing (map (λ p. p.change) placed) p.change.number
    × (fault ≡ record { kind = NotATree; left = p.left; found = p.change.number })
