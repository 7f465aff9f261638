-- How many different pages a change works.
use Rattle.std.specs.Prelude.{◌≡◌, ℕ, ◌≤◌, List, ◌∷◌, ◌++◌, length}
use Rattle.vs_pages.specs.Maps.{one, total}

-- Pages were worked since a worked list was the old one, none but those with these numbers.
pub record WorksOnly (old new names : List ℕ) : Type 0 where
  pub added : List ℕ
  pub is : new ≡ added ++ old
  pub covers : (k : ℕ) → total (λ at. one at k) names ≡ 0 → total (λ at. one at k) added ≡ 0

-- At most so many different pages were worked.
pub record Works (old new : List ℕ) (count : ℕ) : Type 0 where
  pub names : List ℕ
  pub few : length names ≤ count
  pub only : WorksOnly old new names

-- At most so many different pages were worked beside page 0, which a store may give for a new page.
pub record WorksBesideZero (old new : List ℕ) (count : ℕ) : Type 0 where
  pub names : List ℕ
  pub few : length names ≤ count
  pub only : WorksOnly old new (0 ∷ names)
