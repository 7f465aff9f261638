-- Lines that are looked at one after the other, and the numbers of those that are taken.
use Rattle.std.specs.Prelude.{ℕ, ◌≡◌, ◌-◌, List, ◌++◌, Bool, length, map}
use Rattle.vs_edit.specs.Splices.{cut_out}
use Rattle.vs_global.specs.Global.{is_taken, places}

-- The numbers of those lines from one up to another that match, or that do not, come after others.
abbrev pub TakesAll : Bool → List ℕ → List (List ℕ) → ℕ → ℕ → List ℕ → List ℕ → Type 0
TakesAll invert literal text from to old new = new ≡ old ++ places from (map (is_taken invert literal) (cut_out text from (to - from)))

-- The numbers of some lines from one up to another come after others.
pub record TakesSome (from to : ℕ) (old new : List ℕ) : Type 0 where
  pub marks : List Bool
  pub size : length marks ≡ to - from
  pub are : new ≡ old ++ places from marks
