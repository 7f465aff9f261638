-- The cause of a call that stops at the first call below it that fails.
use Rattle.std.specs.Prelude.{ℕ, ◌≤◌, ◌≡◌}
use Rattle.vs_faults.specs.Faults.{HasRisen}

-- The count of faults did not fall, and it has risen where the call failed. It is as before where the call did not fail, and otherwise no
-- call below failed but the last one, before which there were so many faults at most.
pub record HasOneCause (before now earlier : ℕ) (Failed : Type 0) : Type 0 where
  pub later : before ≤ now
  pub risen : Failed → HasRisen before now
  pub none : ¬ Failed → now ≡ before
  pub last : Failed → earlier ≤ before
