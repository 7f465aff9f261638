-- Counts of failed calls, the cause of a call that says it failed, and that of a count that rose.
use Rattle.std.specs.Prelude.{ℕ, ◌+◌, ◌^◌, ◌≤◌, ◌<◌, ◌≡◌, ◌⊎◌}

-- The count went up, or stands at the greatest value of its type, where it can rise no further.
abbrev pub HasRisen : ℕ → ℕ → Type 0
HasRisen before now = (before < now) ⊎ (2 ^ 64 ≤ now + 1)

-- The count of faults did not fall, and it has risen where the call failed.
pub record HasCause (before now : ℕ) (Failed : Type 0) : Type 0 where
  pub later : before ≤ now
  pub risen : Failed → HasRisen before now

-- The count of faults is as before, but where the call failed.
abbrev pub IsQuiet : ℕ → ℕ → Type 0 → Type 0
IsQuiet before now Failed = ¬ Failed → now ≡ before
