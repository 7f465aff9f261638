-- What was written of some bytes, and what a function says of an output that it is lent.
use Rattle.std.specs.Prelude.{◌≡◌, ◌≤◌, ℕ, List, ◌++◌, IsTrue}
use Rattle.vs_host.specs.World.{Tells, Scene, ChangesOutput}
use Rattle.vs_disk.specs.Runs.{Quiet}
use Rattle.vs_modes.specs.Moments.{Proceeds, IsSame}

-- All of the bytes were written but for the rest.
pub record Writes (bytes rest old new : List ℕ) : Type 0 where
  pub part : List ℕ
  pub is : part ++ rest ≡ bytes
  pub output : new ≡ old ++ part

-- A first part of the bytes was written.
abbrev pub WritesPart : List ℕ → List ℕ → List ℕ → Type 0
WritesPart bytes old new = (rest : List ℕ) × Writes bytes rest old new

-- Only the output, its faults and the trace changed. Where the folder is told, it is the same at each moment, and no call on the
-- host but the last one failed.
pub record Outputs (tells : Tells) (old new : Scene) : Type 0 where
  pub frame : ChangesOutput old new
  pub later : old.out_faults ≤ new.out_faults
  pub proceeds : IsTrue tells.folder → Proceeds IsSame old new

-- No write failed, and where the folder is told, no call on the host.
pub record NoWriteFails (tells : Tells) (old new : Scene) : Type 0 where
  pub faults : new.out_faults ≡ old.out_faults
  pub quiet : IsTrue tells.folder → Quiet old new
