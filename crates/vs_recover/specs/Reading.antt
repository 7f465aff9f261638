-- What a call says of a folder that it only reads.
use Rattle.std.specs.Prelude.{◌≢◌, ℕ, ◌-◌, ◌/◌, length, List, Option, Some, None, Result, Ok, Err, IsTrue, IsErrOf, IsSomeAnd}
use Rattle.vs_faults.specs.Faults.{HasCause}
use Rattle.vs_host.specs.Disk.{Name}
use Rattle.vs_host.specs.World.{Tells, Scene, ReadsFolder, content_of}
use Rattle.vs_disk.specs.Runs.{CallsAtMost, FailsLast, Looks, NoneFails}

-- P, unless the answer is this error
abbrev pub UnlessErrOf : {T E : Type 0} → Result T E → E → Type 0 → Type 0
UnlessErrOf (Ok value) error P = P
UnlessErrOf (Err why) error P = why ≢ error → P

-- The folder was only read, with at most so many calls on the host. Where it is told, it is the same at each moment, and no call on
-- the host but the last one failed. None failed unless the answer is that one failed, and then the count of faults has risen.
pub record ReadsAtMost (tells : Tells) {T E : Type 0} (result : Result T E) (failed : E) (old new : Scene) (most : ℕ) : Type 0 where
  pub frame : ReadsFolder old new
  pub looks : IsTrue tells.folder → Looks old new
  pub last : IsTrue tells.folder → FailsLast old new
  pub none : UnlessErrOf result failed (NoneFails tells old new)
  pub cause : HasCause old.folder_faults new.folder_faults (IsErrOf result failed)
  pub calls : CallsAtMost tells old new most

-- how many whole pages of a file follow its page 0
abbrev pub blocks_of : Option (List ℕ) → ℕ
blocks_of None = 0
blocks_of (Some file) = length file / 4096 - 1

-- how many whole pages of the file under a name follow its page 0
abbrev pub blocks_at : Scene → Name → ℕ
blocks_at scene name = blocks_of (content_of scene name)

-- Where the folder is told, a file is there under the name, and has P.
abbrev pub IsThere : Tells → Scene → Name → (List ℕ → Type 0) → Type 0
IsThere tells scene name P = IsTrue tells.folder → IsSomeAnd (content_of scene name) P
