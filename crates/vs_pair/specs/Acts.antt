-- What a function says of its work on a folder that it is lent.
use Rattle.std.specs.Prelude.{◌≡◌, ◌≤◌, ◌+◌, ℕ, List, [], ◌∷◌, length, IsTrue}
use Rattle.vs_faults.specs.Faults.{HasCause}
use Rattle.vs_host.specs.Disk.{Disk}
use Rattle.vs_host.specs.Trace.{Kind, Read, Snapshot, GoesOn}
use Rattle.vs_host.specs.World.{Tells, Scene, ChangesFolder, ReadsFolder}
use Rattle.vs_disk.specs.Faults.{NeverFalls}
use Rattle.vs_disk.specs.Modes.{MakesPrivate}
use Rattle.vs_disk.specs.Runs.{Runs, FailsLast}

-- Only the folder, its faults and the trace changed. Where the folder is told, the step leads from the folder at the start to
-- that of each snapshot since and to that now, and no call but the last one failed. A file that was made is for its owner alone.
pub record Acts (tells : Tells) (step : Disk → Disk → Type 0) (old new : Scene) : Type 0 where
  pub frame : ChangesFolder old new
  pub later : old.folder_faults ≤ new.folder_faults
  pub runs : IsTrue tells.folder → Runs step old new
  pub last : IsTrue tells.folder → FailsLast old new
  pub modes : MakesPrivate tells old new

-- 1 for a call that reads bytes of a file, else 0
abbrev pub one_read : Kind → ℕ
one_read Read = 1
one_read kind = 0

-- how many calls of the trace read bytes of a file
abbrev pub reads_in : List Snapshot → ℕ
reads_in [] = 0
reads_in (snapshot ∷ trace) = one_read snapshot.kind + reads_in trace

-- Each call since then read bytes of a file.
abbrev pub JustReads : Scene → Scene → Type 0
JustReads old new = GoesOn (λ m. m.kind ≡ Read) old.trace new.trace

-- Where the folder is told, at most so many calls were made on the host beside those that read bytes of a file, and at most so many that do.
pub record WorksAtMost (tells : Tells) (old new : Scene) (most most_reads : ℕ) : Type 0 where
  pub calls : IsTrue tells.folder → length new.trace + reads_in old.trace ≤ length old.trace + reads_in new.trace + most
  pub reads : IsTrue tells.folder → reads_in new.trace ≤ reads_in old.trace + most_reads

-- The folder was only read, by so many calls at most, and its faults have risen where a call failed.
pub record OnlyRead (tells : Tells) (Failed : Type 0) (old new : Scene) (most : ℕ) : Type 0 where
  pub frame : ReadsFolder old new
  pub cause : HasCause old.folder_faults new.folder_faults Failed
  pub acts : Acts tells (λ a b. b ≡ a) old new
  pub counts : IsTrue tells.folder → NeverFalls old new
  pub works : WorksAtMost tells old new 0 most
