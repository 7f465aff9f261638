-- The pages of a pair while the pair and the folder are lent to a store.
use Rattle.std.specs.Prelude.{◌≡◌, ◌⊎◌, IsTrue}
use Rattle.vs_host.specs.Disk.{Disk}
use Rattle.vs_host.specs.World.{Tells, Scene, ReadsFolder}
use Rattle.vs_disk.specs.Faults.{NeverFalls}
use Rattle.vs_disk.specs.Runs.{Looks}
use Rattle.vs_pages.specs.Memory.{AreBacked}
use Rattle.vs_pair.specs.declared.pair.SwapPair.{SwapPair}
use Rattle.vs_pair.specs.Acts.{JustReads}
use Rattle.vs_pair.specs.Cached.{IsCacheOf, was_away}
use Rattle.vs_pair.specs.Held.{KeepsHeld}
use Rattle.vs_pair.specs.Pair.{away_of, held_in, known_of, HasFit}
use Rattle.vs_pair.specs.Steps.{IsFresh}

-- Each page that is away stands in the file of the last acknowledged sync, and where the cache has it, it is the one that stands there.
pub record IsStored (pair : SwapPair) (disk : Disk) : Type 0 where
  pub backed : AreBacked (away_of pair.files disk) pair.pages
  pub cached : IsCacheOf (was_away pair.pages) (away_of pair.files disk) pair.cache

-- The pair was not started and no image has a swap file, or it was started and fits the folder.
pub record IsReady (pair : SwapPair) (disk : Disk) : Type 0 where
  pub stored : IsStored pair disk
  pub begun : ((pair.files.generation ≡ 0) × IsFresh pair.files.names disk) ⊎ HasFit (known_of pair disk) disk

-- The swap files are as they were known, each commit that changed a page is known, and the folder was only looked at, by calls that read
-- bytes of a file. The counts at each moment tell when calls failed.
pub record KeepsFiles (tells : Tells) (pair_old pair_new : SwapPair) (old new : Scene) : Type 0 where
  pub files : pair_new.files ≡ pair_old.files
  pub held : IsTrue tells.folder → KeepsHeld (held_in pair_old old.folder) (held_in pair_new new.folder)
  pub frame : ReadsFolder old new
  pub looks : IsTrue tells.folder → Looks old new
  pub reads : IsTrue tells.folder → JustReads old new
  pub counts : IsTrue tells.folder → NeverFalls old new
