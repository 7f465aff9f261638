-- The count of failed calls while a text is written.
use Rattle.std.specs.Prelude.{◌≤◌}
use Rattle.vs_host.specs.Trace.{GoesOn}
use Rattle.vs_host.specs.World.{Scene}

-- The count of the folder's faults did not fall, and no snapshot since has a higher one than now.
pub record NoneAbove (old new : Scene) : Type 0 where
  pub later : old.folder_faults ≤ new.folder_faults
  pub moments : GoesOn (λ m. m.folder_faults ≤ new.folder_faults) old.trace new.trace
