-- What stands for a folder that is not told.
use Rattle.std.specs.Prelude.{false, IsTrue, [], None}
use Rattle.std.proofs.lemmas.Bool.{false≢true}
use Rattle.vs_host.specs.File.{synced_file}
use Rattle.vs_host.specs.Disk.{Disk, owner_mode}

abbrev pub no_folder : Disk
no_folder = record { files = λ number. synced_file []; modes = λ number. owner_mode; made = 0; synced = λ name. None; pending = [] }

pub never : {X : Type 0} → IsTrue false → X
never told = absurd (false≢true told)
