-- The storing of a session's undo file.
use Rattle.std.specs.Prelude.{◌⊎◌, ℕ, List, Option, IsSomeAnd}
use Rattle.vs_host.specs.Disk.{Disk}
use Rattle.vs_host.specs.declared.names.Names.{Names}
use Rattle.vs_disk.specs.Images.{MayLeave}
use Rattle.vs_backup.specs.Works.{Spares, two_names}
use Rattle.vs_undo.specs.History.{History}
use Rattle.vs_safety.specs.Texts.{Text}
use Rattle.vs_safety.specs.Undo.{IsUndoOf}

-- While the undo file of this text and this history is stored: all names but its own and its temporary one are spared, and a stop
-- leaves under its name what it might leave before, or the whole undo file.
pub record StoresUndo (names : Names) (text : Text) (history : History) (old new : Disk) : Type 0 where
  pub spares : Spares (two_names names.undo_new names.undo) old new
  pub undo : (left : Option (List ℕ)) → MayLeave new names.undo left → MayLeave old names.undo left ⊎ IsSomeAnd left (IsUndoOf text history)
