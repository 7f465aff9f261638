-- The undo file that a command stores: what a stop leaves under its name while it is stored, and what it leaves in the end.
use Rattle.std.specs.Prelude.{◌≡◌, ◌⊎◌, ℕ, Bool, true, List, Option, IsSomeAnd}
use Rattle.vs_host.specs.Disk.{Disk}
use Rattle.vs_host.specs.declared.names.Names.{Names}
use Rattle.vs_disk.specs.Images.{HoldsBytes, MayLeave}
use Rattle.vs_backup.specs.Works.{IsGone}
use Rattle.vs_undo.specs.History.{History}
use Rattle.vs_ufile.specs.Decode.{IsUndoFile, IsWellFormed}
use Rattle.vs_ufile.specs.Values as file
use Rattle.vs_ufile.specs.Writing.{IsWritten}
use Rattle.vs_ubind.specs.Bound.{IsDataOf}
use Rattle.vs_safety.specs.Texts.{Text}
use Rattle.vs_safety.specs.Writes.{State}

-- These bytes are a well formed undo file whose entries lead from this text to the texts of this history, written as that of a tree
-- at its text, with the fields that a reader passes over.
pub record IsUndoOf (text : Text) (history : History) (bytes : List ℕ) : Type 0 where
  pub contents : file.History
  pub formed : IsWellFormed contents
  pub file : IsUndoFile contents bytes
  pub written : IsWritten contents bytes
  pub made : IsDataOf contents text history

-- The name of the undo file has one of this text and this history in each image, and no image has a file under its temporary name.
abbrev pub HasUndo : Names → Text → History → Disk → Type 0
HasUndo names text history folder = (bytes : List ℕ) × IsUndoOf text history bytes × HoldsBytes names.undo bytes folder × IsGone names.undo_new folder

-- An undo file that a command stores: the text that it is made for and the history that it is to hold, and the folder when the
-- command began.
pub record UndoWrite : Type 0 where
  pub text : Text
  pub history : History
  pub found : Disk

-- A stop leaves under the name of the undo file only what it might leave before.
abbrev pub LeavesUndo : Names → Disk → Disk → Type 0
LeavesUndo names old new = (left : Option (List ℕ)) → MayLeave new names.undo left → MayLeave old names.undo left

-- A moment while it is stored: a stop leaves under the name of the undo file what it might leave before, or a whole undo file of the
-- history at its text.
abbrev pub IsUndoIn : Names → UndoWrite → Disk → Type 0
IsUndoIn names undo folder =
    (left : Option (List ℕ)) → MayLeave folder names.undo left → MayLeave undo.found names.undo left ⊎ IsSomeAnd left (IsUndoOf undo.text undo.history)

-- What is left in the end, where the command was carried out.
pub record HasStored (names : Names) (undo : UndoWrite) (done : Bool) (old new : State) : Type 0 where
  pub found : undo.found ≡ old.folder
  pub stored : done ≡ true → HasUndo names undo.text undo.history new.folder
