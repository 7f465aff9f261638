-- What a command writes beside the swap files: the edited file with its backup, the undo file, or both in this order.
use Rattle.std.specs.Prelude.{◌≡◌, ◌⊎◌, ◌&&◌, Bool, not, [], Option, Some, None}
use Rattle.vs_host.specs.Disk.{Disk, Name}
use Rattle.vs_host.specs.declared.names.Names.{Names}
use Rattle.vs_disk.specs.Images.{HoldsBytes}
use Rattle.vs_disk.specs.Names.{IsApart, SameAt}
use Rattle.vs_pair.specs.Pair.{is_foreign}
use Rattle.vs_backup.specs.Works.{IsOutside, two_names}
use Rattle.vs_safety.specs.Writes.{Write, AreIn, Avoids, HasWritten, IsWholeIn, State, new_bytes}
use Rattle.vs_safety.specs.Undo.{HasStored, IsUndoIn, LeavesUndo, UndoWrite}

-- What a command writes beside the swap files: the edited file with its backup, the undo file, or both.
pub data FileWork : Type 0 where
  EditedFile : Write → FileWork
  UndoFile : UndoWrite → FileWork
  BothFiles : Write → UndoWrite → FileWork

-- the undo file that a command stores, where it stores one
abbrev pub undo_stored : Option FileWork → Option UndoWrite
undo_stored None = None
undo_stored (Some (EditedFile write)) = None
undo_stored (Some (UndoFile undo)) = Some undo
undo_stored (Some (BothFiles write undo)) = Some undo

-- ---- other names

-- the command works on no name of the set
abbrev pub AvoidsFiles : Names → FileWork → (Name → Bool) → Type 0
AvoidsFiles names (EditedFile write) inside = Avoids names write inside
AvoidsFiles names (UndoFile undo) inside = IsOutside (two_names names.undo_new names.undo) inside
AvoidsFiles names (BothFiles write undo) inside = Avoids names write inside × IsOutside (two_names names.undo_new names.undo) inside

-- Of these other names those on which the command does not work are left: a set of them to whose files no name outside leads, and a
-- set that was spared since a folder in which no change of a name was pending.
pub record KeepsOthers (others : Name → Bool) (names : Names) (work : FileWork) (old new : Disk) : Type 0 where
  pub apart : (inside : Name → Bool) → AreIn others inside → AvoidsFiles names work inside → IsApart inside old → SameAt inside old new
  pub settled : (inside : Name → Bool) (start : Disk) → AreIn others inside → AvoidsFiles names work inside → start.pending ≡ [] →
      SameAt inside start old → SameAt inside start new

-- What a command leaves of other names, none of which is of its pair: all, where it writes no other file; all on which it does not
-- work, where it stores the undo file alone; and where it writes the edited file, those of them to whose files no other name leads.
abbrev pub KeepsAmong : (Name → Bool) → Names → Option FileWork → Disk → Disk → Type 0
KeepsAmong others names None old new = SameAt others old new
KeepsAmong others names (Some (UndoFile undo)) old new =
    (inside : Name → Bool) → AreIn others inside → AvoidsFiles names (UndoFile undo) inside → SameAt inside old new
KeepsAmong others names (Some (EditedFile write)) old new = KeepsOthers others names (EditedFile write) old new
KeepsAmong others names (Some (BothFiles write undo)) old new = KeepsOthers others names (BothFiles write undo) old new

-- what it leaves of all names that are not of its pair
abbrev pub Keeps : Names → Option FileWork → Disk → Disk → Type 0
Keeps names = KeepsAmong (is_foreign names) names

-- ---- the files

-- the work is done in the folder as the command found it
abbrev pub IsFoundIn : FileWork → Disk → Type 0
IsFoundIn (EditedFile write) folder = write.found ≡ folder
IsFoundIn (UndoFile undo) folder = undo.found ≡ folder
IsFoundIn (BothFiles write undo) folder = (write.found ≡ folder) × (undo.found ≡ folder)

-- The undo file goes after the edited file: a stop leaves of it what it might leave before, or the file has the new bytes in each image.
abbrev pub GoesAfter : Names → Write → Disk → Type 0
GoesAfter names write folder = LeavesUndo names write.found folder ⊎ HoldsBytes names.file (new_bytes write) folder

-- a moment of the work
abbrev pub IsWholeAt : Names → FileWork → Disk → Type 0
IsWholeAt names (EditedFile write) folder = IsWholeIn names write folder × LeavesUndo names write.found folder
IsWholeAt names (UndoFile undo) folder = IsUndoIn names undo folder
IsWholeAt names (BothFiles write undo) folder = IsWholeIn names write folder × (IsUndoIn names undo folder × GoesAfter names write folder)

-- what is left in the end, where the command had its effect or had not, and was answered that a call failed or was not. Where it had
-- its effect and a call failed, the undo file was not stored.
abbrev pub HasLeft : Names → FileWork → Bool → Bool → State → State → Type 0
HasLeft names (EditedFile write) done failed old new = HasWritten names write done failed old new
HasLeft names (UndoFile undo) done failed old new = HasStored names undo done old new
HasLeft names (BothFiles write undo) done failed old new = HasWritten names write done failed old new × HasStored names undo (done && not failed) old new
