-- From when on a command that writes the file with a backup leaves the file or its backup whole.
use Rattle.std.specs.Prelude.{◌≡◌, ◌⊎◌, ℕ, true, false, List, Some}
use Rattle.vs_host.specs.Disk.{Name}
use Rattle.vs_host.specs.Trace.{GoesOn}
use Rattle.vs_host.specs.World.{HasNewest, Scene}
use Rattle.vs_host.specs.declared.names.Names.{Names}
use Rattle.vs_backup.specs.Works.{Follows, HasSynced}
use Rattle.vs_backup.specs.Writing.{IsWhole}
use Rattle.vs_excmd.specs.Request.{Instruction}
use Rattle.vs_machine.specs.Machine.{took_effect}
use Rattle.vs_safety.specs.Writes.{IsUntouched, backup_for, new_bytes, old_bytes}
use Rattle.vs_session.specs.Session.{SessionState, Ended, begins_write, write_in}

-- The file and its backup are untouched, at each moment and now, since the start and since the moment before.
pub record StaysUntouched (name backup : Name) (old new : Scene) : Type 0 where
  pub moments : GoesOn (λ m. IsUntouched name backup old.folder m.folder) old.trace new.trace
  pub now : IsUntouched name backup old.folder new.folder
  pub next : Follows (IsUntouched name backup) old.folder moments.added new.folder

-- There is a moment whose last two calls synced the file and then the names. Up to it the file and its backup stay untouched. From it on,
-- at each moment and now, in each image one of them has the old or the new bytes whole.
pub record BecomesWhole (name backup : Name) (was bytes : List ℕ) (old new : Scene) : Type 0 where
  pub begun : Scene
  pub moment : HasNewest begun
  pub synced : HasSynced name begun
  pub untouched : StaysUntouched name backup old begun
  pub at_once : IsWhole name backup was bytes begun.folder
  pub later : GoesOn (λ m. IsWhole name backup was bytes m.folder) begun.trace new.trace
  pub now : IsWhole name backup was bytes new.folder

-- A command that begins to write the file, which is there and has a backup, makes it so; or it was refused before that for a failed call or
-- want of memory, and both stay untouched.
abbrev pub StaysWhole : Names → SessionState → Instruction → Ended → Scene → Scene → Type 0
StaysWhole names state instruction ended old new =
    let write = write_in state ended.found in
    begins_write state instruction ended ≡ true → (was : List ℕ) (backup : Name) → old_bytes names write ≡ Some was → backup_for names write ≡ Some backup
    → BecomesWhole names.file backup was (new_bytes write) old new
    ⊎ ((took_effect ended.mark.outcome ≡ false) × StaysUntouched names.file backup old new)
