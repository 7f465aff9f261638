-- Which modes the files have that a write makes, and from which file a file takes its mode.
use Rattle.std.specs.Prelude.{◌≡◌, Bool, Option, Some, None, IfSome, IsSome, IsTrue}
use Rattle.vs_host.specs.Disk.{Mode, Name, mode_in, owner_mode}
use Rattle.vs_host.specs.World.{Tells, Scene, content_of}
use Rattle.vs_disk.specs.Modes.{IsOf, KeepsModes, MakesLike}
use Rattle.vs_disk.specs.Runs.{Runs}
use Rattle.vs_backup.specs.declared.files.Readers.{Readers}
use Rattle.vs_backup.specs.declared.files.Readers.TheVariants.{Usual, Owner}

-- Where a file of the name is there, a stop at any moment of the call leaves files that stood so before, files that are for their owner
-- alone, and files with its mode.
abbrev pub RewritesLike : Tells → Name → Scene → Scene → Type 0
RewritesLike tells name old new = IsSome (mode_in old.folder name) → MakesLike tells name old new

-- A stop at any moment of the call leaves files that stood so before, files that are for their owner alone, and files of this mode, if one
-- is given.
pub record Makes (told : Bool) (given : Option Mode) (before after : Scene) : Type 0 where
  pub runs : IsTrue told → (allowed : Mode → Bool) → IsOf allowed owner_mode → IfSome given (IsOf allowed) → Runs (KeepsModes allowed) before after

-- The same, and files of one mode more: the one that the system gave to a new file.
pub record MakesUsual (told : Bool) (before after : Scene) : Type 0 where
  pub given : Mode
  pub makes : Makes told (Some given) before after

-- Which modes the files have that are made for these readers.
abbrev pub MakesFor : Readers → Bool → Scene → Scene → Type 0
MakesFor Usual told before after = MakesUsual told before after
MakesFor Owner told before after = Makes told None before after

-- The file of the second name has the mode that the file of the first one had before, if that was there.
pub record TakesMode (told : Bool) (model name : Name) (before after : Scene) : Type 0 where
  pub same : IsTrue told → IsSome (content_of before model) → mode_in after.folder name ≡ mode_in before.folder model
