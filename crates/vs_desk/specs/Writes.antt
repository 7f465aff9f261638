-- A write of a text into its file, and what a stop leaves of the swap files meanwhile.
use Rattle.std.specs.Prelude.{◌≡◌, ◌⊎◌, ℕ, List, Some, None, IsSome, Result, true, false}
use Rattle.vs_host.specs.Disk.{Disk, Name}
use Rattle.vs_host.specs.World.{Scene, content_of}
use Rattle.vs_host.specs.declared.names.Names.{Names}
use Rattle.vs_text.specs.Documents.{Document}
use Rattle.vs_backup.specs.Backups.{backs_up, backup_of}
use Rattle.vs_backup.specs.Writing.{FindsNoName, IsUnseen, WritesInPlace, WritesNew, WritesWith}
use Rattle.vs_backup.specs.declared.errors.WriteErr.{WriteErr}
use Rattle.vs_backup.specs.declared.options.WriteOptions.{WriteOptions}
use Rattle.vs_disk.specs.Names.{SameAt}
use Rattle.vs_pair.specs.Pair.{is_swap}
use Rattle.vs_safety.specs.Texts.{Recovers}

-- A write of these bytes into the file of these names, by what is there. It may end before that is found out.
pub record WritesFile (options : WriteOptions) (names : Names) (new : List ℕ) (before after : Scene) (result : Result ℕ WriteErr) : Type 0 where
  -- a file, with a backup
  pub backed : (old : List ℕ) → content_of before names.file ≡ Some old → (backup : Name) → backup_of options names.file before.folder ≡ Some backup
      → IsUnseen before after result ⊎ WritesWith options names.file backup old new before after result
  -- a file, where every backup name is taken
  pub all_taken : IsSome (content_of before names.file) → backs_up options ≡ true → backup_of options names.file before.folder ≡ None
      → IsUnseen before after result ⊎ FindsNoName before after result
  -- a file, without a backup
  pub plain : (old : List ℕ) → content_of before names.file ≡ Some old → backs_up options ≡ false
      → IsUnseen before after result ⊎ WritesInPlace names.file old new before after result
  -- no file
  pub fresh : content_of before names.file ≡ None → IsUnseen before after result ⊎ WritesNew names.file_new names.file new before after result

-- The two swap files are as they were, and whatever a stop leaves, one of these documents is recovered.
pub record KeepsSwap (names : Names) (documents : List Document) (old new : Disk) : Type 0 where
  pub same : SameAt (is_swap names) old new
  pub recovers : Recovers names documents new
