-- Which backup a write makes.
use Rattle.std.specs.Prelude.{◌≡◌, ℕ, zero, suc, ◌+◌, ◌-◌, Bool, true, false, List, [], ◌∷◌, ◌++◌, length, map, take, codes, Option, Some, None, is_some}
use Rattle.std.specs.Prelude.{IsSome, IsTrue, if◌then◌else◌, ◌&&◌, ◌||◌}
use Rattle.vs_host.specs.Disk.{Disk, Name, content_in}
use Rattle.vs_host.specs.Names.{temporary}
use Rattle.vs_backup.specs.declared.options.CopyMode.{CopyMode}
use Rattle.vs_backup.specs.declared.options.CopyMode.TheVariants.{Yes, No, Auto}
use Rattle.vs_backup.specs.declared.options.WriteOptions.{WriteOptions}

-- the backup name that replaces an older backup
abbrev pub backup_name : Name → Name
backup_name name = name ++ codes "~"

-- the backup name with this letter in the place of the character before the `~`
abbrev pub lettered : Name → ℕ → Name
lettered name letter = take (length name - 1) name ++ letter ∷ codes "~"

-- the first n letters of the alphabet, the last of them first
unfoldable pub letters : ℕ → List ℕ
letters zero = []
letters (suc n) = (97 + n) ∷ letters n

-- the names that a backup may get where it may replace none, in the order in which they are tried
unfoldable pub candidates : Name → List Name
candidates name = backup_name name ∷ map (lettered name) (letters 26)

-- the first of these names that is not there
unfoldable pub first_free : Disk → List Name → Option Name
first_free disk [] = None
first_free disk (name ∷ names) = if is_some (content_in disk name) then first_free disk names else Some name

-- whether a write over a file makes a backup
abbrev pub backs_up : WriteOptions → Bool
backs_up options = options.backup || options.writebackup

-- the name of the backup that a write over a file makes
abbrev pub backup_of : WriteOptions → Name → Disk → Option Name
backup_of options name disk = if options.backup then Some (backup_name name) else (if options.writebackup then first_free disk (candidates name) else None)

-- whether a write of the file of this name makes a backup: where the file is there, and an option asks for one
abbrev pub is_backed : WriteOptions → Name → Disk → Bool
is_backed options name disk = is_some (content_in disk name) && backs_up options

-- A name that a backup may get: one byte longer than that of the file, and with `~` at its end.
pub record IsBackupName (name backup : Name) : Type 0 where
  pub stem : Name
  pub ends : backup ≡ stem ++ codes "~"
  pub longer : length backup ≡ length name + 1

-- whether the file is copied to its backup, and not renamed
abbrev pub copies : CopyMode → Bool
copies Yes = true
copies No = false
copies Auto = false

-- No backup name is free for this write, which asks for a backup that may replace none.
pub record IsNoName (options : WriteOptions) (name : Name) (told : Bool) (disk : Disk) : Type 0 where
  pub off : options.backup ≡ false
  pub on : options.writebackup ≡ true
  pub there : IsTrue told → IsSome (content_in disk name)
  pub taken : IsTrue told → backup_of options name disk ≡ None

-- The names on which a write works: the file; the name under which it is made, where it is not there; and else its backup, with
-- the name under which a copy is made.
pub data WorksOn (options : WriteOptions) (name : Name) (disk : Disk) (other : Name) : Type 0 where
  TheFile : other ≡ name → WorksOn options name disk other
  TheNewFile : content_in disk name ≡ None → other ≡ temporary name → WorksOn options name disk other
  TheBackup : (backup : Name) → IsSome (content_in disk name) → backup_of options name disk ≡ Some backup → other ≡ backup → WorksOn options name disk other
  TheCopy : (backup : Name) → IsSome (content_in disk name) → backup_of options name disk ≡ Some backup
      → copies options.copy ≡ true → other ≡ temporary backup → WorksOn options name disk other
