-- A folder in memory, and what the calls make of a folder.
use Rattle.std.specs.Prelude.{◌≤◌, ◌+◌, nat_eq, nat_lt, IsTrue, Bool, true, if◌then◌else◌, ℕ, List, [], ◌∷◌, ◌++◌, map, reverse, take, drop, length}
use Rattle.std.specs.Prelude.{get_or, Some, None, All, string_bytes}
use Rattle.std.specs.declared.option.Option.{Option}
use Rattle.vs_host.specs.File.{File, synced_file}
use Rattle.vs_host.specs.Disk.{Disk, Name, Directory, Mode, Creates, Renames, Removes, after_changes, names_of, owner_mode}
use Rattle.vs_host.specs.Disk as Disks
use Rattle.vs_memory.specs.declared.names.NameChange.{NameChange}
use Rattle.vs_memory.specs.declared.names.NameChange.TheVariants.{Create, Rename, Remove}
use Rattle.vs_memory.specs.declared.file.MemFile.{MemFile}
use Rattle.vs_memory.specs.declared.file.Changed.{Changed}

-- a folder without a file
abbrev pub no_names : Directory
no_names name = None

-- a change of names as the model of a folder has it
abbrev pub change_of : NameChange → Disks.Change
change_of (Create name number) = Creates (string_bytes name) number
change_of (Rename from to) = Renames (string_bytes from) (string_bytes to)
change_of (Remove name) = Removes (string_bytes name)

-- the ranges that changed, the newest first
abbrev pub ranges_of : List Changed → List (ℕ × ℕ)
ranges_of ranges = map (λ (range : Changed). (range.at, range.len)) (reverse ranges)

-- the bytes before a range changed
abbrev pub before_change : Changed → List ℕ → List ℕ
before_change range bytes = take range.at bytes ++ range.before.items ++ drop (range.at + range.len) bytes

-- the bytes before these ranges changed, the newest of them first
abbrev pub undone : List Changed → List ℕ → List ℕ
undone [] bytes = bytes
undone (range ∷ ranges) bytes = undone ranges (before_change range bytes)

-- a file as the model has it
abbrev pub file_of : MemFile → File
file_of file = record {
  bytes = file.bytes.items;
  synced = undone (reverse file.changed.items) file.bytes.items;
  changed = ranges_of file.changed.items;
  least = file.least;
  greatest = file.greatest;
}

-- the file of a number
abbrev pub file_at : List MemFile → ℕ → File
file_at files number = get_or (map file_of files) number (synced_file [])

-- the mode of the file of a number
abbrev pub mode_at : List MemFile → ℕ → Mode
mode_at files number = get_or (map (λ (file : MemFile). file.mode) files) number owner_mode

-- the folder with these name changes, the oldest first, the newest `pending` of which are not synced, and these files
abbrev pub disk_of : List NameChange → ℕ → List MemFile → Disk
disk_of changes pending files = record {
  files = λ number. file_at files number;
  modes = λ number. mode_at files number;
  made = length files;
  synced = after_changes (drop pending (map change_of (reverse changes))) no_names;
  pending = take pending (map change_of (reverse changes));
}

-- the file that a name leads to, changed
abbrev pub on_number : Option ℕ → (File → File) → Disk → Disk
on_number None change disk = disk
on_number (Some number) change disk = record {
  files = λ other. if nat_eq other number then change (disk.files other) else disk.files other;
  modes = disk.modes;
  made = disk.made;
  synced = disk.synced;
  pending = disk.pending;
}

-- a change of the file to which a name leads
abbrev pub on_file : Name → (File → File) → Disk → Disk
on_file name change disk = on_number (names_of disk name) change disk

-- one file more, of a mode, under a name
abbrev pub with_file : Name → Mode → Disk → Disk
with_file name mode disk = record {
  files = λ other. if nat_eq other disk.made then synced_file [] else disk.files other;
  modes = λ other. if nat_eq other disk.made then mode else disk.modes other;
  made = disk.made + 1;
  synced = disk.synced;
  pending = Creates name disk.made ∷ disk.pending;
}

-- one name change more
abbrev pub with_change : Disks.Change → Disk → Disk
with_change change disk = record disk { pending = change ∷ disk.pending }

-- all name changes synced
abbrev pub with_names : Disk → Disk
with_names disk = record disk { synced = names_of disk; pending = [] }

-- a file that is given a name is one of those that were made
abbrev pub is_below : ℕ → NameChange → Bool
is_below made (Create name number) = nat_lt number made
is_below made (Rename from to) = true
is_below made (Remove name) = true

-- The files of a change of names were made before.
abbrev pub IsBelow : ℕ → NameChange → Type 0
IsBelow made change = IsTrue (is_below made change)

-- The numbers of a folder in memory fit each other.
pub record IsMemFolder (changes : List NameChange) (unsynced made : ℕ) : Type 0 where
  pub within : unsynced ≤ length changes
  pub below : All (IsBelow made) changes
