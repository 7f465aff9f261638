-- One image of a folder: what is kept of each file, and how many of the pending name changes.
use Rattle.std.specs.Prelude.{◌≡◌, ℕ, ◌-◌, if◌then◌else◌, List, map, reverse, length, get_or, Some, None, IsSome, string_bytes}
use Rattle.std.specs.declared.option.Option.{Option}
use Rattle.std.specs.List.{range_with_len}
use Rattle.vs_host.specs.File.{File, covers}
use Rattle.vs_host.specs.Disk.{Disk, Name, Directory, after_changes, names_at, content_in}
use Rattle.vs_memory.specs.declared.names.NameChange.{NameChange}
use Rattle.vs_memory.specs.declared.names.NameChange.TheVariants.{Create, Rename, Remove}
use Rattle.vs_memory.specs.declared.file.MemFile.{MemFile}
use Rattle.vs_memory.specs.declared.choice.Choice.{Choice}
use Rattle.vs_memory.specs.declared.choice.Keep.{Keep}
use Rattle.vs_memory.specs.declared.choice.Keep.TheVariants.{Read, Synced, Byte}
use Rattle.vs_memory.specs.Folders.{change_of, no_names, file_at}
use Rattle.vs_memory.specs.Replay.{base_disk}

-- the bytes with one byte throughout these ranges
abbrev pub filled : List (ℕ × ℕ) → ℕ → List ℕ → List ℕ
filled ranges byte bytes = map (λ k. if covers ranges k then byte else get_or bytes k 0) (range_with_len 0 (length bytes))

-- what is kept of a file
abbrev pub kept_bytes : Keep → File → List ℕ
kept_bytes Read file = file.bytes
kept_bytes Synced file = file.synced
kept_bytes (Byte byte) file = filled file.changed byte file.bytes

-- what is kept under a name that leads to this file, or to none
abbrev pub kept_under : Keep → (ℕ → File) → Option ℕ → Option (List ℕ)
kept_under keep files None = None
kept_under keep files (Some number) = Some (kept_bytes keep (files number))

-- The image that a choice makes: the first `names` of the pending name changes, and what is kept of each file.
abbrev pub chosen : Choice → Disk → Name → Option (List ℕ)
chosen choice disk name = kept_under choice.keep disk.files (names_at disk (length disk.pending - choice.names) name)

-- the names after these changes
abbrev pub names_after : List NameChange → Directory
names_after kept = after_changes (map change_of (reverse kept)) no_names

-- the bytes under a name of a host that was not called
abbrev pub put_under : List (List ℕ × List ℕ) → Name → Option (List ℕ)
put_under base name = content_in (base_disk base) name

-- After these changes the name leads to a file of which these bytes are kept.
pub record IsLeft (keep : Keep) (files : List MemFile) (kept : List NameChange) (name : Name) (c : List ℕ) : Type 0 where
  pub number : ℕ
  pub leads : names_after kept name ≡ Some number
  pub is : c ≡ kept_bytes keep (file_at files number)

-- all that was put is left
abbrev pub AreLeft : Keep → List MemFile → List NameChange → List (List ℕ × List ℕ) → Type 0
AreLeft keep files kept base = (name : Name) (c : List ℕ) → put_under base name ≡ Some c → IsLeft keep files kept name c

-- the change gives a file this name
abbrev pub Gives : NameChange → Name → Type 0
Gives (Create name number) other = string_bytes name ≡ other
Gives (Rename from to) other = string_bytes to ≡ other
Gives (Remove name) other = ⊥

-- The names that the change gives are put, where they are left.
abbrev pub IsPut : List NameChange → List (List ℕ × List ℕ) → NameChange → Type 0
IsPut kept base change = (name : Name) → Gives change name → IsSome (names_after kept name) → IsSome (put_under base name)
