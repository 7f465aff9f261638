-- The calls that a host in memory had, played again.
use Rattle.std.specs.Prelude.{ℕ, ◌+◌, ◌≤◌, if◌then◌else◌, nat_eq, List, [], ◌∷◌, ◌++◌, length, IfSome, Some, string_bytes}
use Rattle.std.specs.Str.{bytes_eq}
use Rattle.vs_host.specs.File.{written, cut_to, synced_file}
use Rattle.vs_host.specs.Disk.{Disk, Name, Mode, Renames, Removes, content_in, names_of, like, owner_mode}
use Rattle.vs_host.specs.Trace.{Kind, Snapshot, Began, ReadScript, WroteOutput}
use Rattle.vs_host.specs.Trace as Kinds
use Rattle.vs_memory.specs.declared.log.Call.{Call}
use Rattle.vs_memory.specs.declared.log.Call.TheVariants.{Read, Write, Has, Create, Len, ReadAt, WriteAt, Cut, Sync, SyncLike, Rename, Remove, SyncNames}
use Rattle.vs_memory.specs.declared.log.Entry.{Entry}
use Rattle.vs_memory.specs.Folders.{no_names, on_file, with_file, with_change, with_names}

-- what a call makes of the folder
abbrev pub played : Call → Disk → Disk
played (Create name mode) disk = with_file (string_bytes name) mode disk
played (WriteAt name at piece) disk = on_file (string_bytes name) (written at piece.items) disk
played (Cut name len) disk = on_file (string_bytes name) (cut_to len) disk
played (Sync name) disk = on_file (string_bytes name) (λ file. synced_file file.bytes) disk
played (SyncLike model name) disk = on_file (string_bytes name) (λ file. synced_file file.bytes) (like (string_bytes model) (string_bytes name) disk)
played (Rename from to) disk = with_change (Renames (string_bytes from) (string_bytes to)) disk
played (Remove name) disk = with_change (Removes (string_bytes name)) disk
played SyncNames disk = with_names disk
played call disk = disk

-- what a call writes to the output
abbrev pub said : Call → List ℕ → List ℕ
said (Write piece) output = output ++ piece.items
said call output = output

-- what a call asks of the folder
abbrev pub CanPlay : Call → Disk → Type 0
CanPlay (WriteAt name at piece) disk = IfSome (content_in disk (string_bytes name)) (λ bytes. at ≤ length bytes)
CanPlay (Cut name len) disk = IfSome (content_in disk (string_bytes name)) (λ bytes. len ≤ length bytes)
CanPlay call disk = Unit {0}

-- the kind of a call
abbrev pub kind_of : Call → Kind
kind_of Read = ReadScript
kind_of (Write piece) = WroteOutput
kind_of (Has name) = Kinds.Looked
kind_of (Create name mode) = Kinds.Created
kind_of (Len name) = Kinds.Measured
kind_of (ReadAt name) = Kinds.Read
kind_of (WriteAt name at piece) = Kinds.Wrote
kind_of (Cut name len) = Kinds.Cut
kind_of (Sync name) = Kinds.Synced
kind_of (SyncLike model name) = Kinds.Synced
kind_of (Rename from to) = Kinds.Renamed
kind_of (Remove name) = Kinds.Removed
kind_of SyncNames = Kinds.SyncedNames

-- the names that a call is given
abbrev pub names_in : Call → List Name
names_in Read = []
names_in (Write piece) = []
names_in (Has name) = string_bytes name ∷ []
names_in (Create name mode) = string_bytes name ∷ []
names_in (Len name) = string_bytes name ∷ []
names_in (ReadAt name) = string_bytes name ∷ []
names_in (WriteAt name at piece) = string_bytes name ∷ []
names_in (Cut name len) = string_bytes name ∷ []
names_in (Sync name) = string_bytes name ∷ []
names_in (SyncLike model name) = string_bytes name ∷ []
names_in (Rename from to) = string_bytes from ∷ string_bytes to ∷ []
names_in (Remove name) = string_bytes name ∷ []
names_in SyncNames = []

-- who may read a file that is made for all: 644 in octal
abbrev pub usual_mode : Mode
usual_mode = 420

-- a folder with one more synced file of the usual mode under a synced name
abbrev pub with_put : Name → List ℕ → Disk → Disk
with_put name bytes disk = record {
  files = λ other. if nat_eq other disk.made then synced_file bytes else disk.files other;
  modes = λ other. if nat_eq other disk.made then usual_mode else disk.modes other;
  made = disk.made + 1;
  synced = λ other. if bytes_eq name other then Some disk.made else names_of disk other;
  pending = [];
}

-- a folder in which there was never a file
abbrev pub empty_disk : Disk
empty_disk = record { files = λ number. synced_file []; modes = λ number. owner_mode; made = 0; synced = no_names; pending = [] }

-- the folder before the first call: these files, the one that was put last first
abbrev pub base_disk : List (List ℕ × List ℕ) → Disk
base_disk [] = empty_disk
base_disk ((name, bytes) ∷ files) = with_put name bytes (base_disk files)

-- the folder after these calls, the newest of them first
abbrev pub disk_after : List (List ℕ × List ℕ) → List Entry → Disk
disk_after base [] = base_disk base
disk_after base (entry ∷ log) = if entry.done then played entry.call (disk_after base log) else disk_after base log

-- the output after the calls of a log
abbrev pub output_after : List Entry → List ℕ
output_after [] = []
output_after (entry ∷ log) = if entry.done then said entry.call (output_after log) else output_after log

-- the snapshot before the first call
abbrev pub began : List (List ℕ × List ℕ) → Snapshot
began base = record { folder = base_disk base; output = []; script_faults = 0; out_faults = 0; folder_faults = 0; answered = 0; kind = Began; names = [] }

-- the snapshot after a call
abbrev pub logged : List (List ℕ × List ℕ) → Entry → List Entry → Snapshot
logged base entry log = record {
  folder = disk_after base (entry ∷ log);
  output = output_after (entry ∷ log);
  script_faults = entry.script_faults;
  out_faults = entry.out_faults;
  folder_faults = entry.folder_faults;
  answered = entry.answered;
  kind = kind_of entry.call;
  names = names_in entry.call;
}

-- a snapshot after each call of a log, the last one first
abbrev pub trace_after : List (List ℕ × List ℕ) → List Entry → List Snapshot
trace_after base [] = began base ∷ []
trace_after base (entry ∷ log) = logged base entry log ∷ trace_after base log
