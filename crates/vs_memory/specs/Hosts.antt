-- What a host in memory keeps.
use Rattle.std.specs.Prelude.{◌≡◌, ◌≤◌, ℕ, List, length}
use Rattle.vs_host.specs.File.{IsFileImage}
use Rattle.vs_host.specs.Disk.{Disk}
use Rattle.vs_host.specs.Trace.{most_faults}
use Rattle.vs_memory.specs.declared.log.Entry.{Entry}
use Rattle.vs_memory.specs.declared.folder.MemFolder.{MemFolder}
use Rattle.vs_memory.specs.Present.{disk_in}
use Rattle.vs_memory.specs.Replay.{disk_after, output_after, trace_after}

-- the bytes of the last sync are an image of each file
abbrev pub AreSynced : Disk → Type 0
AreSynced disk = (number : ℕ) → IsFileImage (disk.files number) (disk.files number).synced

-- Folder and output are what the log of the calls gives, and it has no more calls and faults than were counted.
pub record IsHost (present : MemFolder) (output : List ℕ) (base : List (List ℕ × List ℕ)) (log : List Entry)
    (calls faults script_at script_len : ℕ) : Type 0 where
  pub folder : disk_in present ≡ disk_after base log
  pub synced : AreSynced (disk_after base log)
  pub said : output ≡ output_after log
  pub counted : length log ≤ calls
  pub faulted : most_faults (trace_after base log) ≤ faults
  pub within : script_at ≤ script_len
