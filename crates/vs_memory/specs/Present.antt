-- The folder that a folder in memory plays.
use Rattle.vs_host.specs.Disk.{Disk}
use Rattle.vs_memory.specs.Folders.{disk_of}
use Rattle.vs_memory.specs.declared.folder.MemFolder.{MemFolder}

-- a folder in memory as the model has it
abbrev pub disk_in : MemFolder → Disk
disk_in folder = disk_of folder.changes.items folder.pending folder.files.items
