-- A text whose swap files are in the folder.
use Rattle.std.specs.Prelude.{List}
use Rattle.vs_host.specs.Disk.{Disk}
use Rattle.vs_safety.specs.Texts.{Sync, Text}
use Rattle.vs_paged.specs.Fits.{Fits}
use Rattle.vs_paged.specs.declared.paged.PagedText.{PagedText}

-- The text fits the folder, whatever it is and was synced.
abbrev pub IsStarted : PagedText → Disk → Type 0
IsStarted paged disk = (text : Text) × (syncs : List Sync) × Fits paged disk text syncs
