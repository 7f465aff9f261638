-- What the swap files of a text in pages have, by the syncs of the session.
use Rattle.std.specs.Prelude.{◌≡◌, Bool, true, IsTrue, List, [], ◌∷◌}
use Rattle.vs_host.specs.Disk.{Disk}
use Rattle.vs_host.specs.World.{Tells}
use Rattle.vs_host.specs.declared.names.Names.{Names}
use Rattle.vs_disk.specs.Names.{SameAt}
use Rattle.vs_text.specs.declared.format.Format.{Format}
use Rattle.vs_text.specs.Documents.{Document}
use Rattle.vs_pair.specs.Swap.{Synced}
use Rattle.vs_pair.specs.Lent.{IsStored}
use Rattle.vs_pair.specs.Pair.{IsFit, IsIn, IsDocumentOf, Unmoved, is_apart, is_foreign, known_of, shown_in}
use Rattle.vs_safety.specs.Texts.{Text, Sync, IsNewestOf, IsSyncIn, Recovers, RecoversOrNone, recoverable}
use Rattle.vs_paged.specs.Pages.{IsPaged}
use Rattle.vs_paged.specs.declared.paged.PagedText.{PagedText}

-- the names of the file and of what goes with it
abbrev pub names_of : PagedText → Names
names_of paged = paged.pair.files.names

-- What the pair wrote is the document of this sync, and says whether it has changes.
pub record Writes (synced : Synced) (sync : Sync) : Type 0 where
  pub document : IsDocumentOf synced sync.document
  pub dirty : synced.head.dirty ≡ sync.dirty

-- What the pair wrote of the newest acknowledged sync, of those begun since, and of earlier ones is what these syncs are.
pub record AreSyncs (newest : Synced) (later past : List Synced) (syncs : List Sync) : Type 0 where
  pub begun_since : List Sync
  pub last : Sync
  pub earlier : List Sync
  pub newest_of : IsNewestOf syncs begun_since last earlier
  pub newest_is : Writes newest last
  pub later_are : (synced : Synced) → IsIn synced later → (sync : Sync) × IsSyncIn sync begun_since × Writes synced sync
  pub past_are : (synced : Synced) → IsIn synced past → (sync : Sync) × IsSyncIn sync (last ∷ earlier) × Writes synced sync

-- The pages have this text, those that are away stand in the file of the last acknowledged sync, and the folder has the swap files that
-- these syncs, the newest first, made.
pub record Fits (paged : PagedText) (disk : Disk) (text : Text) (syncs : List Sync) : Type 0 where
  pub pages : IsPaged (shown_in paged.pair disk) paged.tree text
  pub stored : IsStored paged.pair disk
  pub newest : Synced
  pub later : List Synced
  pub past : List Synced
  pub fit : IsFit (known_of paged.pair disk) disk newest later past
  pub syncs_are : AreSyncs newest later past syncs

-- Where the folder is told, the pages have some text, and the folder has the swap files that some syncs made.
abbrev pub FitsFolder : Tells → PagedText → Disk → Type 0
FitsFolder tells paged disk = IsTrue tells.folder → (text : Text) × (syncs : List Sync) × Fits paged disk text syncs

-- a sync that succeeded
abbrev pub acknowledged_sync : Document → Bool → Sync
acknowledged_sync document dirty = record { document = document; dirty = dirty; acknowledged = true }

-- While both swap files are made: all other names are spared, and whatever a stop leaves, neither is there or the document is recovered.
pub record Starting (names : Names) (document : Document) (old new : Disk) : Type 0 where
  pub spared : SameAt (is_foreign names) old new
  pub safe : RecoversOrNone names (document ∷ []) new

-- While the text is synced in this format: all other names are spared and unmoved, and this document is one of those that may be recovered.
pub record Syncing (paged : PagedText) (format : Format) (old new : Disk) : Type 0 where
  pub spared : (text : Text) (syncs : List Sync) → Fits paged old text syncs → SameAt (is_apart (names_of paged)) old new
  pub unmoved : (text : Text) (syncs : List Sync) → Fits paged old text syncs → Unmoved (is_apart (names_of paged)) old new
  pub safe : (text : Text) (syncs : List Sync) → Fits paged old text syncs
      → Recovers (names_of paged) (record { text = text; format = format } ∷ recoverable syncs) new

-- While both swap files are removed: all other names are spared, and neither file is there, or recovery goes on to give what it might.
pub record Ending (paged : PagedText) (old new : Disk) : Type 0 where
  pub spared : (text : Text) (syncs : List Sync) → Fits paged old text syncs → SameAt (is_apart (names_of paged)) old new
  pub safe : (text : Text) (syncs : List Sync) → Fits paged old text syncs → RecoversOrNone (names_of paged) (recoverable syncs) new
