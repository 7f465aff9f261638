-- The syncs of a session, and the documents that may be recovered after a stop.
use Rattle.std.specs.Prelude.{◌≡◌, ◌⊎◌, ℕ, ◌<◌, Bool, true, false, if◌then◌else◌, List, [], ◌∷◌, ◌++◌, take, Option, Some, None, Ok}
use Rattle.vs_host.specs.Disk.{Disk, IsImage}
use Rattle.vs_host.specs.declared.names.Names.{Names}
use Rattle.vs_zero.specs.declared.Zero.{Zero}
use Rattle.vs_zero.specs.Zero.{reading_of}
use Rattle.vs_text.specs.Documents.{Document}
use Rattle.vs_swap.specs.Files.{StandsFor}
use Rattle.vs_swap.specs.Recovery.{Recovered}
use Rattle.vs_pair.specs.declared.side.Side.{Side}
use Rattle.vs_pair.specs.Swap.{IsOpen}
use Rattle.vs_pair.specs.Pair.{Image, NoneThere, Rises, name_of, other_side}

-- the lines of a text
abbrev pub Text : Type 0
Text = List (List ℕ)

-- ---- what a stop leaves

-- The document is one of these.
abbrev pub IsOneOf : Document → List Document → Type 0
IsOneOf document [] = ⊥
IsOneOf document (first ∷ rest) = (document ≡ first) ⊎ IsOneOf document rest

-- recovery from the two swap files of this image gives one of these documents
abbrev pub GivesOneOf : Names → List Document → Image → Type 0
GivesOneOf names documents image = (document : Document) × IsOneOf document documents × Recovered (image names.swp) (image names.swo) document

-- whatever a stop leaves, recovery gives one of these documents
abbrev pub Recovers : Names → List Document → Disk → Type 0
Recovers names documents disk = (image : Image) → IsImage disk image → GivesOneOf names documents image

-- whatever a stop leaves, neither swap file is there, or recovery gives one of these documents
abbrev pub RecoversOrNone : Names → List Document → Disk → Type 0
RecoversOrNone names documents disk = (image : Image) → IsImage disk image → NoneThere names image ⊎ GivesOneOf names documents image

-- whatever a stop leaves, neither swap file is there
abbrev pub NoneLeft : Names → Disk → Type 0
NoneLeft names disk = (image : Image) → IsImage disk image → NoneThere names image

-- ---- the syncs of a session, the newest first

-- A sync of the swap files: the document that it writes, whether that has changes that the edited file has not, and whether the
-- sync counts as acknowledged: then no document from before it is recovered any more.
pub record Sync : Type 0 where
  pub document : Document
  pub dirty : Bool
  pub acknowledged : Bool

-- a sync that has begun, and is not acknowledged
abbrev pub begun : Document → Bool → Sync
begun document dirty = record { document = document; dirty = dirty; acknowledged = false }

-- the document of the last sync that is acknowledged, and those of all that were begun after it
abbrev pub recoverable : List Sync → List Document
recoverable [] = []
recoverable (sync ∷ syncs) = sync.document ∷ (if sync.acknowledged then [] else recoverable syncs)

-- No sync is acknowledged.
abbrev pub NoneAcknowledged : List Sync → Type 0
NoneAcknowledged [] = Unit {0}
NoneAcknowledged (sync ∷ syncs) = (sync.acknowledged ≡ false) × NoneAcknowledged syncs

-- The sync is one of these.
abbrev pub IsSyncIn : Sync → List Sync → Type 0
IsSyncIn sync [] = ⊥
IsSyncIn sync (first ∷ rest) = (sync ≡ first) ⊎ IsSyncIn sync rest

-- the document is that of one of these syncs
abbrev pub IsDocumentOfOne : Document → List Sync → Type 0
IsDocumentOfOne document [] = ⊥
IsDocumentOfOne document (sync ∷ syncs) = (document ≡ sync.document) ⊎ IsDocumentOfOne document syncs

-- this sync is the last one that is acknowledged: these were begun after it, and those before
pub record IsNewestOf (syncs later : List Sync) (newest : Sync) (past : List Sync) : Type 0 where
  pub syncs_are : syncs ≡ later ++ newest ∷ past
  pub acknowledged : newest.acknowledged ≡ true
  pub none_later : NoneAcknowledged later

-- ---- whether a sync is acknowledged

-- The sync that a command begins is acknowledged where the command was carried out. Else it is exactly where, in the folder at
-- the command's end, some swap file stands in every image with a generation above each that stood in some image at its beginning.
pub record IsFlag (names : Names) (done : Bool) (old new : Disk) (acknowledged : Bool) : Type 0 where
  pub if_done : done ≡ true → acknowledged ≡ true
  pub rises : done ≡ false → acknowledged ≡ true → Rises names old new
  pub if_rises : done ≡ false → Rises names old new → acknowledged ≡ true

-- ---- between two commands

-- The bytes of a swap file stand for the document of this sync, with this generation, and page 0 says whether it has changes.
pub record StandsAs (generation : ℕ) (sync : Sync) (file : List ℕ) : Type 0 where
  pub stands : StandsFor file generation sync.document
  pub zero : Zero
  pub reads : reading_of (take 4096 file) ≡ Ok zero
  pub dirty : zero.dirty ≡ sync.dirty

-- The swap file is there, and stands for the document of this sync.
abbrev pub IsThereAs : ℕ → Sync → Option (List ℕ) → Type 0
IsThereAs generation sync None = ⊥
IsThereAs generation sync (Some file) = StandsAs generation sync file

-- The file stands for one of these syncs, with a smaller generation.
pub record StandsEarlier (generation : ℕ) (syncs : List Sync) (file : List ℕ) : Type 0 where
  pub sync : Sync
  pub member : IsSyncIn sync syncs
  pub own : ℕ
  pub stands : StandsAs own sync file
  pub less : own < generation

-- The file stands for one of these syncs, with a greater generation.
pub record StandsLater (generation : ℕ) (syncs : List Sync) (file : List ℕ) : Type 0 where
  pub sync : Sync
  pub member : IsSyncIn sync syncs
  pub own : ℕ
  pub stands : StandsAs own sync file
  pub more : generation < own

-- the file is not there, or not open, or stands for an earlier sync, or for a later one that was begun
abbrev pub IsBeside : ℕ → List Sync → List Sync → Option (List ℕ) → Type 0
IsBeside generation earlier later None = Unit {0}
IsBeside generation earlier later (Some file) = IsOpen file → StandsEarlier generation earlier file ⊎ StandsLater generation later file

-- Between two commands: whatever a stop leaves, one swap file stands for the last acknowledged sync, and the other one is not
-- open, or stands for this or an earlier one with a smaller generation, or for one that was begun since.
pub record IsBetween (names : Names) (syncs : List Sync) (disk : Disk) : Type 0 where
  pub later : List Sync
  pub newest : Sync
  pub past : List Sync
  pub newest_of : IsNewestOf syncs later newest past
  pub side : Side
  pub generation : ℕ
  pub there : (image : Image) → IsImage disk image → IsThereAs generation newest (image (name_of names side))
  pub beside : (image : Image) → IsImage disk image → IsBeside generation (newest ∷ past) later (image (name_of names (other_side side)))
