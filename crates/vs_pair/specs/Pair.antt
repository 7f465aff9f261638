-- The two swap files of a session: which sync each of them has, and what is recovered from them.
use Rattle.std.specs.Prelude.{◌≡◌, ◌≢◌, ◌⊎◌, ℕ, ◌+◌, ◌^◌, ◌<◌, ◌≤◌, ◌==◌, Bool, true, not, ◌||◌, List, [], ◌∷◌, length, Option, Some, None}
use Rattle.std.specs.Str.{bytes_eq}
use Rattle.vs_host.specs.File.{File, Leaves}
use Rattle.vs_host.specs.Disk.{Disk, Name, IsImage, names_at}
use Rattle.vs_host.specs.declared.names.Names.{Names}
use Rattle.vs_host.specs.Names.{AreNames}
use Rattle.vs_disk.specs.Images.{FileAlways}
use Rattle.vs_disk.specs.Names.{SameAt}
use Rattle.vs_pages.specs.Maps.{Map}
use Rattle.vs_pages.specs.Memory.{committed_of, state_under}
use Rattle.vs_pages.specs.State.{PageState}
use Rattle.vs_text.specs.Text.{IsText, stored}
use Rattle.vs_text.specs.Documents.{Document}
use Rattle.vs_tree_shape.specs.Trees.{HasLines}
use Rattle.vs_tree_blocks.specs.Blocks.{tree_format}
use Rattle.vs_swap.specs.Files.{format_number}
use Rattle.vs_swap.specs.Recovery.{StandsIn}
use Rattle.vs_pair.specs.declared.head.Head.{Head}
use Rattle.vs_pair.specs.declared.gate.Gate.{Gate}
use Rattle.vs_pair.specs.declared.gate.Gate.TheVariants.{Open, Closed, Unknown}
use Rattle.vs_pair.specs.declared.side.Side.{Side}
use Rattle.vs_pair.specs.declared.side.Side.TheVariants.{Swp, Swo}
use Rattle.vs_pair.specs.declared.files.SwapFiles.{SwapFiles}
use Rattle.vs_pair.specs.declared.pair.SwapPair.{SwapPair}
use Rattle.vs_pair.specs.declared.written.Written.{Written}
use Rattle.vs_pair.specs.Held.{Held, held_with, pages_under}
use Rattle.vs_pair.specs.Swap.{Synced, body_of, IsOpen, HasBody, Holds, Fits, MayBeClosed}
use Rattle.vs_pair.specs.Stale.{Keeps}

-- what each name leads to in a folder as a stop leaves it
abbrev pub Image : Type 0
Image = Name → Option (List ℕ)

-- ---- the names

-- the other one of the two swap files
abbrev pub other_side : Side → Side
other_side Swp = Swo
other_side Swo = Swp

-- the name of a swap file
abbrev pub name_of : Names → Side → Name
name_of names Swp = names.swp
name_of names Swo = names.swo

-- the name under which a swap file is made, before it takes its own
abbrev pub temporary_of : Names → Side → Name
temporary_of names Swp = names.swp_new
temporary_of names Swo = names.swo_new

-- the two swap files
abbrev pub is_swap : Names → Name → Bool
is_swap names name = bytes_eq names.swp name || bytes_eq names.swo name

-- all other names
abbrev pub is_apart : Names → Name → Bool
is_apart names name = not (is_swap names name)

-- the two swap files, and the names under which they are made
abbrev pub is_pair_name : Names → Name → Bool
is_pair_name names name = is_swap names name || (bytes_eq names.swp_new name || bytes_eq names.swo_new name)

-- Whether the pair has no business with a name.
abbrev pub is_foreign : Names → Name → Bool
is_foreign names name = not (is_pair_name names name)

-- ---- what two files offer

-- A sync is one of these.
abbrev pub IsIn : Synced → List Synced → Type 0
IsIn sync [] = ⊥
IsIn sync (first ∷ rest) = (sync ≡ first) ⊎ IsIn sync rest

-- the file is there, open, and has what this sync wrote
abbrev pub IsThere : Name → Synced → Option (List ℕ) → Type 0
IsThere file sync None = ⊥
IsThere file sync (Some c) = Holds (body_of file sync) c

-- The file has what a sync of these wrote, whose generation is smaller.
pub record HasEarlier (file : Name) (sync : Synced) (older : List Synced) (c : List ℕ) : Type 0 where
  pub earlier : Synced
  pub member : IsIn earlier older
  pub body : HasBody (body_of file earlier) c
  pub less : earlier.generation < sync.generation

-- The file has what a later sync of these wrote.
pub record HasLater (file : Name) (newest : Synced) (later : List Synced) (c : List ℕ) : Type 0 where
  pub sync : Synced
  pub member : IsIn sync later
  pub body : HasBody (body_of file sync) c
  pub more : newest.generation < sync.generation
  pub small : sync.generation < 2 ^ 64

-- the file is not there, or not open, or has what an earlier sync wrote
abbrev pub IsBelow : Name → Synced → List Synced → Option (List ℕ) → Type 0
IsBelow file sync older None = Unit {0}
IsBelow file sync older (Some c) = IsOpen c → HasEarlier file sync older c

-- One of the two files is open and has what this sync wrote. The other one is not open, or has what an earlier one of these wrote.
pub record Offers (names : Names) (older : List Synced) (image : Image) (sync : Synced) : Type 0 where
  pub small : sync.generation < 2 ^ 64
  pub files : (IsThere names.file sync (image names.swp) × IsBelow names.file sync older (image names.swo))
      ⊎ (IsThere names.file sync (image names.swo) × IsBelow names.file sync older (image names.swp))

-- In each image the files offer one of these syncs, above the older ones.
abbrev pub Recovers : Names → List Synced → List Synced → Disk → Type 0
Recovers names syncs older disk = (image : Image) → IsImage disk image → (sync : Synced) × IsIn sync syncs × Offers names older image sync

-- Neither swap file is there.
abbrev pub NoneThere : Names → Image → Type 0
NoneThere names image = (image names.swp ≡ None) × (image names.swo ≡ None)

-- A stop leaves what recovery turns into the document of one of these syncs, or neither swap file.
abbrev pub RecoversOrNone : Names → List Synced → List Synced → Disk → Type 0
RecoversOrNone names syncs older disk = (image : Image) → IsImage disk image
    → NoneThere names image ⊎ ((sync : Synced) × IsIn sync syncs × Offers names older image sync)

-- ---- a pair that was started

-- What a pair knows of its files: which of them has the last acknowledged sync, the gate of the other one, the greatest
-- generation that was used, and what each of them has of the pages.
pub record Known : Type 0 where
  pub names : Names
  pub newer : Side
  pub gate : Gate
  pub generation : ℕ
  pub pages : Held
  pub newer_has : Written
  pub older_has : Written

-- what a pair knows of its two files, as its fields say it
abbrev pub known_with : SwapFiles → Held → Known
known_with files pages = record {
  names = files.names;
  newer = files.newer;
  gate = files.gate;
  generation = files.generation;
  pages = pages;
  newer_has = files.newer_has;
  older_has = files.older_has;
}

-- the pages of the newer file, which stand in the place of those that are away
abbrev pub away_of : SwapFiles → Disk → Map
away_of files disk = pages_under disk (name_of files.names files.newer)

-- what a pair shows of its pages over this folder
abbrev pub shown_in : SwapPair → Disk → PageState
shown_in pair disk = state_under (away_of pair.files disk) pair.pages

-- what it holds of them
abbrev pub held_in : SwapPair → Disk → Held
held_in pair disk = held_with (away_of pair.files disk) pair.pages

-- its committed pages
abbrev pub committed_in : SwapPair → Disk → Map
committed_in pair disk = (held_in pair disk).committed

-- what a pair knows over this folder
abbrev pub known_of : SwapPair → Disk → Known
known_of pair disk = known_with pair.files (held_in pair disk)

-- a sync of the committed pages
abbrev pub sync_with : SwapPair → Disk → ℕ → Head → Synced
sync_with pair disk generation head = record { generation = generation; head = head; pages = committed_in pair disk }

-- a sync of the committed pages before the start, when none is away
abbrev pub sync_fresh : SwapPair → ℕ → Head → Synced
sync_fresh pair generation head = record { generation = generation; head = head; pages = committed_of pair.pages }

-- the sync that is about to begin
abbrev pub sync_of : SwapPair → Disk → Head → Synced
sync_of pair disk head = sync_with pair disk (pair.files.generation + 1) head

-- The file of the older sync has the text of one that was acknowledged before the newest.
pub record IsEarlier (newest older : Synced) (past : List Synced) : Type 0 where
  pub member : IsIn older past
  pub less : older.generation < newest.generation

-- The other file is of a later sync: one that was begun since the newest acknowledged one, and whose opening failed.
pub record IsLater (newest older : Synced) (begun : List Synced) (file : File) : Type 0 where
  pub member : IsIn older begun
  pub more : newest.generation < older.generation
  pub may : MayBeClosed file

-- Which sync the other file has, by its gate: an earlier one, or a later one whose opening failed.
abbrev pub IsOrdered : Gate → Synced → Synced → List Synced → List Synced → File → Type 0
IsOrdered Open newest older begun past file = IsEarlier newest older past
IsOrdered Closed newest older begun past file = Unit {0}
IsOrdered Unknown newest older begun past file = IsEarlier newest older past ⊎ IsLater newest older begun file

-- The pair fits the folder. In each image the newer file stands with what the last acknowledged sync wrote, and the other one is
-- not open, or has what one of the earlier syncs wrote, or one of those that were begun since and failed. The committed pages differ
-- from those of either file only where a commit changed them since.
pub record IsFit (files : Known) (disk : Disk) (newest : Synced) (begun past : List Synced) : Type 0 where
  pub named : AreNames files.names
  pub newer_number : ℕ
  pub older_number : ℕ
  pub differ : newer_number ≢ older_number
  pub newer : FileAlways disk (name_of files.names files.newer) newer_number (λ file. Leaves file (Holds (body_of files.names.file newest)))
  pub older_sync : Synced
  pub older : FileAlways disk (name_of files.names (other_side files.newer)) older_number (Fits files.gate (body_of files.names.file older_sync))
  pub ordered : IsOrdered files.gate newest older_sync begun past (disk.files older_number)
  pub newer_used : newest.generation ≤ files.generation
  pub older_used : older_sync.generation ≤ files.generation
  pub newer_keeps : Keeps Open files.pages files.newer_has newest.pages
  pub older_keeps : Keeps files.gate files.pages files.older_has older_sync.pages
  pub newer_known : files.newer_has.commits ≤ files.pages.commits.count
  pub older_known : files.older_has.commits ≤ files.pages.commits.count
  pub bound : files.generation ≤ 2 ^ 63

-- the pair fits the folder with some last acknowledged sync, and some before and after it
abbrev pub HasFit : Known → Disk → Type 0
HasFit files disk = (newest : Synced) × (begun : List Synced) × (past : List Synced) × IsFit files disk newest begun past

-- The names of this set lead, in each state of the names that a stop may leave, to the files to which they led, and these are as they were.
pub record Unmoved (inside : Name → Bool) (old new : Disk) : Type 0 where
  pub names : (lost : ℕ) (name : Name) → inside name ≡ true → names_at new lost name ≡ names_at old lost name
  pub files : (lost : ℕ) (name : Name) (number : ℕ) → inside name ≡ true → names_at old lost name ≡ Some number → new.files number ≡ old.files number

-- While a sync writes: all other names are spared and unmoved, and in each image the files offer the newest sync, this one, or one that
-- was begun since the newest.
pub record Syncing (files : Known) (sync : Synced) (old new : Disk) : Type 0 where
  pub spared : (newest : Synced) (begun past : List Synced) → IsFit files old newest begun past → SameAt (is_apart files.names) old new
  pub unmoved : (newest : Synced) (begun past : List Synced) → IsFit files old newest begun past → Unmoved (is_apart files.names) old new
  pub safe : (newest : Synced) (begun past : List Synced) → IsFit files old newest begun past → Recovers files.names (newest ∷ sync ∷ begun) (newest ∷ past) new

-- the file is not there, or not open, or has what an earlier sync of these wrote, or a later one
abbrev pub IsBeside : Name → Synced → List Synced → List Synced → Option (List ℕ) → Type 0
IsBeside file newest begun past None = Unit {0}
IsBeside file newest begun past (Some c) = IsOpen c → HasEarlier file newest past c ⊎ HasLater file newest begun c

-- Between two calls: in each image one file stands with what the last acknowledged sync wrote, and the other one is beside it.
pub record IsBetween (names : Names) (newest : Synced) (begun past : List Synced) (disk : Disk) : Type 0 where
  pub side : Side
  pub newest_there : (image : Image) → IsImage disk image → IsThere names.file newest (image (name_of names side))
  pub beside : (image : Image) → IsImage disk image → IsBeside names.file newest begun past (image (name_of names (other_side side)))

-- ---- documents

-- The pages and the head of the sync are those of this document.
pub record IsDocumentOf (sync : Synced) (document : Document) : Type 0 where
  pub is_text : IsText document.text
  pub depth : ℕ
  pub lines : HasLines tree_format sync.pages depth (stored document.text)
  pub empty : sync.head.empty ≡ (length document.text == 0)
  pub format : sync.head.format ≡ format_number document.format

-- The generation is above each that stands in some image.
abbrev pub IsAbove : Names → Disk → ℕ → Type 0
IsAbove names disk generation =
    (image : Image) (g : ℕ) (document : Document) → IsImage disk image
    → StandsIn (image names.swp) g document ⊎ StandsIn (image names.swo) g document → g < generation

-- the file stands in each image of the new folder, with a generation above each that stood in some image of the old one
abbrev pub RisesAt : Names → Side → Disk → Disk → Type 0
RisesAt names side old new = (image : Image) → IsImage new image
    → (g : ℕ) × (document : Document) × StandsIn (image (name_of names side)) g document × IsAbove names old g

-- One of the two swap files is written anew.
abbrev pub Rises : Names → Disk → Disk → Type 0
Rises names old new = (side : Side) × RisesAt names side old new
