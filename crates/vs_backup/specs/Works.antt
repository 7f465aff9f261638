-- What calls on some names leave of all others.
use Rattle.std.specs.Prelude.{◌≡◌, ◌≢◌, ◌⊎◌, ℕ, Bool, true, false, List, [], ◌∷◌, ◌++◌, Option, Some, None, IsTrue}
use Rattle.vs_host.specs.File.{Cuts, synced_file}
use Rattle.vs_host.specs.Disk.{Disk, Name, names_of, names_at, ChangesFile, IsFolder, SyncsNames}
use Rattle.vs_host.specs.Trace.{Each, Snapshot, Synced, SyncedNames}
use Rattle.vs_host.specs.World.{Scene, content_of}
use Rattle.vs_disk.specs.Images.{IsSynced, KeepsImages, MayLeave, Narrows}
use Rattle.vs_disk.specs.Names.{IsApart, SameAt}
use Rattle.vs_disk.specs.Runs.{Inside, Looks, Runs}

-- The step leads from the folder at the start to that of the oldest of these snapshots, from that of each to that of the next, and from
-- that of the newest to the folder now.
abbrev pub Follows : (Disk → Disk → Type 0) → Disk → List Snapshot → Disk → Type 0
Follows step start [] now = step start now
Follows step start (newest ∷ older) now = step newest.folder now × Follows step start older newest.folder

-- The step leads from moment to moment: each snapshot since the start is of a call that works on the folder alone, and its folder is
-- reached from that of the moment before it; so is the folder now.
pub record Steps (step : Disk → Disk → Type 0) (old new : Scene) : Type 0 where
  pub added : List Snapshot
  pub is : new.trace ≡ added ++ old.trace
  pub inside : Each (Inside old (λ folder. Unit {0})) added
  pub next : Follows step old.folder added new.folder

-- sets of one name, of two, and of three
abbrev pub one_name : Name → Name → Type 0
one_name a name = name ≡ a

-- These two names.
abbrev pub two_names : Name → Name → Name → Type 0
two_names a b name = (name ≡ a) ⊎ (name ≡ b)

-- These three names.
abbrev pub three_names : Name → Name → Name → Name → Type 0
three_names a b c name = (name ≡ a) ⊎ ((name ≡ b) ⊎ (name ≡ c))

-- No name is in both sets.
abbrev pub IsOutside : (Name → Type 0) → (Name → Bool) → Type 0
IsOutside on inside = (name : Name) → inside name ≡ true → on name → ⊥

-- All names but those of this set are left alone: whatever others are looked at together, they are read as before, and a stop
-- leaves under them only what it left before.
abbrev pub Spares : (Name → Type 0) → Disk → Disk → Type 0
Spares on old new = (inside : Name → Bool) → IsOutside on inside → SameAt inside old new

-- All names but those of this set are left alone at each moment, where no name of the set leads to a file of theirs.
abbrev pub SparesOthers : (Name → Type 0) → Scene → Scene → Type 0
SparesOthers on before after = (inside : Name → Bool) → IsOutside on inside → IsApart inside before.folder → Runs (SameAt inside) before after

-- in each state of the names that a stop may leave, this name leads to the file to which that one led
abbrev pub LeadsTo : Name → Name → Disk → Disk → Type 0
LeadsTo name that old new = (lost : ℕ) → names_at new lost name ≡ names_of old that

-- in each state of the names that a stop may leave, this name or that one leads to the file to which this one led
abbrev pub StandsUnder : Name → Name → Disk → Disk → Type 0
StandsUnder name that old new = (lost : ℕ) → (names_at new lost name ≡ names_of old name) ⊎ (names_at new lost that ≡ names_of old name)

-- in no state of the names that a stop may leave does the name lead to the file to which it led
abbrev pub LeadsAway : Name → Disk → Disk → Type 0
LeadsAway name old new = (lost : ℕ) → names_at new lost name ≡ names_of old name → ⊥

-- in no state of the names that a stop may leave does the name lead to a file
abbrev pub IsGone : Name → Disk → Type 0
IsGone name disk = (lost : ℕ) → names_at disk lost name ≡ None

-- A name that led to no file, whatever a stop had left, leads to none now either.
abbrev pub StaysGone : Name → Disk → Disk → Type 0
StaysGone name old new = IsGone name old → IsGone name new

-- in no state of the names that a stop may leave does a name lead to the file of this number
abbrev pub IsUnused : ℕ → Disk → Type 0
IsUnused number disk = (lost : ℕ) (name : Name) → names_at disk lost name ≢ Some number

-- A file that stands under the name is a new one, to which no name led.
abbrev pub HasNew : Name → Disk → Disk → Type 0
HasNew name old new = (number : ℕ) → names_of new name ≡ Some number → IsUnused number old

-- A file that stands under the name is a new one, or the one that stood there, as it was.
abbrev pub Renews : Name → Disk → Disk → Type 0
Renews name old new = (number : ℕ) → names_of new name ≡ Some number
    → IsUnused number old ⊎ ((names_of old name ≡ Some number) × (new.files number ≡ old.files number))

-- so it is for each name of this set but one
abbrev pub RenewsBut : (Name → Type 0) → Name → Disk → Disk → Type 0
RenewsBut on name old new = (other : Name) → on other → (other ≡ name → ⊥) → Renews other old new

-- The name leads to no file but the one to which it led.
abbrev pub LeadsNowhereElse : Name → Disk → Disk → Type 0
LeadsNowhereElse name old new = (number : ℕ) → names_of new name ≡ Some number → names_of old name ≡ Some number

-- a state of the names that a stop might have left, it may still leave
abbrev pub KeepsStates : Disk → Disk → Type 0
KeepsStates old new = (lost : ℕ) → (l : ℕ) × ((name : Name) → names_at old lost name ≡ names_at new l name)

-- A stop leaves no file under the name, or what it left before.
abbrev pub Drops : Name → Disk → Disk → Type 0
Drops name old new = (found : Option (List ℕ)) → MayLeave new name found → (found ≡ None) ⊎ MayLeave old name found

-- What a stop might have left under the name before, it may still leave.
abbrev pub Widens : Name → Disk → Disk → Type 0
Widens name old new = (found : Option (List ℕ)) → MayLeave old name found → MayLeave new name found

-- A stop leaves under the first name what it left before, or no file, where the second name leads to the file of the first.
abbrev pub HandsOver : Name → Name → Disk → Disk → Type 0
HandsOver from to old new = (found : Option (List ℕ)) → MayLeave new from found
    → MayLeave old from found ⊎ ((found ≡ None) × (names_of new to ≡ names_of old from))

-- In each state of the names that a stop may leave, this name or that one leads to this file, which has these bytes since its last sync.
pub record IsHeld (name that : Name) (number : ℕ) (bytes : List ℕ) (disk : Disk) : Type 0 where
  pub each : (lost : ℕ) → (names_at disk lost name ≡ Some number) ⊎ (names_at disk lost that ≡ Some number)
  pub has : disk.files number ≡ synced_file bytes

-- No other name leads to the file of this name, or led there in a state that a stop may leave.
pub record IsAlone (name : Name) (disk : Disk) : Type 0 where
  pub number : ℕ
  pub leads : names_of disk name ≡ Some number
  pub alone : (lost : ℕ) (other : Name) → (other ≡ name → ⊥) → names_at disk lost other ≡ Some number → ⊥

-- All names are read as before, and a stop leaves under them together only what it left before, with the same modes.
pub record Narrowed (old new : Disk) : Type 0 where
  pub now : (name : Name) → names_of new name ≡ names_of old name
  pub back : (lost : ℕ) → (l : ℕ) × ((name : Name) → names_at new lost name ≡ names_at old l name)
  pub files : (number : ℕ) → Narrows (old.files number) (new.files number)
  pub modes : new.modes ≡ old.modes

-- The file of this name alone was changed, by writes and cuts: what a stop might have left of it before, it may still leave.
abbrev pub Fills : Name → Disk → Disk → Type 0
Fills name = ChangesFile name KeepsImages

-- The file of this name alone was changed, and perhaps its mode.
pub record ChangesOne (name : Name) (old new : Disk) : Type 0 where
  pub synced : new.synced ≡ old.synced
  pub pending : new.pending ≡ old.pending
  pub others : (number : ℕ) → names_of old name ≢ Some number → new.files number ≡ old.files number
  pub modes : (number : ℕ) → names_of old name ≢ Some number → new.modes number ≡ old.modes number

-- The file of this name was synced, or the names were: at each moment all names are read as before, and a stop leaves only what it
-- left at the moment before, also under other names alone.
pub record Settles (told : Bool) (name : Name) (before after : Scene) : Type 0 where
  pub narrowed : IsTrue told → Steps Narrowed before after
  pub same : IsTrue told → (inside : Name → Bool) → inside name ≡ false → IsApart inside before.folder → Runs (SameAt inside) before after
  pub apart : IsTrue told → (inside : Name → Bool) → inside name ≡ false → IsApart inside before.folder → IsApart inside after.folder

-- so it is for each name
pub record SettlesAny (told : Bool) (before after : Scene) : Type 0 where
  pub each : (name : Name) → Settles told name before after

-- The file of this name has its bytes since its last sync.
pub record SyncsBytes (told : Bool) (name : Name) (before after : Scene) : Type 0 where
  pub synced : IsTrue told → (bytes : List ℕ) → content_of before name ≡ Some bytes → IsSynced name bytes after.folder

-- Nothing has changed.
pub record Unchanged (told : Bool) (before after : Scene) : Type 0 where
  pub looks : IsTrue told → Looks before after

-- The names were synced.
pub record SyncsAll (told : Bool) (before after : Scene) : Type 0 where
  pub runs : IsTrue told → Runs SyncsNames before after

-- The file of this name was emptied.
pub record Empties (told : Bool) (name : Name) (before after : Scene) : Type 0 where
  pub folder : IsTrue told → IsFolder before.folder
  pub runs : IsTrue told → Runs (Fills name) before after
  pub cuts : IsTrue told → ChangesFile name (Cuts 0) before.folder after.folder

-- The name leads to no file, whatever a stop leaves.
pub record LeavesNone (told : Bool) (name : Name) (after : Scene) : Type 0 where
  pub gone : IsTrue told → IsGone name after.folder

-- All names but these two are left alone.
pub record SparesTwo (told : Bool) (a b : Name) (before after : Scene) : Type 0 where
  pub spares : IsTrue told → Runs (Spares (two_names a b)) before after

-- The last two calls synced the file of this name, and then the names.
pub record HasSynced (name : Name) (scene : Scene) : Type 0 where
  pub file_synced : Snapshot
  pub names_synced : Snapshot
  pub earlier : List Snapshot
  pub is : scene.trace ≡ names_synced ∷ (file_synced ∷ earlier)
  pub first : (file_synced.kind ≡ Synced) × (file_synced.names ≡ name ∷ [])
  pub second : names_synced.kind ≡ SyncedNames

-- so it is where the folder is told
pub record SyncsInOrder (told : Bool) (name : Name) (after : Scene) : Type 0 where
  pub order : IsTrue told → HasSynced name after

-- At each moment a file that stands under the name is a new one, or the one that stood there, as it was.
pub record RenewsFile (told : Bool) (name : Name) (before after : Scene) : Type 0 where
  pub runs : IsTrue told → Runs (Renews name) before after
