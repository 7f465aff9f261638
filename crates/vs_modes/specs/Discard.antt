-- What `discard` does.
use Rattle.std.specs.Prelude.{◌≡◌, ◌⊎◌, ◌||◌, ℕ, Bool, true, false, List, [], ◌∷◌, ◌++◌, codes, None, is_some, Ok, Err, IsTrue, ⊤}
use Rattle.vs_host.specs.Disk.{Disk, Directory, Mode, Name, Removes, ChangesNames, names_at}
use Rattle.vs_host.specs.declared.names.Names.{Names}
use Rattle.vs_host.specs.World.{Tells, Scene, content_of}
use Rattle.vs_disk.specs.Modes.{KeepsModes}
use Rattle.vs_disk.specs.Names.{SameAt}
use Rattle.vs_pair.specs.Pair.{is_apart, is_swap}
use Rattle.vs_pair.specs.Steps.{IsFresh}
use Rattle.vs_modes.specs.declared.error.ModeErr.{ModeErr}
use Rattle.vs_modes.specs.declared.error.ModeErr.TheVariants as refusal
use Rattle.vs_modes.specs.Modes.{Ended, RunsMode}

-- the name was taken away, or nothing changed
abbrev pub MayRemove : Name → Disk → Disk → Type 0
MayRemove name old new = ChangesNames (Removes name) old new ⊎ (new ≡ old)

-- both swap names lead where they led in one state of the names that a stop might leave
abbrev pub LeadAs : Names → Disk → Directory → Type 0
LeadAs names disk now = (l : ℕ) × (now names.swp ≡ names_at disk l names.swp) × (now names.swo ≡ names_at disk l names.swo)

-- While the swap files are removed: no file changes and none gets a mode, all other names are spared, and a stop leaves a swap name as
-- before, or without a file. `.swo` goes first: until it is gone both are as before.
pub record Discards (names : Names) (old new : Disk) : Type 0 where
  pub files : new.files ≡ old.files
  pub modes : (allowed : Mode → Bool) → KeepsModes allowed old new
  pub spared : SameAt (is_apart names) old new
  pub left : (lost : ℕ) (name : Name) → is_swap names name ≡ true → (names_at new lost name ≡ None) ⊎ ((l : ℕ) × (names_at new lost name ≡ names_at old l name))
  pub swo_first : (lost : ℕ) → (names_at new lost names.swo ≡ None) ⊎ LeadAs names old (names_at new lost)

-- what `discard` writes, by whether a swap file was there
abbrev pub discard_line : Bool → List ℕ
discard_line true = codes "discarded" ++ 10 ∷ []
discard_line false = codes "no swap file" ++ 10 ∷ []

-- whether one of the swap files is there
abbrev pub is_any_there : Names → Scene → Bool
is_any_there names scene = is_some (content_of scene names.swo) || is_some (content_of scene names.swp)

-- when `discard` is refused
abbrev pub RefusesDiscard : ModeErr → Type 0
RefusesDiscard refusal.NoSwap = ⊥
RefusesDiscard refusal.Encrypted = ⊥
RefusesDiscard refusal.NotSwap = ⊥
RefusesDiscard why = ⊤

-- What `discard` has done by how it ended: once something is written no image has a swap file, and without memory nothing was
-- called.
abbrev pub HasDiscarded : Names → Tells → Ended (Unit {0}) → Scene → Scene → Type 0
HasDiscarded names tells (Ok done) old new = IsTrue tells.folder → IsFresh names new.folder
HasDiscarded names tells (Err refusal.OutputFailed) old new = IsTrue tells.folder → IsFresh names new.folder
HasDiscarded names tells (Err refusal.NoMemory) old new = new ≡ old
HasDiscarded names tells (Err why) old new = ⊤

-- `discard` of the swap files of the file with these names: a look at each, its removal, a sync of the names, and a write.
pub record RunsDiscard (tells : Tells) (names : Names) (old new : Scene) (result : Ended (Unit {0})) : Type 0 where
  pub runs : RunsMode (Discards names) (λ done bytes. bytes ≡ discard_line (is_any_there names old)) RefusesDiscard tells 6 old new result
  pub discarded : HasDiscarded names tells result old new
