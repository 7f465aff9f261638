-- What `recover` does.
use Rattle.std.specs.Prelude.{◌≡◌, ◌⊎◌, ◌≤◌, ◌+◌, ℕ, zero, suc, List, Option, None, Result, Ok, Err, ⊤}
use Rattle.vs_host.specs.declared.names.Names.{Names}
use Rattle.vs_host.specs.World.{Tells, Scene, content_of}
use Rattle.vs_text.specs.Documents.{Document, file_in}
use Rattle.vs_swap.specs.Recovery.{Recovered}
use Rattle.vs_recover.specs.declared.choices.Swap.{Swap}
use Rattle.vs_recover.specs.declared.choices.Swap.TheVariants.{Swp, Swo}
use Rattle.vs_recover.specs.declared.error.RecErr.{RecErr}
use Rattle.vs_recover.specs.declared.error.RecErr.TheVariants as error
use Rattle.vs_recover.specs.Choices.{NoneStands, root_of, root_chosen}
use Rattle.vs_recover.specs.Reading.{blocks_of}
use Rattle.vs_recover.specs.Salvage.{SalvagesOf}
use Rattle.vs_recover.specs.WalkedEntries.{most_calls}
use Rattle.vs_modes.specs.declared.error.ModeErr.{ModeErr}
use Rattle.vs_modes.specs.declared.error.ModeErr.TheVariants as refusal
use Rattle.vs_modes.specs.declared.recovering.Recovery.{Recovery}
use Rattle.vs_modes.specs.declared.recovering.Recovery.TheVariants as recovery
use Rattle.vs_modes.specs.declared.recovering.Found.{Found}
use Rattle.vs_modes.specs.declared.recovering.Found.TheVariants as found
use Rattle.vs_modes.specs.Moments.{IsSame}
use Rattle.vs_modes.specs.Modes.{Ended, RunsMode}

-- The two swap files of a file and the file itself, each where it is there.
pub record Remains : Type 0 where
  pub swp : Option (List ℕ)
  pub swo : Option (List ℕ)
  pub original : Option (List ℕ)

-- what is there of a file and its swap files
abbrev pub remains_in : Scene → Names → Remains
remains_in scene names = record { swp = content_of scene names.swp; swo = content_of scene names.swo; original = content_of scene names.file }

-- one of the two swap files
abbrev pub swap_in : Remains → Swap → Option (List ℕ)
swap_in remains Swp = remains.swp
swap_in remains Swo = remains.swo

-- the swap file that is salvaged where neither stands, or why there is none
abbrev pub salvaged_in : Remains → Result Swap RecErr
salvaged_in remains = root_chosen (root_of remains.swp) (root_of remains.swo)

-- The bytes are the file form of the document that the two swap files give.
abbrev pub IsText : Remains → List ℕ → Type 0
IsText remains bytes = (document : Document) × Recovered remains.swp remains.swo document × (bytes ≡ file_in document.format document.text)

-- Neither swap file stands, and the bytes, with so many markers, are salvaged of the one that is chosen for it.
pub record IsSalvaged (remains : Remains) (bytes : List ℕ) (markers : ℕ) : Type 0 where
  pub none : NoneStands remains.swp remains.swo
  pub which : Swap
  pub chosen : salvaged_in remains ≡ Ok which
  pub salvages : SalvagesOf (swap_in remains which) remains.original bytes markers

-- What is to be written: a text, or what is salvaged, and whether markers stand in it.
abbrev pub IsRecovery : Remains → Recovery → List ℕ → Type 0
IsRecovery remains recovery.Whole bytes = IsText remains bytes ⊎ IsSalvaged remains bytes 0
IsRecovery remains recovery.Marked bytes = (markers : ℕ) × (1 ≤ markers) × IsSalvaged remains bytes markers

-- No swap file can be salvaged, and none is encrypted.
abbrev pub IsNoSwap : Result Swap RecErr → Type 0
IsNoSwap (Err error.NotTree) = ⊤
IsNoSwap (Err error.NotSwap) = ⊤
IsNoSwap chosen = ⊥

-- when `recover` is refused
abbrev pub RefusesRecover : Remains → ModeErr → Type 0
RefusesRecover remains refusal.NoSwap = (remains.swp ≡ None) × (remains.swo ≡ None)
RefusesRecover remains refusal.Encrypted = NoneStands remains.swp remains.swo × (salvaged_in remains ≡ Err error.Encrypted)
RefusesRecover remains refusal.NotSwap = NoneStands remains.swp remains.swo × IsNoSwap (salvaged_in remains)
RefusesRecover remains why = ⊤

-- how many calls find what is written: a choice, and a salvage of one of the two files
abbrev pub most_reads : Remains → ℕ
most_reads remains = 8 + blocks_of remains.swp + blocks_of remains.swo + (most_calls remains.swp remains.original + most_calls remains.swo remains.original)

-- `recover` of the file with these names: nothing in the folder changes.
abbrev pub RunsRecover : Tells → Names → Scene → Scene → Ended Recovery → Type 0
RunsRecover tells names old new result =
    RunsMode IsSame (IsRecovery (remains_in old names)) (RefusesRecover (remains_in old names)) tells (most_reads (remains_in old names) + 1) old new result

-- ---- what was found, before it is written

-- This was found of a text.
abbrev pub IsFound : Remains → Found → Type 0
IsFound remains (found.Text document) = Recovered remains.swp remains.swo document
IsFound remains (found.Salvage salvaged) = IsSalvaged remains salvaged.bytes.items salvaged.markers

-- the bytes to be written
abbrev pub found_bytes : Found → List ℕ
found_bytes (found.Text document) = file_in document.format document.text
found_bytes (found.Salvage salvaged) = salvaged.bytes.items

-- what is said of a text with so many markers
abbrev pub recovery_by : ℕ → Recovery
recovery_by zero = recovery.Whole
recovery_by (suc more) = recovery.Marked

-- what is said of what was found
abbrev pub found_recovery : Found → Recovery
found_recovery (found.Text text) = recovery.Whole
found_recovery (found.Salvage salvaged) = recovery_by salvaged.markers
