-- What `salvage` answers, by the swap file and the original file.
use Rattle.std.specs.Prelude.{◌≢◌, ⊤, ℕ, List, Option, Some, None, Result, Ok, Err}
use Rattle.vs_text.specs.declared.format.Format.{Format}
use Rattle.vs_host.specs.declared.names.Names.{Names}
use Rattle.vs_damaged.specs.declared.shown.Shown.{Shown}
use Rattle.vs_damaged.specs.Salvage.{Damaged, Salvages}
use Rattle.vs_recover.specs.declared.choices.Swap.{Swap}
use Rattle.vs_recover.specs.declared.choices.Swap.TheVariants.{Swp, Swo}
use Rattle.vs_recover.specs.declared.error.RecErr.{RecErr}
use Rattle.vs_recover.specs.declared.error.RecErr.TheVariants as error
use Rattle.vs_recover.specs.declared.roots.Root.TheVariants as root
use Rattle.vs_recover.specs.declared.walk.Salvaged.{Salvaged}
use Rattle.vs_recover.specs.Choices.{root_of}

-- A swap file with pages of this size and this format, and the original file.
abbrev pub damaged : List ℕ → ℕ → Format → Option (List ℕ) → Damaged
damaged file size format original = record { file = file; size = size; original = original; format = format }

-- These bytes, with so many markers, are salvaged of a swap file that is there.
abbrev pub SalvagesOf : Option (List ℕ) → Option (List ℕ) → List ℕ → ℕ → Type 0
SalvagesOf None original bytes markers = ⊥
SalvagesOf (Some file) original bytes markers = (size : ℕ) × (format : Format) × Salvages (damaged file size format original) bytes markers

-- What is shown is salvaged, or the swap file has no root.
abbrev pub IsSalvageOf : Option (List ℕ) → Option (List ℕ) → Option Shown → Type 0
IsSalvageOf swap original (Some shown) = SalvagesOf swap original shown.bytes.items shown.markers
IsSalvageOf swap original None = root_of swap ≢ root.Tree

-- The answer of `salvage`.
abbrev pub IsSalvage : Option (List ℕ) → Option (List ℕ) → Result Salvaged RecErr → Type 0
IsSalvage swap original (Ok salvaged) = SalvagesOf swap original salvaged.bytes.items salvaged.markers
IsSalvage swap original (Err error.NotTree) = root_of swap ≢ root.Tree
IsSalvage swap original (Err error.Failed) = ⊤
IsSalvage swap original (Err error.NoMemory) = ⊤
IsSalvage swap original (Err why) = ⊥

-- the name of one of the two swap files
abbrev pub swap_of : Names → Swap → List ℕ
swap_of names Swp = names.swp
swap_of names Swo = names.swo
