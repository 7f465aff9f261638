-- What `info` does.
use Rattle.std.specs.Prelude.{◌≡◌, ◌≤◌, ◌+◌, ℕ, List, ◌++◌, length, Option, None, ⊤}
use Rattle.vs_host.specs.Disk.{Name}
use Rattle.vs_host.specs.declared.names.Names.{Names}
use Rattle.vs_host.specs.World.{Tells, Scene, content_of}
use Rattle.vs_recover.specs.Infos.{IsInfo}
use Rattle.vs_recover.specs.Reading.{blocks_at}
use Rattle.vs_modes.specs.declared.error.ModeErr.{ModeErr}
use Rattle.vs_modes.specs.declared.error.ModeErr.TheVariants as refusal
use Rattle.vs_modes.specs.Moments.{IsSame}
use Rattle.vs_modes.specs.Modes.{Ended, RunsMode}

-- The line of each swap file that is there, that of `first` before that of `second`. There is one at least.
abbrev pub AreInfos : Option (List ℕ) → Option (List ℕ) → Name → Name → List ℕ → Type 0
AreInfos swp swo first second bytes = (a : List ℕ) × (b : List ℕ) × IsInfo swp first a × IsInfo swo second b × (bytes ≡ a ++ b) × (1 ≤ length bytes)

-- when `info` is refused
abbrev pub RefusesInfo : Option (List ℕ) → Option (List ℕ) → ModeErr → Type 0
RefusesInfo swp swo refusal.NoSwap = (swp ≡ None) × (swo ≡ None)
RefusesInfo swp swo refusal.Encrypted = ⊥
RefusesInfo swp swo refusal.NotSwap = ⊥
RefusesInfo swp swo why = ⊤

-- `info` of the file with these names: nothing in the folder changes.
abbrev pub RunsInfo : Tells → Names → Scene → Scene → Ended (Unit {0}) → Type 0
RunsInfo tells names old new result =
    RunsMode IsSame (λ done. AreInfos (content_of old names.swp) (content_of old names.swo) names.swp names.swo)
    (RefusesInfo (content_of old names.swp) (content_of old names.swo)) tells (6 + blocks_at old names.swp + blocks_at old names.swo + 1) old new result
