-- Where files stand: a name that calls leave alone leads where it led, and calls on a file leave all names.
use Rattle.std.proofs.Common.{◌≡◌, inl, inr, ℕ, Bool, true, false, [], Some, Result, Ok, refl, sym, ◌∙◌, subst}
use Rattle.std.proofs.lemmas.Bool.{true≢false}
use Rattle.vs_host.specs.Disk.{Disk, Name, names_of, IsFolder}
use Rattle.vs_host.specs.World.{Scene, ChangesFolder}
use Rattle.vs_disk.specs.Runs.{Runs}
use Rattle.vs_disk.proofs.Steps.{itself, one_state}
use Rattle.vs_disk.proofs.Runs.{runs_as, runs_then}
use Rattle.vs_backup.specs.Works.{ChangesOne, LeadsAway, LeadsTo, Spares, StandsUnder, one_name}
use Rattle.vs_backup.specs.Writing.{Places, StandsUntil}
use Rattle.vs_backup.specs.declared.errors.WriteErr.{WriteErr}
use Rattle.vs_backup.proofs.Frames.{same_one, spared}

pub leads_settled : (name : Name) (disk : Disk) → disk.pending ≡ [] → LeadsTo name name disk disk
leads_settled name disk none lost = one_state disk none lost name

leads_spared : (on : Name → Type 0) (name that : Name) (base old new : Disk) → (on name → ⊥) → Spares on old new → LeadsTo name that base old → LeadsTo name that base new
leads_spared on name that base old new not spares leads lost =
    let at = (spared on name old new not spares).back lost in
    at.1 name (itself name) ∙ leads at.0

leads_changed : (name that other : Name) (base old new : Disk) → ChangesOne other old new → LeadsTo name that base old → LeadsTo name that base new
leads_changed name that other base old new changes leads lost = same_one other old new changes lost name ∙ leads lost

away_spared : (on : Name → Type 0) (name : Name) (base old new : Disk) → (on name → ⊥) → Spares on old new → LeadsAway name base old → LeadsAway name base new
away_spared on name base old new not spares away lost leads =
    let at = (spared on name old new not spares).back lost in
    away at.0 (sym (at.1 name (itself name)) ∙ leads)

-- calls that leave the name alone
pub in_place_spared : (on : Name → Type 0) (name : Name) (s0 s1 : Scene) → (on name → ⊥) → s0.folder.pending ≡ [] → Runs (Spares on) s0 s1 → Runs (LeadsTo name name) s0 s1
in_place_spared on name s0 s1 not none runs =
    runs_as (Spares on) (LeadsTo name name) s0 s1 (λ d spares. leads_spared on name name s0.folder s0.folder d not spares (leads_settled name s0.folder none)) runs

-- calls on the file
pub in_place_on : (name : Name) (s0 s1 s2 : Scene) → ChangesFolder s0 s1 → Runs (LeadsTo name name) s0 s1 → Runs (ChangesOne name) s1 s2 → Runs (LeadsTo name name) s0 s2
in_place_on name s0 s1 s2 frame first second =
    runs_then (LeadsTo name name) (ChangesOne name) (LeadsTo name name) s0 s1 s2 (λ d leads. leads) (λ d changes. leads_changed name name name s0.folder s1.folder d changes first.now) frame first second

pub in_place_changed : (name : Name) (s0 s1 : Scene) → s0.folder.pending ≡ [] → Runs (ChangesOne name) s0 s1 → Runs (LeadsTo name name) s0 s1
in_place_changed name s0 s1 none runs =
    runs_as (ChangesOne name) (LeadsTo name name) s0 s1 (λ d changes. leads_changed name name name s0.folder s0.folder d changes (leads_settled name s0.folder none)) runs

-- a file that has another name now does not have this one
pub leads_away : (name backup : Name) (number : ℕ) (old new : Disk) → (name ≡ backup → ⊥) → IsFolder new → names_of old name ≡ Some number → LeadsTo backup name old new → LeadsAway name old new
leads_away name backup number old new differ folder was backed lost leads = differ (folder.apart lost name backup number (leads ∙ was) (backed lost ∙ was))

-- a file that has not moved
pub under_still : (name that : Name) (a b : Disk) → a.pending ≡ [] → b ≡ a → StandsUnder name that a b
under_still name that a b none is = subst (λ (d : Disk). StandsUnder name that a d) (sym is) (λ lost. inl (one_state a none lost name))

until_under : (keep : Bool) (name backup : Name) (old new : Disk) → StandsUnder name backup old new → StandsUntil keep name backup old new
until_under true name backup old new under = under
until_under false name backup old new under = inl under

until_away : (keep : Bool) (name backup : Name) (old new : Disk) → keep ≡ false → LeadsAway name old new → StandsUntil keep name backup old new
until_away true name backup old new goes away = absurd (true≢false goes)
until_away false name backup old new goes away = inr away

-- the backup that stays is kept or not
pub places_keep : (copying keep : Bool) (name backup : Name) (s0 s1 : Scene) (result : Result ℕ WriteErr) → Places copying true name backup s0 s1 result → Places copying keep name backup s0 s1 result
places_keep true keep name backup s0 s1 result is = is
places_keep false keep name backup s0 s1 result is = record {
  under = runs_as (StandsUntil true name backup) (StandsUntil keep name backup) s0 s1 (λ d under. until_under keep name backup s0.folder d under) is.under;
  another = is.another;
  kept = λ keeps. is.kept refl;
  in_file = is.in_file;
  in_backup = is.in_backup;
}

-- the backup is removed
pub places_dropped : (copying keep : Bool) (name backup : Name) (s0 s1 s2 : Scene) (size : ℕ) → keep ≡ false → ChangesFolder s0 s1 → (name ≡ backup → ⊥)
    → Places copying true name backup s0 s1 (Ok size) → Runs (Spares (one_name backup)) s1 s2 → Places copying keep name backup s0 s2 (Ok size)
places_dropped true keep name backup s0 s1 s2 size goes frame differ is drops =
    runs_then (LeadsTo name name) (Spares (one_name backup)) (LeadsTo name name) s0 s1 s2 (λ d leads. leads)
    (λ d spares. leads_spared (one_name backup) name name s0.folder s1.folder d differ spares is.now) frame is drops
places_dropped false keep name backup s0 s1 s2 size goes frame differ is drops = record {
  under = runs_then (StandsUntil true name backup) (Spares (one_name backup)) (StandsUntil keep name backup) s0 s1 s2
      (λ d under. until_under keep name backup s0.folder d under)
      (λ d spares. until_away keep name backup s0.folder d goes (away_spared (one_name backup) name s0.folder s1.folder d differ spares is.another)) frame is.under drops;
  another = away_spared (one_name backup) name s0.folder s1.folder s2.folder differ drops.now is.another;
  kept = λ keeps. absurd (true≢false (sym keeps ∙ goes));
  in_file = λ refused. elim refused [ inl is ↦ cc | inr is ↦ cc ];
  in_backup = λ refused. elim refused [ inl is ↦ cc | inr is ↦ cc ];
}
