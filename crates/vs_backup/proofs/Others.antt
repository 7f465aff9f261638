-- What a whole write leaves of names on which it does not work: the two syncs at the beginning change nothing of theirs, as no
-- name on which it works leads to a file of theirs.
use Rattle.std.proofs.Common.{◌≡◌, Bool, true, false, refl, sym, ◌∙◌, subst}
use Rattle.vs_host.specs.Disk.{Disk, Name}
use Rattle.vs_host.specs.World.{Scene, ChangesFolder}
use Rattle.vs_disk.specs.Names.{IsApart, SameAt}
use Rattle.vs_disk.specs.Runs.{Runs, Looks}
use Rattle.vs_disk.proofs.Runs.{runs_as, runs_on, starts}
use Rattle.vs_disk.proofs.Others.{same_none, same_then}
use Rattle.vs_backup.specs.Works.{Narrowed, Spares, SparesOthers, Steps}
use Rattle.vs_backup.proofs.Following.{narrowed_now}

apart_narrowed : (inside : Name → Bool) (old new : Disk) → Narrowed old new → IsApart inside old → IsApart inside new
apart_narrowed inside old new narrowed apart = record {
  alone = λ lost name other number is not leads there.
      let at = narrowed.back lost in
      apart.alone at.0 name other number is not (sym (at.1 name) ∙ leads) (sym (narrowed.now other) ∙ there);
}

pub not_inside : (is : Bool) → (is ≡ true → ⊥) → is ≡ false
not_inside false not = refl
not_inside true not = absurd (not refl)

-- calls that leave all other names alone
pub others_spared : (on : Name → Type 0) (s0 s1 : Scene) → Runs (Spares on) s0 s1 → SparesOthers on s0 s1
others_spared on s0 s1 runs inside out apart = runs_as (Spares on) (SameAt inside) s0 s1 (λ d spares. spares inside out) runs

pub others_looks : (on : Name → Type 0) (s0 s1 : Scene) → Looks s0 s1 → SparesOthers on s0 s1
others_looks on s0 s1 looks inside out apart =
    runs_as (λ a b. b ≡ a) (SameAt inside) s0 s1 (λ d same. subst (λ (x : Disk). SameAt inside s0.folder x) (sym same) (same_none inside s0.folder)) looks

pub others_starts : (on : Name → Type 0) (s0 : Scene) → SparesOthers on s0 s0
others_starts on s0 inside out apart = starts (SameAt inside) s0 (same_none inside s0.folder)

pub others_wider : (on wide : Name → Type 0) (s0 s1 : Scene) → ((name : Name) → on name → wide name) → SparesOthers on s0 s1 → SparesOthers wide s0 s1
others_wider on wide s0 s1 leads others inside out apart = others inside (λ name is here. out name is (leads name here)) apart

-- after calls that changed nothing that is read
pub others_on : (on : Name → Type 0) (s0 s1 s2 : Scene) → ChangesFolder s0 s1 → Steps Narrowed s0 s1 → SparesOthers on s0 s1 → SparesOthers on s1 s2 → SparesOthers on s0 s2
others_on on s0 s1 s2 frame looked first second inside out apart =
    runs_on (SameAt inside) (same_then inside) s0 s1 s2 frame (first inside out apart) (second inside out (apart_narrowed inside s0.folder s1.folder (narrowed_now s0 s1 looked) apart))

-- the two syncs at the beginning
pub others_settled : (on : Name → Type 0) (name : Name) (s0 s1 : Scene) → on name → ((inside : Name → Bool) → inside name ≡ false → IsApart inside s0.folder → Runs (SameAt inside) s0 s1) → SparesOthers on s0 s1
others_settled on name s0 s1 works same inside out apart = same inside (not_inside (inside name) (λ is. out name is works)) apart
