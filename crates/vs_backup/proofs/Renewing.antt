-- The file under which a copy is made: it is made anew in place of one that an earlier run left.
use Rattle.std.proofs.Common.{◌≡◌, inl, inr, ℕ, suc, Some, None, sym, ◌∙◌, ap, subst}
use Rattle.std.specs.Str.{bytes_eq}
use Rattle.std.proofs.lemmas.Bool.{cond-true}
use Rattle.vs_host.specs.Disk.{Disk, Name, Change, Removes, Renames, changed_names, names_of, names_at, ChangesNames, CreatesFile, SyncsNames}
use Rattle.vs_host.specs.World.{Scene, ChangesFolder}
use Rattle.vs_disk.specs.Runs.{Runs}
use Rattle.vs_disk.proofs.Runs.{runs_as, runs_on, runs_then}
use Rattle.vs_disk.proofs.Steps.{at_name, itself, newest_names, older_names, settled}
use Rattle.vs_backup.specs.Works.{ChangesOne, HasNew, IsGone, KeepsStates, LeadsNowhereElse, Renews, RenewsBut, Spares, one_name, two_names}
use Rattle.vs_backup.proofs.Frames.{created_leads, same_one, spared}
use Rattle.vs_backup.proofs.Kept.{moved_away}

some_same : (a b : ℕ) → Some a ≡ Some b → a ≡ b
some_same a b e = cc

pub renews_same : (name : Name) (old new : Disk) → new ≡ old → Renews name old new
renews_same name old new is number leads = inr (subst (λ (d : Disk). names_of d name ≡ Some number) is leads, ap (λ (d : Disk). d.files number) is)

pub renews_absent : (name : Name) (old new : Disk) → names_of new name ≡ None → Renews name old new
renews_absent name old new none number leads = let clash : None ≡ Some number = sym none ∙ leads in absurd (cc clash)

absent_removed : (name : Name) (old new : Disk) → ChangesNames (Removes name) old new → names_of new name ≡ None
absent_removed name old new removes =
    at_name (names_of new) (changed_names (Removes name) (names_of old)) name (newest_names (Removes name) old new removes.synced removes.pending)
    ∙ cond-true (bytes_eq name name) None (names_of old name) (itself name)

pub renews_removed : (name : Name) (old new : Disk) → ChangesNames (Removes name) old new → Renews name old new
renews_removed name old new removes = renews_absent name old new (absent_removed name old new removes)

-- ---- the states of the names
pub states_same : (old new : Disk) → new ≡ old → KeepsStates old new
states_same old new is lost = (lost, λ name. ap (λ (d : Disk). names_at d lost name) (sym is))

pub states_changed : (change : Change) (old new : Disk) → ChangesNames change old new → KeepsStates old new
states_changed change old new changes lost =
    (suc lost, λ name. sym (at_name (names_at new (suc lost)) (names_at old lost) name (older_names change old new changes.synced changes.pending lost)))

-- a file that is made under the name
pub new_created : (name : Name) (a b c : Disk) → KeepsStates a b → CreatesFile name b c → HasNew name a c
new_created name a b c keeps creates number leads lost other before =
    let same : creates.number ≡ number = some_same creates.number number (sym (created_leads name b c creates) ∙ leads) in
    let at = keeps lost in
    creates.fresh at.0 other (sym (at.1 other) ∙ before ∙ ap (λ (n : ℕ). Some n) (sym same))

-- ---- where the name leads
pub nowhere_same : (name : Name) (old new : Disk) → new ≡ old → LeadsNowhereElse name old new
nowhere_same name old new is number leads = subst (λ (d : Disk). names_of d name ≡ Some number) is leads

pub nowhere_renamed : (from to : Name) (old new : Disk) → (from ≡ to → ⊥) → ChangesNames (Renames from to) old new → LeadsNowhereElse from old new
nowhere_renamed from to old new differ renames number leads =
    let clash : None ≡ Some number = sym (moved_away from to old new (λ e. differ (sym e)) renames) ∙ leads in absurd (cc clash)

pub nowhere_removed : (name : Name) (old new : Disk) → ChangesNames (Removes name) old new → LeadsNowhereElse name old new
nowhere_removed name old new removes number leads = let clash : None ≡ Some number = sym (absent_removed name old new removes) ∙ leads in absurd (cc clash)

pub nowhere_synced : (name : Name) (old new : Disk) → SyncsNames old new → LeadsNowhereElse name old new
nowhere_synced name old new syncs number leads = sym (settled old new syncs 0 name) ∙ leads

pub nowhere_changed : (name other : Name) (old new : Disk) → ChangesOne other old new → LeadsNowhereElse name old new
nowhere_changed name other old new changes number leads = sym (same_one other old new changes 0 name) ∙ leads

pub nowhere_then : (name : Name) (a b c : Disk) → LeadsNowhereElse name a b → LeadsNowhereElse name b c → LeadsNowhereElse name a c
nowhere_then name a b c first second number leads = first number (second number leads)

-- ---- after the file was made
module _ (name : Name) (s0 s1 s2 : Scene) (frame : ChangesFolder s0 s1) (renews : Runs (Renews name) s0 s1) where
  pub renews_led : HasNew name s0.folder s1.folder → Runs (LeadsNowhereElse name) s1 s2 → Runs (Renews name) s0 s2
  renews_led new runs = runs_then (Renews name) (LeadsNowhereElse name) (Renews name) s0 s1 s2 (λ d is. is) (λ d leads number here. inl (new number (leads number here))) frame renews runs

  pub renews_filled : HasNew name s0.folder s1.folder → Runs (ChangesOne name) s1 s2 → Runs (Renews name) s0 s2
  renews_filled new runs = renews_led new (runs_as (ChangesOne name) (LeadsNowhereElse name) s1 s2 (λ d changes. nowhere_changed name name s1.folder d changes) runs)

  pub renews_taken : (s3 : Scene) → ChangesFolder s1 s2 → HasNew name s0.folder s1.folder → Runs (ChangesOne name) s1 s2 → Runs (LeadsNowhereElse name) s2 s3 → Runs (Renews name) s0 s3
  renews_taken s3 framed new fills takes =
      let led = runs_on (LeadsNowhereElse name) (nowhere_then name) s1 s2 s3 framed
      (runs_as (ChangesOne name) (LeadsNowhereElse name) s1 s2 (λ d changes. nowhere_changed name name s1.folder d changes) fills) takes in
      runs_then (Renews name) (LeadsNowhereElse name) (Renews name) s0 s1 s3 (λ d is. is) (λ d leads number here. inl (new number (leads number here))) frame renews led

  -- and got another name, or was not made
  pub renews_looked : Runs (λ a b. b ≡ a) s1 s2 → Runs (Renews name) s0 s2
  renews_looked looks = runs_then (Renews name) (λ a b. b ≡ a) (Renews name) s0 s1 s2 (λ d is. is) (λ d same. subst (λ (e : Disk). Renews name s0.folder e) (sym same) renews.now) frame renews looks

  gone_on : (S : Disk → Disk → Type 0) → IsGone name s1.folder → ((d : Disk) → S s1.folder d → names_of d name ≡ names_of s1.folder name) → Runs S s1 s2 → Runs (Renews name) s0 s2
  gone_on S gone same runs = runs_then (Renews name) S (Renews name) s0 s1 s2 (λ d is. is) (λ d step. renews_absent name s0.folder d (same d step ∙ gone 0)) frame renews runs

  pub renews_gone : (other : Name) → IsGone name s1.folder → Runs (ChangesOne other) s1 s2 → Runs (Renews name) s0 s2
  renews_gone other gone runs = gone_on (ChangesOne other) gone (λ d changes. same_one other s1.folder d changes 0 name) runs

  pub renews_dropped : (other : Name) → (name ≡ other → ⊥) → IsGone name s1.folder → Runs (Spares (one_name other)) s1 s2 → Runs (Renews name) s0 s2
  renews_dropped other differ gone runs = gone_on (Spares (one_name other)) gone (λ d spares. (spared (one_name other) name s1.folder d differ spares).now name (itself name)) runs

pub renews_but : (temporary name : Name) (s0 s1 : Scene) → Runs (Renews temporary) s0 s1 → Runs (RenewsBut (two_names temporary name) name) s0 s1
renews_but temporary name s0 s1 runs = runs_as (Renews temporary) (RenewsBut (two_names temporary name) name) s0 s1
    (λ d renews other works not_name. elim works [
      | inl same ↦ subst (λ (n : Name). Renews n s0.folder d) (sym same) renews
      | inr same ↦ absurd (not_name same)
    ]) runs
