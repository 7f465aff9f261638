-- What a stop leaves under the backup name: what it left before until a synced file is renamed to it, and then the bytes of that file.
use Rattle.std.proofs.Common.{◌≡◌, ◌⊎◌, inl, inr, ℕ, zero, suc, Bool, true, false, List, Option, None, sym, ◌∙◌, ap, subst}
use Rattle.std.specs.Str.{bytes_eq}
use Rattle.std.proofs.lemmas.Bool.{cond-true}
use Rattle.vs_host.specs.File.{File}
use Rattle.vs_host.specs.Disk.{Disk, Name, Removes, Renames, changed_names, names_of, names_at, content_in, IsImageOf, ChangesNames, SyncsNames}
use Rattle.vs_host.specs.World.{Scene, ChangesFolder}
use Rattle.vs_disk.specs.Images.{MayLeave, Takes}
use Rattle.vs_disk.specs.Runs.{Runs}
use Rattle.vs_disk.proofs.Steps.{at_name, itself, newest_names, older_names, settled}
use Rattle.vs_disk.proofs.Others.{image_same}
use Rattle.vs_disk.proofs.Runs.{runs_as, runs_on, runs_then}
use Rattle.vs_disk.proofs.Contents.{takes_then}
use Rattle.vs_backup.specs.Works.{ChangesOne, Drops, IsGone, Spares}
use Rattle.vs_backup.specs.Writing.{Replaces}
use Rattle.vs_backup.proofs.Frames.{absent_now, leaves_spared, same_one, spared, spares_synced, takes_same, takes_spared}
use Rattle.vs_backup.proofs.Kept.{moved_away}

-- ---- at each moment
pub takes_on : (name : Name) (bytes : List ℕ) (s0 s1 s2 : Scene) → ChangesFolder s0 s1 → Runs (Takes name bytes) s0 s1 → Runs (Takes name bytes) s1 s2 → Runs (Takes name bytes) s0 s2
takes_on name bytes s0 s1 s2 frame first second = runs_on (Takes name bytes) (takes_then name bytes) s0 s1 s2 frame first second

pub takes_others : (on : Name → Type 0) (name : Name) (bytes : List ℕ) (s0 s1 : Scene) → (on name → ⊥) → Runs (Spares on) s0 s1 → Runs (Takes name bytes) s0 s1
takes_others on name bytes s0 s1 differ runs = runs_as (Spares on) (Takes name bytes) s0 s1 (λ d here. takes_spared on name bytes s0.folder d differ here) runs

pub takes_looks : (name : Name) (bytes : List ℕ) (s0 s1 : Scene) → Runs (λ a b. b ≡ a) s0 s1 → Runs (Takes name bytes) s0 s1
takes_looks name bytes s0 s1 looks = runs_as (λ a b. b ≡ a) (Takes name bytes) s0 s1 (λ d same. takes_same name bytes s0.folder d same) looks

-- ---- a name that is taken away
pub drops_same : (name : Name) (old new : Disk) → new ≡ old → Drops name old new
drops_same name old new is found leaves = inr (subst (λ (d : Disk). MayLeave d name found) is leaves)

pub drops_then : (name : Name) (a b c : Disk) → Drops name a b → Drops name b c → Drops name a c
drops_then name a b c first second found leaves = elim (second found leaves) [
  | inl none ↦ inl none
  | inr left ↦ first found left
]

pub drops_synced : (name : Name) (old new : Disk) → SyncsNames old new → Drops name old new
drops_synced name old new syncs found leaves = inr (leaves_spared (λ n. ⊥) name found old new (λ x. x) (spares_synced (λ n. ⊥) old new syncs) leaves)

removed_at : (name : Name) (old new : Disk) → ChangesNames (Removes name) old new → (found : Option (List ℕ)) (lost : ℕ) → IsImageOf new (names_at new lost name) found
    → (found ≡ None) ⊎ MayLeave old name found
removed_at name old new removes found zero image =
    let gone : names_of new name ≡ None =
    at_name (names_of new) (changed_names (Removes name) (names_of old)) name (newest_names (Removes name) old new removes.synced removes.pending)
    ∙ cond-true (bytes_eq name name) None (names_of old name) (itself name) in
    inl (subst (λ (at : Option ℕ). IsImageOf new at found) gone image)
removed_at name old new removes found (suc lost) image =
    inr (
      lost,
      image_same old new (names_at old lost name) (names_at new (suc lost) name) found
          (at_name (names_at new (suc lost)) (names_at old lost) name (older_names (Removes name) old new removes.synced removes.pending lost))
          (λ number is. ap (λ (f : ℕ → File). f number) removes.files) image,
    )

pub drops_removed : (name : Name) (old new : Disk) → ChangesNames (Removes name) old new → Drops name old new
drops_removed name old new removes found leaves = removed_at name old new removes found leaves.0 leaves.1

-- ---- what a stop leaves under the backup name, by whether the file is copied
pub replaces_takes : (copying : Bool) (name backup : Name) (bytes : List ℕ) (a b : Disk) → Takes backup bytes a b → Replaces copying name backup bytes a b
replaces_takes true name backup bytes a b takes = takes
replaces_takes false name backup bytes a b takes = λ found leaves. inl (takes found leaves)

pub replaces_then : (copying : Bool) (name backup : Name) (bytes : List ℕ) (a b c : Disk) → Takes backup bytes a b → names_of b name ≡ names_of a name → Replaces copying name backup bytes b c
    → Replaces copying name backup bytes a c
replaces_then true name backup bytes a b c first same second = takes_then backup bytes a b c first second
replaces_then false name backup bytes a b c first same second = λ found leaves. elim (second found leaves) [
  | inl took ↦ elim took [ inl is ↦ inl (inl is) | inr left ↦ inl (first found left) ]
  | inr gone ↦ inr (gone.0, gone.1 ∙ same)
]

pub replaces_spared : (on : Name → Type 0) (copying : Bool) (name backup : Name) (bytes : List ℕ) (a b c : Disk) → (on name → ⊥) → (on backup → ⊥) → Replaces copying name backup bytes a b → Spares on b c
    → Replaces copying name backup bytes a c
replaces_spared on true name backup bytes a b c apart apart_backup first spares = takes_then backup bytes a b c first (takes_spared on backup bytes b c apart_backup spares)
replaces_spared on false name backup bytes a b c apart apart_backup first spares = λ found leaves. elim (first found (leaves_spared on backup found b c apart_backup spares leaves)) [
  | inl took ↦ inl took
  | inr gone ↦ inr (gone.0, (spared on name b c apart spares).now name (itself name) ∙ gone.1)
]

-- a backup that is taken away under a name that was free
dropped_at : (copying : Bool) (name backup : Name) (bytes : List ℕ) (a b c : Disk) → content_in a backup ≡ None → Replaces copying name backup bytes a b → Drops backup b c → Takes backup bytes a c
dropped_at true name backup bytes a b c free takes dropped found leaves = elim (dropped found leaves) [
  | inl none ↦ inr (subst (λ (o : Option (List ℕ)). MayLeave a backup o) (sym none) (absent_now backup a free))
  | inr left ↦ takes found left
]
dropped_at false name backup bytes a b c free takes dropped found leaves = elim (dropped found leaves) [
  | inl none ↦ inr (subst (λ (o : Option (List ℕ)). MayLeave a backup o) (sym none) (absent_now backup a free))
  | inr left ↦ elim (takes found left) [
    | inl took ↦ took
    | inr gone ↦ inr (subst (λ (o : Option (List ℕ)). MayLeave a backup o) (sym gone.0) (absent_now backup a free))
  ]
]

pub replaces_dropped : (copying : Bool) (name backup : Name) (bytes : List ℕ) (s0 s1 s2 : Scene) → ChangesFolder s0 s1 → content_in s0.folder backup ≡ None
    → Runs (Replaces copying name backup bytes) s0 s1 → Runs (Drops backup) s1 s2 → Runs (Replaces copying name backup bytes) s0 s2
replaces_dropped copying name backup bytes s0 s1 s2 frame free replaces drops =
    runs_then (Replaces copying name backup bytes) (Drops backup) (Replaces copying name backup bytes) s0 s1 s2 (λ d is. is)
    (λ d dropped. replaces_takes copying name backup bytes s0.folder d (dropped_at copying name backup bytes s0.folder s1.folder d free replaces.now dropped)) frame replaces drops

-- ---- a name that leads to no file
pub gone_renamed : (from to : Name) (old mid new : Disk) → (from ≡ to → ⊥) → ChangesNames (Renames from to) old mid → SyncsNames mid new → IsGone from new
gone_renamed from to old mid new differ renames syncs lost = settled mid new syncs lost from ∙ moved_away from to old mid (λ e. differ (sym e)) renames

pub gone_changed : (name other : Name) (old new : Disk) → ChangesOne other old new → IsGone name old → IsGone name new
gone_changed name other old new changes gone lost = same_one other old new changes lost name ∙ gone lost

pub gone_spared : (on : Name → Type 0) (name : Name) (old new : Disk) → (on name → ⊥) → Spares on old new → IsGone name old → IsGone name new
gone_spared on name old new not spares gone lost =
    let at = (spared on name old new not spares).back lost in
    at.1 name (itself name) ∙ gone at.0
