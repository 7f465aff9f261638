-- A file that is renamed back: in each state of the names it has the one name or the other, and what a stop might leave it may still leave.
use Rattle.std.proofs.Common.{◌≡◌, ◌⊎◌, inl, inr, ℕ, zero, suc, cond, List, Option, Some, None, sym, ◌∙◌, ap, subst}
use Rattle.std.specs.Str.{bytes_eq}
use Rattle.std.proofs.lemmas.Bool.{cond-true}
use Rattle.vs_host.specs.File.{File}
use Rattle.vs_host.specs.Disk.{Disk, Name, Renames, changed_names, names_of, names_at, IsImageOf, ChangesNames, SyncsNames}
use Rattle.vs_disk.specs.Images.{MayLeave}
use Rattle.vs_disk.proofs.Steps.{at_name, itself, newest_names, older_names, settled}
use Rattle.vs_disk.proofs.Others.{image_same}
use Rattle.vs_disk.proofs.Contents.{leads_to}
use Rattle.vs_backup.specs.Works.{HandsOver, IsHeld, Widens}
use Rattle.vs_backup.proofs.Frames.{leaves_spared, spares_synced}
use Rattle.vs_backup.proofs.Kept.{moved_away}

-- ---- the file has one of the two names
module _ (from to : Name) (number : ℕ) (bytes : List ℕ) where
  pub held_same : (a b : Disk) → b ≡ a → IsHeld to from number bytes a → IsHeld to from number bytes b
  held_same a b is held = subst (λ (d : Disk). IsHeld to from number bytes d) (sym is) held

  renamed_each : (a b : Disk) → ChangesNames (Renames from to) a b → names_of a from ≡ Some number → IsHeld to from number bytes a
      → (lost : ℕ) → (names_at b lost to ≡ Some number) ⊎ (names_at b lost from ≡ Some number)
  renamed_each a b renames leads held zero = inl (leads_to from to number a b leads renames)
  renamed_each a b renames leads held (suc lost) =
      let same = older_names (Renames from to) a b renames.synced renames.pending lost in
      elim (held.each lost) [
        | inl here ↦ inl (at_name (names_at b (suc lost)) (names_at a lost) to same ∙ here)
        | inr there ↦ inr (at_name (names_at b (suc lost)) (names_at a lost) from same ∙ there)
      ]

  pub held_renamed : (a b : Disk) → ChangesNames (Renames from to) a b → names_of a from ≡ Some number → IsHeld to from number bytes a → IsHeld to from number bytes b
  held_renamed a b renames leads held = record { each = renamed_each a b renames leads held; has = ap (λ (f : ℕ → File). f number) renames.files ∙ held.has }

  pub held_synced : (a b : Disk) → SyncsNames a b → names_of a to ≡ Some number → IsHeld to from number bytes a → IsHeld to from number bytes b
  held_synced a b syncs leads held = record { each = λ lost. inl (settled a b syncs lost to ∙ leads); has = ap (λ (f : ℕ → File). f number) syncs.files ∙ held.has }

-- ---- what a stop leaves under the name that the file had
renamed_to : (from to : Name) (a b : Disk) → ChangesNames (Renames from to) a b → names_of b to ≡ names_of a from
renamed_to from to a b renames =
    at_name (names_of b) (changed_names (Renames from to) (names_of a)) to (newest_names (Renames from to) a b renames.synced renames.pending)
    ∙ cond-true (bytes_eq to to) (names_of a from) (cond (bytes_eq from to) None (names_of a to)) (itself to)

pub hands_same : (from to : Name) (a b : Disk) → b ≡ a → HandsOver from to a b
hands_same from to a b is found leaves = inl (subst (λ (d : Disk). MayLeave d from found) is leaves)

hands_at : (from to : Name) (a b : Disk) → (from ≡ to → ⊥) → ChangesNames (Renames from to) a b → (found : Option (List ℕ)) (lost : ℕ) → IsImageOf b (names_at b lost from) found
    → MayLeave a from found ⊎ ((found ≡ None) × (names_of b to ≡ names_of a from))
hands_at from to a b differ renames found zero image =
    inr (subst (λ (at : Option ℕ). IsImageOf b at found) (moved_away from to a b (λ e. differ (sym e)) renames) image, renamed_to from to a b renames)
hands_at from to a b differ renames found (suc lost) image =
    inl (
      lost,
      image_same a b (names_at a lost from) (names_at b (suc lost) from) found
          (at_name (names_at b (suc lost)) (names_at a lost) from (older_names (Renames from to) a b renames.synced renames.pending lost))
          (λ number is. ap (λ (f : ℕ → File). f number) renames.files) image,
    )

pub hands_renamed : (from to : Name) (a b : Disk) → (from ≡ to → ⊥) → ChangesNames (Renames from to) a b → HandsOver from to a b
hands_renamed from to a b differ renames found leaves = hands_at from to a b differ renames found leaves.0 leaves.1

pub hands_synced : (from to : Name) (a b c : Disk) → HandsOver from to a b → SyncsNames b c → HandsOver from to a c
hands_synced from to a b c hands syncs found leaves = elim (hands found (leaves_spared (λ n. ⊥) from found b c (λ x. x) (spares_synced (λ n. ⊥) b c syncs) leaves)) [
  | inl left ↦ inl left
  | inr gone ↦ inr (gone.0, settled b c syncs 0 to ∙ gone.1)
]

-- ---- what a stop may still leave
pub widens_same : (name : Name) (a b : Disk) → b ≡ a → Widens name a b
widens_same name a b is found leaves = subst (λ (d : Disk). MayLeave d name found) (sym is) leaves

pub widens_renamed : (from to name : Name) (a b : Disk) → ChangesNames (Renames from to) a b → Widens name a b
widens_renamed from to name a b renames found leaves = (
  suc leaves.0,
  image_same b a (names_at b (suc leaves.0) name) (names_at a leaves.0 name) found
      (sym (at_name (names_at b (suc leaves.0)) (names_at a leaves.0) name (older_names (Renames from to) a b renames.synced renames.pending leaves.0)))
      (λ number is. sym (ap (λ (f : ℕ → File). f number) renames.files)) leaves.1,
)
