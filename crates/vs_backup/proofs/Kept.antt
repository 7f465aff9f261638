-- Where the old bytes stand while a file is written over: in a copy that other calls leave alone, or in the file that was renamed.
use Rattle.std.proofs.Common.{◌≡◌, ◌⊎◌, inl, inr, ℕ, zero, suc, cond, List, [], Option, Some, None, refl, sym, ◌∙◌, ap, subst}
use Rattle.std.specs.Str.{bytes_eq}
use Rattle.std.proofs.lemmas.Bool.{cond-true, cond-false}
use Rattle.vs_host.specs.File.{File, IsFileImage, Leaves, synced_file}
use Rattle.vs_host.specs.Disk.{Disk, Name, Creates, Renames, changed_names, names_of, names_at, content_in, IsImage, IsImageOf, ChangesNames, CreatesFile, SyncsNames}
use Rattle.vs_disk.specs.Images.{KeepsImages, HoldsBytes, MayLeave}
use Rattle.vs_disk.proofs.Steps.{at_name, itself, same_at, older_names, newest_names, settled, one_state}
use Rattle.vs_disk.proofs.Images.{synced_image, read_image}
use Rattle.vs_disk.proofs.Contents.{file_of_content, holds_synced}
use Rattle.vs_backup.specs.Works.{ChangesOne, Fills, IsAlone, IsHeld, Widens}
use Rattle.vs_backup.specs.Writing.{IsKept, IsSettled, IsGuarded}
use Rattle.vs_backup.proofs.Frames.{not_same, same_one, some_or_none}

-- ---- what each image has
has_image : (disk : Disk) (name : Name) (bytes : List ℕ) (image : Name → Option (List ℕ)) → HoldsBytes name bytes disk → IsImage disk image → image name ≡ Some bytes
has_image disk name bytes image holds whole =
    let here = holds whole.0 in
    let found = number_image disk (names_at disk whole.0 name) here.number bytes (image name) here.leads here.leaves (whole.1 name) in
    found
  where
    number_image : (disk : Disk) (at : Option ℕ) (number : ℕ) (bytes : List ℕ) (found : Option (List ℕ)) → at ≡ Some number → Leaves (disk.files number) (λ c. c ≡ bytes) → IsImageOf disk at found → found ≡ Some bytes
    number_image disk at number bytes found leads leaves image =
        let here = subst (λ (o : Option ℕ). IsImageOf disk o found) leads image in
        here.1 ∙ ap (λ (b : List ℕ). Some b) (leaves here.0 here.2)

pub kept_by_name : (name backup : Name) (old : List ℕ) (disk : Disk) → HoldsBytes name old disk → IsKept name backup old disk
kept_by_name name backup old disk holds image whole = inl (has_image disk name old image holds whole)

pub kept_by_backup : (name backup : Name) (old : List ℕ) (disk : Disk) → HoldsBytes backup old disk → IsKept name backup old disk
kept_by_backup name backup old disk holds image whole = inr (has_image disk backup old image holds whole)

pub settled_holds : (name : Name) (bytes : List ℕ) (disk : Disk) → IsSettled name bytes disk → HoldsBytes name bytes disk
settled_holds name bytes disk is = holds_synced name bytes disk is.pending is.synced

-- ---- what a stop may still leave
pub may_leave_now : (name : Name) (bytes : List ℕ) (disk : Disk) → content_in disk name ≡ Some bytes → MayLeave disk name (Some bytes)
may_leave_now name bytes disk is =
    let has = file_of_content disk name bytes is in
    let image : IsFileImage (disk.files has.number) bytes = subst (λ (b : List ℕ). IsFileImage (disk.files has.number) b) has.has (read_image (disk.files has.number)) in
    (0, subst (λ (o : Option ℕ). IsImageOf disk o (Some bytes)) (sym has.leads) (bytes, refl, image))

filled_at : (name : Name) (found : Option (List ℕ)) (old new : Disk) (at : Option ℕ) → Fills name old new → IsImageOf old at found → IsImageOf new at found
filled_at name found old new None fills image = image
filled_at name found old new (Some number) fills image = elim (some_or_none (names_of old name) number) [
  | inl this ↦ (image.0, image.1, fills.this number this image.0 image.2)
  | inr other ↦ (image.0, image.1, subst (λ (f : File). IsFileImage f image.0) (sym (fills.others number other)) image.2)
]

pub fills_widens : (name : Name) (old new : Disk) → Fills name old new → Widens name old new
fills_widens name old new fills found leaves =
    (leaves.0, subst (λ (o : Option ℕ). IsImageOf new o found) (sym (same_at name KeepsImages old new fills leaves.0 name)) (filled_at name found old new (names_at old leaves.0 name) fills leaves.1))

-- each image of a file that was synced has its bytes
synced_leaves : (disk : Disk) (number : ℕ) (bytes : List ℕ) → disk.files number ≡ synced_file bytes → Leaves (disk.files number) (λ c. c ≡ bytes)
synced_leaves disk number bytes has c image = synced_image bytes c (subst (λ (f : File). IsFileImage f c) has image)

-- ---- a file that was renamed to the backup name
module _ (name backup : Name) (number : ℕ) (old : List ℕ) where
  pub held_kept : (disk : Disk) → IsHeld name backup number old disk → IsKept name backup old disk
  held_kept disk held image whole = elim (held.each whole.0) [
    | inl by_name ↦ inl (under (names_at disk whole.0 name) (image name) by_name (whole.1 name))
    | inr by_backup ↦ inr (under (names_at disk whole.0 backup) (image backup) by_backup (whole.1 backup))
  ]
    where
      under : (at : Option ℕ) (found : Option (List ℕ)) → at ≡ Some number → IsImageOf disk at found → found ≡ Some old
      under at found leads image =
          let here = subst (λ (o : Option ℕ). IsImageOf disk o found) leads image in
          here.1 ∙ ap (λ (b : List ℕ). Some b) (synced_leaves disk number old held.has here.0 here.2)

  pub guard_kept : (disk : Disk) → IsGuarded name backup number old disk → IsKept name backup old disk
  guard_kept disk guard = held_kept disk guard.held

  pub guard_same : (a b : Disk) → b ≡ a → IsGuarded name backup number old a → IsGuarded name backup number old b
  guard_same a b is guard = subst (λ (d : Disk). IsGuarded name backup number old d) (sym is) guard

  created_each : (a b : Disk) → (creates : CreatesFile name a b) → names_of b backup ≡ Some number
      → ((lost : ℕ) → (names_at a lost name ≡ Some number) ⊎ (names_at a lost backup ≡ Some number))
      → (lost : ℕ) → (names_at b lost name ≡ Some number) ⊎ (names_at b lost backup ≡ Some number)
  created_each a b creates now each zero = inr now
  created_each a b creates now each (suc lost) =
      let same = older_names (Creates name creates.number) a b creates.synced creates.pending lost in
      elim (each lost) [
        | inl by_name ↦ inl (at_name (names_at b (suc lost)) (names_at a lost) name same ∙ by_name)
        | inr by_backup ↦ inr (at_name (names_at b (suc lost)) (names_at a lost) backup same ∙ by_backup)
      ]

  pub guard_created : (a b : Disk) → (backup ≡ name → ⊥) → CreatesFile name a b → IsGuarded name backup number old a → IsGuarded name backup number old b
  guard_created a b differ creates guard =
      let now : names_of b backup ≡ Some number =
      at_name (names_of b) (changed_names (Creates name creates.number) (names_of a)) backup (newest_names (Creates name creates.number) a b creates.synced creates.pending)
      ∙ cond-false (bytes_eq name backup) (Some creates.number) (names_of a backup) (not_same name backup differ) ∙ guard.now in
      record {
        now = now;
        held = record {
          each = created_each a b creates now guard.held.each;
          has = creates.others number (λ e. creates.fresh 0 backup (guard.now ∙ ap (λ (n : ℕ). Some n) e)) ∙ guard.held.has;
        };
      }

  pub guard_file : (a b : Disk) → (backup ≡ name → ⊥) → (alone : IsAlone name a) → ChangesOne name a b → IsGuarded name backup number old a → IsGuarded name backup number old b
  guard_file a b differ alone changes guard = record {
    now = same_one name a b changes 0 backup ∙ guard.now;
    held = record {
      each = λ lost. elim (guard.held.each lost) [
        | inl by_name ↦ inl (same_one name a b changes lost name ∙ by_name)
        | inr by_backup ↦ inr (same_one name a b changes lost backup ∙ by_backup)
      ];
      has = changes.others number (λ there. alone.alone 0 backup differ (guard.now ∙ sym there ∙ alone.leads)) ∙ guard.held.has;
    };
  }

  pub guard_synced : (a b : Disk) → SyncsNames a b → IsGuarded name backup number old a → IsGuarded name backup number old b
  guard_synced a b syncs guard = record {
    now = settled a b syncs 0 backup ∙ guard.now;
    held = record {
      each = λ lost. inr (settled a b syncs lost backup ∙ guard.now);
      has = ap (λ (f : ℕ → File). f number) syncs.files ∙ guard.held.has;
    };
  }

  pub guard_bytes : (disk : Disk) → disk.pending ≡ [] → IsGuarded name backup number old disk → HoldsBytes backup old disk
  guard_bytes disk none guard lost = record { number = number; leads = one_state disk none lost backup ∙ guard.now; leaves = synced_leaves disk number old guard.held.has }

moved_each : (name backup : Name) (number : ℕ) (a b : Disk) → ChangesNames (Renames name backup) a b → names_of b backup ≡ Some number → ((lost : ℕ) → names_at a lost name ≡ Some number)
    → (lost : ℕ) → (names_at b lost name ≡ Some number) ⊎ (names_at b lost backup ≡ Some number)
moved_each name backup number a b renames now each zero = inr now
moved_each name backup number a b renames now each (suc lost) =
    inl (at_name (names_at b (suc lost)) (names_at a lost) name (older_names (Renames name backup) a b renames.synced renames.pending lost) ∙ each lost)

pub guard_moved : (name backup : Name) (old : List ℕ) (a b : Disk) → (is : IsSettled name old a) → ChangesNames (Renames name backup) a b → IsGuarded name backup is.synced.number old b
guard_moved name backup old a b is renames =
    let number = is.synced.number in
    let now : names_of b backup ≡ Some number =
    at_name (names_of b) (changed_names (Renames name backup) (names_of a)) backup (newest_names (Renames name backup) a b renames.synced renames.pending)
    ∙ cond-true (bytes_eq backup backup) (names_of a name) (cond (bytes_eq name backup) None (names_of a backup)) (itself backup) ∙ is.synced.leads in
    record {
      now = now;
      held = record {
        each = moved_each name backup number a b renames now (λ lost. one_state a is.pending lost name ∙ is.synced.leads);
        has = ap (λ (f : ℕ → File). f number) renames.files ∙ is.synced.has;
      };
    }

-- a name that was renamed is free
pub moved_away : (name backup : Name) (a b : Disk) → (backup ≡ name → ⊥) → ChangesNames (Renames name backup) a b → names_of b name ≡ None
moved_away name backup a b differ renames =
    at_name (names_of b) (changed_names (Renames name backup) (names_of a)) name (newest_names (Renames name backup) a b renames.synced renames.pending)
    ∙ cond-false (bytes_eq backup name) (names_of a name) (cond (bytes_eq name name) None (names_of a name)) (not_same backup name (λ e. differ (sym e)))
    ∙ cond-true (bytes_eq name name) None (names_of a name) (itself name)
