-- Each call gives no file another mode than an allowed one, since each state of the names is one from before, but for the name that it gives.
use Rattle.std.proofs.Common.{◌≡◌, inl, inr, ◌⊎◌, ℕ, zero, suc, nat_eq, Bool, cond, Option, Some, None, option_map, refl, sym, ◌∙◌, ap, subst}
use Rattle.std.specs.Str.{bytes_eq}
use Rattle.std.proofs.lemmas.Slice.Eq.{bytes_eq-Decides}
use Rattle.std.proofs.lemmas.Bool.{cases_Bool, cond-true, cond-false}
use Rattle.vs_host.specs.File.{File}
use Rattle.vs_host.specs.Disk.{Disk, Mode, Name, Change, Creates, Renames, Removes, changed_names, names_of, names_at, mode_in, modes_like, like, ChangesFile, ChangesNames, CreatesFile, SyncsNames}
use Rattle.vs_disk.specs.Modes.{HasMode, HasModes, IsOf, KeepsModes, MayStand}
use Rattle.vs_disk.proofs.Steps.{at_name, same_at, older_names, newest_names, settled}

some_same : {X : Type 0} (a b : X) → Some a ≡ Some b → a ≡ b
some_same a b e = cc

none_some : (number : ℕ) (X : Type 0) → None ≡ Some number → X
none_some number X e = cc

module _ (allowed : Mode → Bool) where
  pub modes_none : (disk : Disk) → KeepsModes allowed disk disk
  modes_none disk = record { each = λ lost number name leads. inr (record { lost = lost; leads = leads; has = refl }) }

  pub modes_then : (old mid new : Disk) → KeepsModes allowed old mid → KeepsModes allowed mid new → KeepsModes allowed old new
  modes_then old mid new first second = record { each = λ lost number name leads. joined lost number name (second.each lost number name leads) }
    where
      earlier : (number : ℕ) (name : Name) (stood : MayStand mid name number (new.modes number)) → IsOf allowed (mid.modes number) ⊎ MayStand old name number (mid.modes number)
          → IsOf allowed (new.modes number) ⊎ MayStand old name number (new.modes number)
      earlier number name stood (inl may) = inl (subst (IsOf allowed) stood.has may)
      earlier number name stood (inr was) = inr (record { lost = was.lost; leads = was.leads; has = was.has ∙ stood.has })

      joined : (lost number : ℕ) (name : Name) → IsOf allowed (new.modes number) ⊎ MayStand mid name number (new.modes number) → IsOf allowed (new.modes number) ⊎ MayStand old name number (new.modes number)
      joined lost number name (inl may) = inl may
      joined lost number name (inr stood) = earlier number name stood (first.each stood.lost number name stood.leads)

  -- what stands under a name goes on to have an allowed mode
  pub has_kept : (name : Name) (old new : Disk) → KeepsModes allowed old new → HasModes allowed name old → HasModes allowed name new
  has_kept name old new keeps has lost number leads = elim (keeps.each lost number name leads) [
    | inl may ↦ may
    | inr was ↦ subst (IsOf allowed) was.has (has was.lost number was.leads)
  ]

  -- ---- each call
  pub modes_file : (name : Name) (step : File → File → Type 0) (old new : Disk) → ChangesFile name step old new → KeepsModes allowed old new
  modes_file name step old new changes = record {
    each = λ lost number other leads. inr (record {
      lost = lost;
      leads = sym (same_at name step old new changes lost other) ∙ leads;
      has = sym (ap (λ (f : ℕ → Mode). f number) changes.modes);
    });
  }

  pub modes_synced : (old new : Disk) → SyncsNames old new → KeepsModes allowed old new
  modes_synced old new syncs = record {
    each = λ lost number name leads. inr (record {
      lost = 0;
      leads = sym (settled old new syncs lost name) ∙ leads;
      has = sym (ap (λ (f : ℕ → Mode). f number) syncs.modes);
    });
  }

  -- after a change of names, by the names as they are now
  changed : (change : Change) (old new : Disk) → ChangesNames change old new
      → ((number : ℕ) (name : Name) → changed_names change (names_of old) name ≡ Some number → IsOf allowed (old.modes number) ⊎ MayStand old name number (old.modes number)) → KeepsModes allowed old new
  changed change old new changes now = record { each = at }
    where
      mode : (number : ℕ) → old.modes number ≡ new.modes number
      mode number = sym (ap (λ (f : ℕ → Mode). f number) changes.modes)

      at : (lost number : ℕ) (name : Name) → names_at new lost name ≡ Some number → IsOf allowed (new.modes number) ⊎ MayStand old name number (new.modes number)
      at zero number name leads = subst (λ (m : Mode). IsOf allowed m ⊎ MayStand old name number m) (mode number)
          (now number name (sym (at_name (names_of new) (changed_names change (names_of old)) name (newest_names change old new changes.synced changes.pending)) ∙ leads))
      at (suc lost) number name leads = inr (record {
        lost = lost;
        leads = sym (at_name (names_at new (suc lost)) (names_at old lost) name (older_names change old new changes.synced changes.pending lost)) ∙ leads;
        has = mode number;
      })

  stands : (old : Disk) (number : ℕ) (name : Name) → names_of old name ≡ Some number → MayStand old name number (old.modes number)
  stands old number name leads = record { lost = 0; leads = leads; has = refl }

  pub modes_removed : (gone : Name) (old new : Disk) → ChangesNames (Removes gone) old new → KeepsModes allowed old new
  modes_removed gone old new changes = changed (Removes gone) old new changes (λ number name leads. elim (cases_Bool (bytes_eq gone name)) [
    | inl same ↦ none_some number _ (sym (cond-true (bytes_eq gone name) None (names_of old name) same) ∙ leads)
    | inr other ↦ inr (stands old number name (sym (cond-false (bytes_eq gone name) None (names_of old name) other) ∙ leads))
  ])

  -- a file of an allowed mode takes a name
  pub modes_renamed : (from to : Name) (old new : Disk) → HasMode allowed from old → ChangesNames (Renames from to) old new → KeepsModes allowed old new
  modes_renamed from to old new has changes = changed (Renames from to) old new changes (λ number name leads. elim (cases_Bool (bytes_eq to name)) [
    | inl same ↦ inl (has number (sym (cond-true (bytes_eq to name) (names_of old from) (rest name) same) ∙ leads))
    | inr other ↦ kept number name (sym (cond-false (bytes_eq to name) (names_of old from) (rest name) other) ∙ leads)
  ])
    where
      rest : Name → Option ℕ
      rest name = cond (bytes_eq from name) None (names_of old name)

      kept : (number : ℕ) (name : Name) → rest name ≡ Some number → IsOf allowed (old.modes number) ⊎ MayStand old name number (old.modes number)
      kept number name leads = elim (cases_Bool (bytes_eq from name)) [
        | inl gone ↦ none_some number _ (sym (cond-true (bytes_eq from name) None (names_of old name) gone) ∙ leads)
        | inr stays ↦ inr (stands old number name (sym (cond-false (bytes_eq from name) None (names_of old name) stays) ∙ leads))
      ]

  -- the file under a name after a call on a file, and after it was made
  pub mode_stays : (name other : Name) (step : File → File → Type 0) (old new : Disk) → ChangesFile name step old new → HasMode allowed other old → HasMode allowed other new
  mode_stays name other step old new changes has number leads =
      subst (IsOf allowed) (sym (ap (λ (f : ℕ → Mode). f number) changes.modes)) (has number (sym (same_at name step old new changes 0 other) ∙ leads))

  pub mode_made : (made : Name) (mode : Mode) (new : Disk) → IsOf allowed mode → mode_in new made ≡ Some mode → HasMode allowed made new
  mode_made made mode new may is number leads = subst (IsOf allowed) (sym (some_same (new.modes number) mode (sym (ap (option_map new.modes) leads) ∙ is))) may

  -- a file is made with an allowed mode
  pub modes_created : (made : Name) (mode : Mode) (old new : Disk) → IsOf allowed mode → CreatesFile made old new → mode_in new made ≡ Some mode → KeepsModes allowed old new
  modes_created made mode old new may creates is = record { each = at }
    where
      now_at : (name : Name) → names_of new name ≡ cond (bytes_eq made name) (Some creates.number) (names_of old name)
      now_at name = at_name (names_of new) (changed_names (Creates made creates.number) (names_of old)) name (newest_names (Creates made creates.number) old new creates.synced creates.pending)

      made_at : names_of new made ≡ Some creates.number
      made_at = now_at made ∙ cond-true (bytes_eq made made) (Some creates.number) (names_of old made) ((bytes_eq-Decides made made).1 refl)

      has_mode : IsOf allowed (new.modes creates.number)
      has_mode = mode_made made mode new may is creates.number made_at

      was : (number : ℕ) (name : Name) (lost : ℕ) → names_at old lost name ≡ Some number → MayStand old name number (new.modes number)
      was number name lost leads = record {
        lost = lost;
        leads = leads;
        has = sym (creates.modes number (λ same. creates.fresh lost name (leads ∙ ap (λ (n : ℕ). Some n) same)));
      }

      at : (lost number : ℕ) (name : Name) → names_at new lost name ≡ Some number → IsOf allowed (new.modes number) ⊎ MayStand old name number (new.modes number)
      at zero number name leads = elim (cases_Bool (bytes_eq made name)) [
        | inl same ↦ inl (subst (λ (n : ℕ). IsOf allowed (new.modes n)) (some_same creates.number number (sym (cond-true (bytes_eq made name) (Some creates.number) (names_of old name) same) ∙ sym (now_at name) ∙ leads)) has_mode)
        | inr other ↦ inr (was number name 0 (sym (cond-false (bytes_eq made name) (Some creates.number) (names_of old name) other) ∙ sym (now_at name) ∙ leads))
      ]
      at (suc lost) number name leads = inr (was number name lost
          (sym (at_name (names_at new (suc lost)) (names_at old lost) name (older_names (Creates made creates.number) old new creates.synced creates.pending lost)) ∙ leads))

  -- a file takes the mode of one whose mode is allowed
  pub modes_liked : (model name : Name) (disk : Disk) → HasMode allowed model disk → KeepsModes allowed disk (like model name disk)
  modes_liked model name disk has = record { each = λ lost number other leads. at lost number other leads (names_of disk model) (names_of disk name) has }
    where
      at : (lost number : ℕ) (other : Name) → names_at disk lost other ≡ Some number → (from to : Option ℕ) → ((m : ℕ) → from ≡ Some m → IsOf allowed (disk.modes m))
          → IsOf allowed (modes_like from to disk.modes number) ⊎ MayStand disk other number (modes_like from to disk.modes number)
      at lost number other leads None to may = inr (record { lost = lost; leads = leads; has = refl })
      at lost number other leads (Some m) None may = inr (record { lost = lost; leads = leads; has = refl })
      at lost number other leads (Some m) (Some n) may = elim (cases_Bool (nat_eq number n)) [
        | inl same ↦ inl (subst (IsOf allowed) (sym (cond-true (nat_eq number n) (disk.modes m) (disk.modes number) same)) (may m refl))
        | inr differ ↦ inr (record { lost = lost; leads = leads; has = sym (cond-false (nat_eq number n) (disk.modes m) (disk.modes number) differ) })
      ]
