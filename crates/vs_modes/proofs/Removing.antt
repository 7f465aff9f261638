-- Both swap files as they are removed, in each state of the names.
use Rattle.std.proofs.Common.{◌≡◌, ◌⊎◌, inl, inr, ℕ, zero, suc, true, false, Option, None, IsTrue, refl, sym, ◌∙◌, ap, subst}
use Rattle.std.specs.Str.{bytes_eq}
use Rattle.std.proofs.lemmas.Bool.{cases_Bool, cond-true, cond-false}
use Rattle.vs_host.specs.Disk.{Disk, Directory, Name, Removes, ChangesNames, SyncsNames, changed_names, names_of, names_at}
use Rattle.vs_host.specs.declared.names.Names.{Names}
use Rattle.vs_host.specs.World.{Tells, Scene}
use Rattle.vs_disk.proofs.Steps.{at_name, itself, newest_names, older_names, settled}
use Rattle.vs_disk.proofs.Modes.{modes_none, modes_removed, modes_synced, modes_then}
use Rattle.vs_disk.proofs.Others.{same_none, same_then}
use Rattle.vs_pair.specs.Pair.{is_apart, is_swap}
use Rattle.vs_pair.specs.Steps.{IsFresh}
use Rattle.vs_disk.specs.Runs.{NoneFails}
use Rattle.vs_pair.specs.Acts.{Acts}
use Rattle.vs_pair.specs.declared.side.Side.TheVariants.{Swp, Swo}
use Rattle.vs_pair.proofs.Acts.{acts_as, acts_then}
use Rattle.vs_pair.proofs.FitLemmas.{side_outside}
use Rattle.vs_pair.proofs.MadeFiles.{same_or, synced_same}
use Rattle.vs_modes.specs.Discard.{Discards, LeadAs, MayRemove}

-- where the name leads after the call, which may be nowhere
removed_at : (gone name : Name) (old new : Disk) → ChangesNames (Removes gone) old new → (names_of new name ≡ None) ⊎ (names_of new name ≡ names_of old name)
removed_at gone name old new removes =
    let now : names_of new name ≡ changed_names (Removes gone) (names_of old) name = at_name (names_of new) (changed_names (Removes gone) (names_of old)) name (newest_names (Removes gone) old new removes.synced removes.pending) in
    elim (cases_Bool (bytes_eq gone name)) [
      | inl same ↦ inl (now ∙ cond-true (bytes_eq gone name) None (names_of old name) same)
      | inr other ↦ inr (now ∙ cond-false (bytes_eq gone name) None (names_of old name) other)
    ]

-- a name that leads nowhere goes on to do so
pub stays_gone : (gone name : Name) (old new : Disk) → names_of old name ≡ None → MayRemove gone old new → names_of new name ≡ None
stays_gone gone name old new none (inl removes) = elim (removed_at gone name old new removes) [
  | inl now ↦ now
  | inr same ↦ same ∙ none
]
stays_gone gone name old new none (inr same) = subst (λ (d : Disk). names_of d name ≡ None) (sym same) none

abbrev IsLeft : Disk → Option ℕ → Name → Type 0
IsLeft old found name = (found ≡ None) ⊎ ((l : ℕ) × (found ≡ names_at old l name))

left_as : (old : Disk) (found other : Option ℕ) (name : Name) → found ≡ other → IsLeft old other name → IsLeft old found name
left_as old found other name is left = subst (λ (o : Option ℕ). IsLeft old o name) (sym is) left

abbrev IsFirst : Names → Disk → Directory → Type 0
IsFirst names old now = (now names.swo ≡ None) ⊎ LeadAs names old now

first_as : (names : Names) (old : Disk) (now other : Directory) → ((name : Name) → now name ≡ other name) → IsFirst names old other → IsFirst names old now
first_as names old now other same (inl none) = inl (same names.swo ∙ none)
first_as names old now other same (inr lead) = inr (lead.0, same names.swp ∙ lead.1, same names.swo ∙ lead.2)

-- no file under this name, which is the one that goes or was gone
gone_now : (gone name : Name) (old new : Disk) → ChangesNames (Removes gone) old new → (gone ≡ name) ⊎ (names_of old name ≡ None) → names_of new name ≡ None
gone_now gone name old new removes (inl same) =
    subst (λ (n : Name). names_of new n ≡ None) same
    (at_name (names_of new) (changed_names (Removes gone) (names_of old)) gone (newest_names (Removes gone) old new removes.synced removes.pending)
    ∙ cond-true (bytes_eq gone gone) None (names_of old gone) (itself gone))
gone_now gone name old new removes (inr none) = stays_gone gone name old new none (inl removes)

module _ (names : Names) where
  pub discards_none : (disk : Disk) → Discards names disk disk
  discards_none disk = record { files = refl; modes = λ allowed. modes_none allowed disk; spared = same_none (is_apart names) disk; left = λ lost name is. inr (lost, refl); swo_first = λ lost. inr (lost, refl, refl) }

  removed_left : (gone : Name) (old mid new : Disk) → Discards names old mid → ChangesNames (Removes gone) mid new → (lost : ℕ) (name : Name) → is_swap names name ≡ true → IsLeft old (names_at new lost name) name
  removed_left gone old mid new so_far removes zero name is = elim (removed_at gone name mid new removes) [
    | inl now ↦ inl now
    | inr same ↦ left_as old (names_of new name) (names_of mid name) name same (so_far.left 0 name is)
  ]
  removed_left gone old mid new so_far removes (suc l) name is =
      left_as old (names_at new (suc l) name) (names_at mid l name) name (at_name (names_at new (suc l)) (names_at mid l) name (older_names (Removes gone) mid new removes.synced removes.pending l)) (so_far.left l name is)

  -- `.swo` goes, or it is gone
  removed_first : (gone : Name) (old mid new : Disk) → (gone ≡ names.swo) ⊎ (names_of mid names.swo ≡ None) → Discards names old mid → ChangesNames (Removes gone) mid new → (lost : ℕ)
      → IsFirst names old (names_at new lost)
  removed_first gone old mid new first so_far removes zero = inl (gone_now gone names.swo mid new removes first)
  removed_first gone old mid new first so_far removes (suc l) =
      first_as names old (names_at new (suc l)) (names_at mid l) (λ name. at_name (names_at new (suc l)) (names_at mid l) name (older_names (Removes gone) mid new removes.synced removes.pending l)) (so_far.swo_first l)

  pub discards_removes : (gone : Name) → is_apart names gone ≡ false → (old mid new : Disk) → (gone ≡ names.swo) ⊎ (names_of mid names.swo ≡ None) → Discards names old mid → MayRemove gone mid new
      → Discards names old new
  discards_removes gone out old mid new first so_far (inl removes) = record {
    files = removes.files ∙ so_far.files;
    modes = λ allowed. modes_then allowed old mid new (so_far.modes allowed) (modes_removed allowed gone mid new removes);
    spared = same_then (is_apart names) old mid new so_far.spared (same_or (is_apart names) gone mid new out (inl removes));
    left = removed_left gone old mid new so_far removes;
    swo_first = removed_first gone old mid new first so_far removes;
  }
  discards_removes gone out old mid new first so_far (inr same) = subst (λ (d : Disk). Discards names old d) (sym same) so_far

  pub discards_syncs : (old mid new : Disk) → Discards names old mid → SyncsNames mid new ⊎ (new ≡ mid) → Discards names old new
  discards_syncs old mid new so_far (inl syncs) = record {
    files = syncs.files ∙ so_far.files;
    modes = λ allowed. modes_then allowed old mid new (so_far.modes allowed) (modes_synced allowed mid new syncs);
    spared = same_then (is_apart names) old mid new so_far.spared (synced_same (is_apart names) mid new syncs);
    left = λ lost name is. left_as old (names_at new lost name) (names_of mid name) name (settled mid new syncs lost name) (so_far.left 0 name is);
    swo_first = λ lost. first_as names old (names_at new lost) (names_of mid) (λ name. settled mid new syncs lost name) (so_far.swo_first 0);
  }
  discards_syncs old mid new so_far (inr same) = subst (λ (d : Disk). Discards names old d) (sym same) so_far

  pub both_gone : (mid new : Disk) → names_of mid names.swp ≡ None → names_of mid names.swo ≡ None → SyncsNames mid new → IsFresh names new
  both_gone mid new swp swo syncs = record {
    no_swp = λ lost. settled mid new syncs lost names.swp ∙ swp;
    no_swo = λ lost. settled mid new syncs lost names.swo ∙ swo;
  }

  pub swo_gone : (tells : Tells) (name : Name) (mid : Scene) → name ≡ names.swo → (IsTrue tells.folder → names_of mid.folder name ≡ None) → IsTrue tells.folder → names_of mid.folder names.swo ≡ None
  swo_gone tells name mid is gone told = subst (λ (n : Name). names_of mid.folder n ≡ None) is (gone told)

  pub swp_inside : (name : Name) → name ≡ names.swp → is_apart names name ≡ false
  swp_inside name is = ap (is_apart names) is ∙ side_outside names Swp

  pub swo_inside : (name : Name) → name ≡ names.swo → is_apart names name ≡ false
  swo_inside name is = ap (is_apart names) is ∙ side_outside names Swo

  -- ---- each moment

  module _ (tells : Tells) where
    pub first_acts : (name : Name) → is_apart names name ≡ false → name ≡ names.swo → (old new : Scene) → Acts tells (MayRemove name) old new → Acts tells (Discards names) old new
    first_acts name out is old new acts = acts_as tells (MayRemove name) (Discards names) old new (λ told d may. discards_removes name out old.folder old.folder d (inl is) (discards_none old.folder) may) acts

    pub second_acts : (name : Name) → is_apart names name ≡ false → (old mid new : Scene) → (IsTrue tells.folder → names_of mid.folder names.swo ≡ None) → NoneFails tells old mid → Acts tells (Discards names) old mid → Acts tells (MayRemove name) mid new → Acts tells (Discards names) old new
    second_acts name out old mid new gone none first second =
        acts_then tells (Discards names) (MayRemove name) (Discards names) old mid new (λ told d so_far. so_far) (λ told here d may. discards_removes name out old.folder mid.folder d (inr (gone told)) here may) none first second

    pub last_acts : (old mid new : Scene) → NoneFails tells old mid → Acts tells (Discards names) old mid → Acts tells (λ a b. SyncsNames a b ⊎ (b ≡ a)) mid new → Acts tells (Discards names) old new
    last_acts old mid new none first second =
        acts_then tells (Discards names) (λ a b. SyncsNames a b ⊎ (b ≡ a)) (Discards names) old mid new (λ told d so_far. so_far) (λ told here d syncs. discards_syncs old.folder mid.folder d here syncs) none first second
