-- The names under which files are made that are renamed then: what a command leaves of them.
use Rattle.std.proofs.Common.{◌≡◌, ◌≢◌, ◌⊎◌, inl, inr, ℕ, Bool, true, false, ◌&&◌, ◌||◌, not, codes, length, List, [], ◌∷◌, ◌++◌, Option, Some, None, IsSome, Result, refl, sym, ◌∙◌, ap, subst, append_assoc, arith}
use Rattle.std.proofs.lemmas.Option.{same_Some}
use Rattle.std.specs.List.{ends_with, list_all}
use Rattle.std.specs.Prelude.{nat_eq, nat_le}
use Rattle.std.specs.Str.{bytes_eq}
use Rattle.std.proofs.lemmas.Bool.{true≢false, cases_Bool, or_right}
use Rattle.std.proofs.lemmas.Bool.Decides.{Decides-eqb}
use Rattle.std.proofs.lemmas.List.{append_cancel_right, same_from_push}
use Rattle.std.proofs.lemmas.Slice.Eq.{bytes_eq-Decides, ends_is}
use Rattle.vs_host.specs.Disk.{Disk, Name, names_at}
use Rattle.vs_host.specs.Trace.{Snapshot, GoesOn}
use Rattle.vs_host.specs.Names.{AreNames, is_name_byte, is_reserved, temporary}
use Rattle.vs_host.specs.World.{Scene, content_of}
use Rattle.vs_host.specs.declared.names.Names.{Names}
use Rattle.vs_host.proofs.Apart.{names_apart}
use Rattle.vs_disk.specs.Names.{SameAt}
use Rattle.vs_disk.specs.Runs.{Inside, Looks, Runs}
use Rattle.vs_disk.proofs.Runs.{goes_then, goes_weaker}
use Rattle.vs_disk.proofs.Steps.{itself}
use Rattle.vs_pair.specs.Pair.{is_apart, is_foreign, is_swap}
use Rattle.vs_pair.specs.Pair.{name_of}
use Rattle.vs_pair.specs.Steps.{BothMoved}
use Rattle.vs_pair.specs.declared.side.Side.{Side}
use Rattle.vs_pair.specs.declared.side.Side.TheVariants.{Swp, Swo}
use Rattle.vs_pair.proofs.FitLemmas.{at_side}
use Rattle.vs_backup.specs.Backups.{IsBackupName, WorksOn, backup_of, copies}
use Rattle.vs_backup.specs.Backups.WorksOn.{TheFile, TheNewFile, TheBackup, TheCopy}
use Rattle.vs_backup.specs.Works.{IsGone, Spares as SparesNames, SparesOthers, two_names}
use Rattle.vs_backup.specs.Writing.{IsFailed, IsUnseen, WritesNew, WritesWith}
use Rattle.vs_backup.specs.declared.errors.Place.TheVariants.{Nowhere}
use Rattle.vs_backup.specs.declared.errors.WriteErr.{WriteErr}
use Rattle.vs_backup.specs.declared.options.WriteOptions.{WriteOptions}
use Rattle.vs_backup.proofs.Choosing.{some_name}
use Rattle.vs_backup.proofs.NamesApart.{backup_apart, new_name, temporary_apart}
use Rattle.vs_backup.proofs.Unbacked.{fresh_clears}
use Rattle.vs_desk.specs.Writes.{WritesFile}
use Rattle.vs_excmd.specs.Request.{Instruction}
use Rattle.vs_machine.specs.Machine.{took_effect}
use Rattle.vs_machine.specs.declared.command.Outcome.{Outcome}
use Rattle.vs_machine.specs.declared.command.Outcome.TheVariants.{Done, NoMemory, Fault, NoUndo}
use Rattle.vs_desk.proofs.Left.{goes_both}
use Rattle.vs_desk.proofs.Spared.{chosen_name}
use Rattle.vs_session.specs.Made.{ClearsMade, IsLeftBy, LeavesNoneBut, LeavesNoneMade, StaysMoved, WritesUnder}
use Rattle.vs_session.specs.Session.{SessionState, Ended, is_fault}
use Rattle.vs_session.proofs.UndoNames.{not_temporary}

pub cleared_same : (old new : Disk) → new ≡ old → LeavesNoneMade old new
cleared_same old new is made was = subst (λ (d : Disk). IsGone (temporary made) d) (sym is) was

pub cleared_then : (old mid new : Disk) → LeavesNoneMade old mid → LeavesNoneMade mid new → LeavesNoneMade old new
cleared_then old mid new first second made was = second made (first made was)

-- a command that leaves none at all
pub clears_none : (names : Names) (state : SessionState) (instruction : Instruction) (ended : Ended) (old new : Scene) → LeavesNoneMade old.folder new.folder → StaysMoved names old new → ClearsMade names state instruction ended old new
clears_none names state instruction ended old new none moved = record { left = λ made out was. none made was; moved = moved }

-- a write that was refused leaves one under the names on which it works, and no other; without a failed call it leaves none
pub but_refused : (names : Names) (state : SessionState) (instruction : Instruction) (found : Disk) (outcome : Outcome) → took_effect outcome ≡ false → (old new : Disk) → LeavesNoneBut (WritesUnder names state instruction found) old new
    → (is_fault outcome ≡ false → LeavesNoneMade old new) → LeavesNoneBut (IsLeftBy outcome names state instruction found) old new
but_refused names state instruction found Done none old new but calm = absurd (true≢false none)
but_refused names state instruction found NoMemory none old new but calm = λ made out was. calm refl made was
but_refused names state instruction found Fault none old new but calm = λ made out was. but made (λ works. out (inl works)) was
but_refused names state instruction found NoUndo none old new but calm = absurd (true≢false none)

-- one that was carried out leaves none, or that of an undo file that was not stored
pub but_carried : (names : Names) (state : SessionState) (instruction : Instruction) (found : Disk) (outcome : Outcome) → (outcome ≡ Done) ⊎ (outcome ≡ NoUndo) → (old new : Disk) → (outcome ≡ Done → LeavesNoneMade old new)
    → LeavesNoneBut (λ name. name ≡ names.undo_new) old new → LeavesNoneBut (IsLeftBy outcome names state instruction found) old new
but_carried names state instruction found Done ended old new none but = λ made out was. none refl made was
but_carried names state instruction found NoMemory ended old new none but = elim ended [ inl is ↦ absurd (cc) | inr is ↦ absurd (cc) ]
but_carried names state instruction found Fault ended old new none but = elim ended [ inl is ↦ absurd (cc) | inr is ↦ absurd (cc) ]
but_carried names state instruction found NoUndo ended old new none but = but

-- a name that is left alone
gone_same : (inside : Name → Bool) (name : Name) (old new : Disk) → SameAt inside old new → inside name ≡ true → IsGone name old → IsGone name new
gone_same inside name old new same is gone lost = let at = same.back lost in at.1 name is ∙ gone at.0

-- of which no file is known, so that no other name leads to it
spared_alone : (on : Name → Type 0) (name : Name) (old new : Scene) → SparesOthers on old new → (on name → ⊥) → IsGone name old.folder → Runs (SameAt (bytes_eq name)) old new
spared_alone on name old new spares out gone =
    spares (bytes_eq name) (λ other is works. out (subst on (sym ((bytes_eq-Decides name other).0 is)) works))
    (record {
      alone = λ lost one other number is outside leads there.
          let clash : None ≡ Some number = sym (gone lost) ∙ ap (names_at old.folder lost) ((bytes_eq-Decides name one).0 is) ∙ leads in cc;
    })

pub gone_spared : (on : Name → Type 0) (name : Name) (old new : Scene) → SparesOthers on old new → (on name → ⊥) → IsGone name old.folder → IsGone name new.folder
gone_spared on name old new spares out gone =
    gone_same (bytes_eq name) name old.folder new.folder (spared_alone on name old new spares out gone).now (itself name) gone

reserved_last : (a b r : Bool) → r ≡ true → (a && (b && not r)) ≡ true → ⊥
reserved_last true true r is all = true≢false (sym all ∙ ap not is)
reserved_last true false r is all = true≢false (sym all)
reserved_last false b r is all = true≢false (sym all)

temporary_end : (name : Name) → temporary name ≡ (name ++ codes ".vsne") ++ 119 ∷ []
temporary_end name = sym (append_assoc name (codes ".vsne") (119 ∷ []))

-- ---- the names

module _ (names : Names) where
  side_name : (side : Side) → (name_of names side ≡ names.swp) ⊎ (name_of names side ≡ names.swo)
  side_name Swp = inl refl
  side_name Swo = inr refl

  -- a swap file has one of the two names
  pub swap_name : (name : Name) → is_swap names name ≡ true → (name ≡ names.swp) ⊎ (name ≡ names.swo)
  swap_name name is =
      let at = at_side names name (ap not is) in
      subst (λ (n : Name). (n ≡ names.swp) ⊎ (n ≡ names.swo)) (sym at.1) (side_name at.0)

module _ (names : Names) (are : AreNames names) where
  -- none of these names is that of a file, of its backup or of a swap file
  file_unmade : (made : Name) → temporary made ≢ names.file
  file_unmade made same =
      let last : ends_with nat_eq names.file (codes ".vsnew") ≡ true = (ends_is Decides-eqb names.file (codes ".vsnew") _ refl).1 made (sym same) in
      reserved_last (nat_le 1 (length names.file) && nat_le (length names.file) 200) (list_all is_name_byte names.file) (is_reserved names.file)
      (or_right (bytes_eq names.file (codes ".") || bytes_eq names.file (codes "..")) (ends_with nat_eq names.file (codes ".vsnew")) last) are.allowed

  backup_unmade : (made backup : Name) → IsBackupName names.file backup → temporary made ≢ backup
  backup_unmade made backup named same =
      let last = (same_from_push (made ++ codes ".vsne") named.stem 119 126 (sym (temporary_end made) ∙ same ∙ named.ends)).1 in omega arith

  swap_unmade : (made : Name) → is_swap names (temporary made) ≡ false
  swap_unmade made = elim (cases_Bool (is_swap names (temporary made))) [
    | inl swap ↦ absurd (temporary_apart names are made (swap_name names (temporary made) swap))
    | inr other ↦ other
  ]

  -- the making of the swap files
  pub cleared_started : (old new : Disk) → SameAt (is_foreign names) old new → BothMoved names new → LeavesNoneMade old new
  cleared_started old new same moved made was = by (cases_Bool (bytes_eq names.swp_new (temporary made))) (cases_Bool (bytes_eq names.swo_new (temporary made)))
    where
      by : (bytes_eq names.swp_new (temporary made) ≡ true) ⊎ (bytes_eq names.swp_new (temporary made) ≡ false) → (bytes_eq names.swo_new (temporary made) ≡ true) ⊎ (bytes_eq names.swo_new (temporary made) ≡ false)
          → IsGone (temporary made) new
      by (inl swp) swo = subst (λ (n : Name). IsGone n new) ((bytes_eq-Decides names.swp_new (temporary made)).0 swp) moved.0
      by (inr swp) (inl swo) = subst (λ (n : Name). IsGone n new) ((bytes_eq-Decides names.swo_new (temporary made)).0 swo) moved.1
      by (inr swp) (inr swo) = gone_same (is_foreign names) (temporary made) old new same (λ i. not (swap_unmade made i || (swp i || swo i))) was

  -- a sync
  pub cleared_synced : (old new : Disk) → SameAt (is_apart names) old new → LeavesNoneMade old new
  cleared_synced old new same made was = gone_same (is_apart names) (temporary made) old new same (ap not (swap_unmade made)) was

  -- the storing of an undo file
  pub cleared_stored : (old new : Disk) → SparesNames (two_names names.undo_new names.undo) old new → IsGone names.undo_new new → LeavesNoneMade old new
  cleared_stored old new spares gone made was = elim (cases_Bool (bytes_eq (temporary made) names.undo_new)) [
    | inl same ↦ subst (λ (n : Name). IsGone n new) (sym ((bytes_eq-Decides (temporary made) names.undo_new).0 same)) gone
    | inr other ↦ gone_same (bytes_eq (temporary made)) (temporary made) old new
        (spares (bytes_eq (temporary made)) (λ name is on. outside other (subst (two_names names.undo_new names.undo) (sym ((bytes_eq-Decides (temporary made) name).0 is)) on))) (itself (temporary made)) was
  ]
    where
      outside : bytes_eq (temporary made) names.undo_new ≡ false → two_names names.undo_new names.undo (temporary made) → ⊥
      outside other (inl new) = true≢false (sym ((bytes_eq-Decides (temporary made) names.undo_new).1 new) ∙ other)
      outside other (inr undo) = not_temporary names are made (sym undo)

  -- but under that of the undo file it leaves none in any case
  pub but_stored : (old new : Disk) → SparesNames (two_names names.undo_new names.undo) old new → LeavesNoneBut (λ name. name ≡ names.undo_new) old new
  but_stored old new spares made out was =
      gone_same (bytes_eq (temporary made)) (temporary made) old new
      (spares (bytes_eq (temporary made)) (λ name is on. outside (subst (two_names names.undo_new names.undo) (sym ((bytes_eq-Decides (temporary made) name).0 is)) on))) (itself (temporary made)) was
    where
      outside : two_names names.undo_new names.undo (temporary made) → ⊥
      outside (inl new) = out new
      outside (inr undo) = not_temporary names are made (sym undo)

  -- ---- the names under which the swap files are made

  pub swp_made : names.swp_new ≡ temporary names.swp
  swp_made = ap (λ (n : Names). n.swp_new) are.others ∙ ap (λ (n : Names). temporary n.swp) (sym are.others)

  pub swo_made : names.swo_new ≡ temporary names.swo
  swo_made = ap (λ (n : Names). n.swo_new) are.others ∙ ap (λ (n : Names). temporary n.swo) (sym are.others)

  -- they stay so where all names do but some others
  both_but : (left : Name → Type 0) (old d : Disk) → LeavesNoneBut left old d → (left names.swp_new → ⊥) → (left names.swo_new → ⊥) → BothMoved names old → BothMoved names d
  both_but left old d but swp swo moved = (
    subst (λ (n : Name). IsGone n d) (sym swp_made) (but names.swp (λ is. swp (subst left (sym swp_made) is)) (subst (λ (n : Name). IsGone n old) swp_made moved.0)),
    subst (λ (n : Name). IsGone n d) (sym swo_made) (but names.swo (λ is. swo (subst left (sym swo_made) is)) (subst (λ (n : Name). IsGone n old) swo_made moved.1)),
  )

  both_of : (old d : Disk) → LeavesNoneMade old d → BothMoved names old → BothMoved names d
  both_of old d none = both_but (λ name. ⊥) old d (λ made out was. none made was) (λ never. never) (λ never. never)

  moved_by : (P : Snapshot → Type 0) (old new : Scene) → GoesOn P old.trace new.trace → ((m : Snapshot) → P m → BothMoved names old.folder → BothMoved names m.folder)
      → (BothMoved names old.folder → BothMoved names new.folder) → StaysMoved names old new
  moved_by P old new goes each now moved = (goes_weaker P (λ m. BothMoved names m.folder) (λ m has. each m has moved) old.trace new.trace goes, now moved)

  pub moved_apart : (old new : Scene) → GoesOn (λ m. SameAt (is_apart names) old.folder m.folder) old.trace new.trace → SameAt (is_apart names) old.folder new.folder → StaysMoved names old new
  moved_apart old new goes now =
      moved_by (λ m. SameAt (is_apart names) old.folder m.folder) old new goes (λ m same. both_of old.folder m.folder (cleared_synced old.folder m.folder same))
      (both_of old.folder new.folder (cleared_synced old.folder new.folder now))

  pub moved_looks : (old new : Scene) → Looks old new → StaysMoved names old new
  moved_looks old new looks =
      moved_by (Inside old (λ d. d ≡ old.folder)) old new looks.moments (λ m inside. both_of old.folder m.folder (cleared_same old.folder m.folder inside.folder))
      (both_of old.folder new.folder (cleared_same old.folder new.folder looks.now))

  pub moved_then : (old mid new : Scene) → StaysMoved names old mid → StaysMoved names mid new → StaysMoved names old new
  moved_then old mid new first second moved =
      let at = first moved in
      let now = second at.1 in
      (goes_then (λ m. BothMoved names m.folder) old.trace mid.trace new.trace at.0 now.0, now.1)

  pub moved_stored : (P : Disk → Disk → Type 0) (old new : Scene) → ((d : Disk) → P old.folder d → SparesNames (two_names names.undo_new names.undo) old.folder d) → Runs P old new → StaysMoved names old new
  moved_stored P old new spared runs =
      moved_by (Inside old (P old.folder)) old new runs.moments (λ m inside. stays m.folder (spared m.folder inside.folder)) (stays new.folder (spared new.folder runs.now))
    where
      stays : (d : Disk) → SparesNames (two_names names.undo_new names.undo) old.folder d → BothMoved names old.folder → BothMoved names d
      stays d spares = both_but (λ name. name ≡ names.undo_new) old.folder d (but_stored old.folder d spares) ((names_apart names are).1.1.1.1.1.0.1.0) ((names_apart names are).1.1.1.1.1.1.0.0)

  -- a write does not work on them
  swp_unworked : (options : WriteOptions) (disk : Disk) → WorksOn options names.file disk names.swp_new → ⊥
  swp_unworked options disk (TheFile same) = file_unmade names.swp (sym swp_made ∙ same)
  swp_unworked options disk (TheNewFile none same) = (names_apart names are).1.1.1.1.0.0 (new_name names are ∙ sym same)
  swp_unworked options disk (TheBackup backup there chosen same) =
      backup_unmade names.swp backup (chosen_name options names.file disk backup (some_name names.file are.allowed) chosen) (sym swp_made ∙ same)
  swp_unworked options disk (TheCopy backup there chosen copied same) =
      backup_apart names are backup (chosen_name options names.file disk backup (some_name names.file are.allowed) chosen) (inl (sym (append_cancel_right names.swp backup (codes ".vsnew") (sym swp_made ∙ same))))

  swo_unworked : (options : WriteOptions) (disk : Disk) → WorksOn options names.file disk names.swo_new → ⊥
  swo_unworked options disk (TheFile same) = file_unmade names.swo (sym swo_made ∙ same)
  swo_unworked options disk (TheNewFile none same) = (names_apart names are).1.1.1.1.0.1.0 (new_name names are ∙ sym same)
  swo_unworked options disk (TheBackup backup there chosen same) =
      backup_unmade names.swo backup (chosen_name options names.file disk backup (some_name names.file are.allowed) chosen) (sym swo_made ∙ same)
  swo_unworked options disk (TheCopy backup there chosen copied same) =
      backup_apart names are backup (chosen_name options names.file disk backup (some_name names.file are.allowed) chosen) (inr (sym (append_cancel_right names.swo backup (codes ".vsnew") (sym swo_made ∙ same))))

  gone_goes : (name : Name) (old new : Scene) → IsGone name old.folder → Runs (SameAt (bytes_eq name)) old new → GoesOn (λ m. IsGone name m.folder) old.trace new.trace × IsGone name new.folder
  gone_goes name old new gone runs = (
    goes_weaker (Inside old (SameAt (bytes_eq name) old.folder)) (λ m. IsGone name m.folder) (λ m inside. gone_same (bytes_eq name) name old.folder m.folder inside.folder (itself name) gone) old.trace new.trace runs.moments,
    gone_same (bytes_eq name) name old.folder new.folder runs.now (itself name) gone,
  )

  pub moved_write : (options : WriteOptions) (old new : Scene) → SparesOthers (WorksOn options names.file old.folder) old new → StaysMoved names old new
  moved_write options old new others moved =
      let on : Name → Type 0 = WorksOn options names.file old.folder in
      let swp = gone_goes names.swp_new old new moved.0 (spared_alone on names.swp_new old new others (swp_unworked options old.folder) moved.0) in
      let swo = gone_goes names.swo_new old new moved.1 (spared_alone on names.swo_new old new others (swo_unworked options old.folder) moved.1) in
      (goes_both (λ m. IsGone names.swp_new m.folder) (λ m. IsGone names.swo_new m.folder) old.trace new.trace swp.0 swo.0, (swp.1, swo.1))

  -- a write in which no call failed, or which was carried out
  module _ (options : WriteOptions) (bytes : List ℕ) (result : Result ℕ WriteErr) (calm : IsFailed result → ⊥) (old new : Scene) (file : WritesFile options names bytes old new result)
      (others : SparesOthers (WorksOn options names.file old.folder) old new) (made : Name) (was : IsGone (temporary made) old.folder) where
    abbrev On : Name → Type 0
    On = WorksOn options names.file old.folder

    abbrev Gone : Type 0
    Gone = IsGone (temporary made) new.folder

    unworked : (On (temporary made) → ⊥) → Gone
    unworked out = gone_spared On (temporary made) old new others out was

    -- of a new file
    apart_new : names.file_new ≡ names.file → ⊥
    apart_new same = file_unmade names.file (sym (new_name names are) ∙ same)

    renamed : IsUnseen old new result ⊎ WritesNew names.file_new names.file bytes old new result → IsGone names.file_new old.folder → IsGone names.file_new new.folder
    renamed (inl unseen) gone = absurd (calm (Nowhere, unseen.failed))
    renamed (inr fresh) gone = fresh_clears names.file_new names.file bytes old new result calm apart_new fresh gone

    unworked_new : content_of old names.file ≡ None → bytes_eq (temporary made) names.file_new ≡ false → On (temporary made) → ⊥
    unworked_new none other (TheFile same) = file_unmade made same
    unworked_new none other (TheNewFile absent same) = true≢false (sym ((bytes_eq-Decides (temporary made) names.file_new).1 (same ∙ sym (new_name names are))) ∙ other)
    unworked_new none other (TheBackup backup there chosen same) = let clash = subst (λ (o : Option (List ℕ)). IsSome o) none there in cc
    unworked_new none other (TheCopy backup there chosen copied same) = let clash = subst (λ (o : Option (List ℕ)). IsSome o) none there in cc

    of_new : content_of old names.file ≡ None → Gone
    of_new none = elim (cases_Bool (bytes_eq (temporary made) names.file_new)) [
      | inl same ↦
          let is = (bytes_eq-Decides (temporary made) names.file_new).0 same in
          subst (λ (n : Name). IsGone n new.folder) (sym is) (renamed (file.fresh none) (subst (λ (n : Name). IsGone n old.folder) is was))
      | inr other ↦ unworked (unworked_new none other)
    ]

    -- of one that was there
    copied_aside : (backup : Name) (was_bytes : List ℕ) → copies options.copy ≡ true → IsUnseen old new result ⊎ WritesWith options names.file backup was_bytes bytes old new result
        → IsGone (temporary backup) old.folder → IsGone (temporary backup) new.folder
    copied_aside backup was_bytes copied (inl unseen) gone = absurd (calm (Nowhere, unseen.failed))
    copied_aside backup was_bytes copied (inr backed) gone = backed.clears copied calm gone

    unworked_copy : (was_bytes : List ℕ) → content_of old names.file ≡ Some was_bytes → ((backup : Name) → backup_of options names.file old.folder ≡ Some backup → copies options.copy ≡ true → temporary made ≡ temporary backup → ⊥)
        → On (temporary made) → ⊥
    unworked_copy was_bytes there out (TheFile same) = file_unmade made same
    unworked_copy was_bytes there out (TheNewFile absent same) = let clash = sym absent ∙ there in cc
    unworked_copy was_bytes there out (TheBackup backup some chosen same) = backup_unmade made backup (chosen_name options names.file old.folder backup (some_name names.file are.allowed) chosen) same
    unworked_copy was_bytes there out (TheCopy backup some chosen copied same) = out backup chosen copied same

    of_copy : (was_bytes : List ℕ) → content_of old names.file ≡ Some was_bytes → (backup : Name) → backup_of options names.file old.folder ≡ Some backup → copies options.copy ≡ true → Gone
    of_copy was_bytes there backup chosen copied = elim (cases_Bool (bytes_eq (temporary made) (temporary backup))) [
      | inl same ↦
          let is = (bytes_eq-Decides (temporary made) (temporary backup)).0 same in
          subst (λ (n : Name). IsGone n new.folder) (sym is) (copied_aside backup was_bytes copied (file.backed was_bytes there backup chosen) (subst (λ (n : Name). IsGone n old.folder) is was))
      | inr other ↦ unworked (unworked_copy was_bytes there (λ other_backup other_chosen _ same.
          let one : Some other_backup ≡ Some backup = sym other_chosen ∙ chosen in
          true≢false (sym ((bytes_eq-Decides (temporary made) (temporary backup)).1 (same ∙ ap temporary (same_Some other_backup backup one))) ∙ other)))
    ]

    of_there : (was_bytes : List ℕ) → content_of old names.file ≡ Some was_bytes → (chosen : Option Name) → backup_of options names.file old.folder ≡ chosen → Gone
    of_there was_bytes there None is = unworked (unworked_copy was_bytes there (λ backup chosen _ same. let clash = sym is ∙ chosen in cc))
    of_there was_bytes there (Some backup) is = elim (cases_Bool (copies options.copy)) [
      | inl copied ↦ of_copy was_bytes there backup is copied
      | inr moved ↦ unworked (unworked_copy was_bytes there (λ other chosen copied same. true≢false (sym copied ∙ moved)))
    ]

    of_content : (found : Option (List ℕ)) → content_of old names.file ≡ found → Gone
    of_content None is = of_new is
    of_content (Some was_bytes) is = of_there was_bytes is (backup_of options names.file old.folder) refl

    pub cleared_written : Gone
    cleared_written = of_content (content_of old names.file) refl
