-- What a write did to the file and its backup: at each moment after the sync of its command, and in the end.
use Rattle.std.proofs.Common.{◌≡◌, ◌⊎◌, inl, inr, ℕ, ◌≤◌, Bool, true, false, ◌&&◌, ◌||◌, not, length, List, [], Option, Some, None, Result, Ok, Err, IfOk, OnOk, OnErr, is_ok, refl, sym, ◌∙◌, ap, subst, arith}
use Rattle.std.specs.Prelude.{is_some, is_none, IsSome}
use Rattle.std.proofs.lemmas.Bool.{true≢false, cases_Bool, and_parts, not-true}
use Rattle.vs_faults.specs.Faults.{HasRisen}
use Rattle.vs_host.specs.Disk.{Disk, Name, IsFolder, names_of, names_at, content_in}
use Rattle.vs_host.specs.Names.{AreNames, temporary}
use Rattle.vs_host.specs.Trace.{Snapshot, GoesOn}
use Rattle.vs_host.specs.World.{Scene}
use Rattle.vs_host.specs.declared.names.Names.{Names}
use Rattle.vs_text.specs.Documents.{file_in}
use Rattle.vs_disk.specs.Images.{HoldsBytes, MayLeave, Takes}
use Rattle.vs_disk.specs.Names.{IsApart, SameAt}
use Rattle.vs_disk.specs.Runs.{FailsLast, Inside, Looks, Quiet, Runs}
use Rattle.vs_disk.proofs.Contents.{takes_then, some_bytes}
use Rattle.vs_disk.proofs.Others.{same_then}
use Rattle.vs_disk.proofs.Quiet.{quiet_then}
use Rattle.vs_disk.proofs.Runs.{goes_then, goes_weaker}
use Rattle.vs_pair.specs.Pair.{is_apart, is_swap}
use Rattle.vs_pair.proofs.MadeFiles.{same_weaker}
use Rattle.vs_backup.specs.declared.options.WriteOptions.{WriteOptions}
use Rattle.vs_backup.specs.declared.errors.WriteErr.{WriteErr}
use Rattle.vs_backup.specs.declared.errors.WriteErr.TheVariants as error
use Rattle.vs_backup.specs.declared.errors.Place.TheVariants as place
use Rattle.vs_backup.specs.Backups.{WorksOn, IsNoName, backs_up, backup_of, copies, is_backed}
use Rattle.vs_backup.specs.Works.{LeadsTo, Narrowed, SparesOthers, two_names}
use Rattle.vs_backup.specs.Writing.{BeginsWhole, FindsNoName, IsFailed, IsUnseen, IsWhole, MayLackNew, OldIn, Places, PutsBack, Replaces, WritesFresh, WritesPlain, WritesWith, nowhere, stopped}
use Rattle.vs_backup.proofs.Copying.{never_no_name, never_other}
use Rattle.vs_backup.proofs.Following.{narrowed_now, narrowed_runs}
use Rattle.vs_backup.proofs.Frames.{absent_now}
use Rattle.vs_backup.proofs.Kept.{may_leave_now}
use Rattle.vs_backup.proofs.Replacing.{replaces_takes, replaces_then}
use Rattle.vs_safety.specs.Texts.{Text}
use Rattle.vs_safety.specs.Writes.{Write, AreForeign, Avoids, HasWritten, IsWholeIn, state_now}
use Rattle.vs_safety.specs.FileWork.{EditedFile, Keeps}
use Rattle.vs_paged.proofs.SyncLemmas.{on_ok_as}
use Rattle.vs_desk.specs.Still.{IsStill}
use Rattle.vs_desk.specs.Writes.{WritesFile}
use Rattle.vs_desk.proofs.Left.{goes_both}
use Rattle.vs_desk.proofs.Stillness.{still_apart, still_settled, still_lasts}
use Rattle.vs_session.specs.Session.{lacks_name}
use Rattle.vs_session.proofs.Steps.{apart_foreign, risen_since, when_err, when_ok}
use Rattle.vs_session.proofs.FileWrites.{none_is, goes_all, backup_named, file_same, backup_same, works_same, narrowed_takes, narrowed_untouched, place_same, takes_backup, takes_old, untouched_old, untouched_then}

abbrev ok_size : ℕ → Result ℕ WriteErr
ok_size size = Ok size

abbrev err_why : WriteErr → Result ℕ WriteErr
err_why why = Err why

none_some : (b : List ℕ) (X : Type 0) → None ≡ Some b → X
none_some b X e = cc

never_err : (size : ℕ) (why : WriteErr) → ok_size size ≡ err_why why → ⊥
never_err size why e = cc

-- what a write answered, and what it left
pub record Facts (names : Names) (options : WriteOptions) (bytes : List ℕ) (old : Disk) (from : ℕ) (new : Scene) (result : Result ℕ WriteErr) : Type 0 where
  pub written : IfOk result (λ size. (size ≡ length bytes) × HoldsBytes names.file bytes new.folder)
  pub kept : (was : List ℕ) (backup : Name) → options.backup ≡ true → content_in old names.file ≡ Some was → backup_of options names.file old ≡ Some backup → OnOk result (HoldsBytes backup was new.folder)
  pub gone : (backup : Name) → options.backup ≡ false → IsSome (content_in old names.file) → backup_of options names.file old ≡ Some backup
      → OnOk result ((HasRisen from new.folder_faults → ⊥) → (lost : ℕ) → names_at new.folder lost backup ≡ None)
  pub not_written : (was : List ℕ) → content_in old names.file ≡ Some was → OnErr result (MayLackNew names.file was new.folder)
  pub returned : (was : List ℕ) (backup : Name) → content_in old names.file ≡ Some was → backup_of options names.file old ≡ Some backup
      → OnErr result ((content_in new.folder names.file ≡ Some was) ⊎ OldIn place.Backup result)
  pub absent : content_in old names.file ≡ None → OnErr result (MayLeave new.folder names.file None)

-- Nothing was done, and the write was refused.
pub record IsIdle (old new : Scene) (result : Result ℕ WriteErr) : Type 0 where
  pub looks : Looks old new
  pub last : FailsLast old new
  pub none : ¬ IsFailed result → Quiet old new
  pub refused : (size : ℕ) → result ≡ Ok size → ⊥

-- The write was refused, and nothing was put back.
pub record IsAlone (old new : Scene) (result : Result ℕ WriteErr) : Type 0 where
  pub last : FailsLast old new
  pub none : ¬ IsFailed result → Quiet old new

-- what is said of neither place is said of none
in_none : (why : WriteErr) → (OldIn {T = ℕ} place.File (Err why) → ⊥) → (OldIn {T = ℕ} place.Backup (Err why) → ⊥) → (err_why why ≡ Err error.NoBackupName → ⊥) → OldIn {T = ℕ} place.Nowhere (Err why)
in_none error.NoBackupName file backup none = absurd (none refl)
in_none (error.Failed place.Nowhere) file backup none = inl refl
in_none (error.Failed place.File) file backup none = absurd (file (inl refl))
in_none (error.Failed place.Backup) file backup none = absurd (backup (inl refl))
in_none (error.NoMemory place.Nowhere) file backup none = inr refl
in_none (error.NoMemory place.File) file backup none = absurd (file (inr refl))
in_none (error.NoMemory place.Backup) file backup none = absurd (backup (inr refl))

alone_in : (old new : Scene) (answer : _) → OnErr (nowhere answer) (PutsBack old new (nowhere answer)) → OnErr (nowhere answer) (IsAlone old new (nowhere answer))
alone_in old new (Ok size) back = tt
alone_in old new (Err why) back = record {
  last = back.alone (in_none (stopped why place.Nowhere) (λ is. never_other why place.Nowhere place.File (λ e. cc) is)
      (λ is. never_other why place.Nowhere place.Backup (λ e. cc) is) (λ e. never_no_name why place.Nowhere e));
  none = λ calm. quiet_then old back.stopped new (back.none calm) (back.back_none (λ is. never_other why place.Nowhere place.Backup (λ e. cc) is));
}

alone_unseen : (old new : Scene) (result : Result ℕ WriteErr) → IsUnseen old new result → OnErr result (IsAlone old new result)
alone_unseen old new (Ok size) unseen = tt
alone_unseen old new (Err why) unseen = record { last = unseen.last; none = λ calm. absurd (calm (place.Nowhere, unseen.failed)) }

-- while only the swap files have changed
pub whole_synced : (names : Names) (are : AreNames names) (options : WriteOptions) (text : Text) (old d : Disk) → SameAt (is_apart names) old d → IsWholeIn names (record { options = options; text = text; found = old }) d
whole_synced names are options text old d same = record {
  backed = λ was backup is made. inl (untouched_old names are old d same backup (backup_named names are options old backup made));
  replaced = λ was backup is made. replaces_takes (copies options.copy) names.file backup was old d (takes_backup names are old d same backup (backup_named names are options old backup made) was);
  in_place = λ was backup is made copied. place_same names are old d same;
  fresh = λ none. takes_old names are old d same (file_in options.format text);
}

pub keeps_synced : (names : Names) (write : Write) (old d : Disk) → SameAt (is_apart names) old d → Keeps names (Some (EditedFile write)) old d
keeps_synced names write old d same = record {
  apart = λ inside foreign avoids apart. here inside foreign;
  settled = λ inside start foreign avoids settled spared. same_then inside start old d spared (here inside foreign);
}
  where
    here : (inside : Name → Bool) → AreForeign names inside → SameAt inside old d
    here inside foreign = same_weaker (is_apart names) inside old d (λ name is. apart_foreign names name (foreign name is)) same

-- no other name leads to the files of a set after the sync, either
apart_synced : (names : Names) (inside : Name → Bool) (old mid : Disk) → AreForeign names inside → IsFolder mid → IsStill (is_swap names) mid → SameAt (is_apart names) old mid → IsApart inside old → IsApart inside mid
apart_synced names inside old mid foreign folder still same apart = record {
  alone = λ lost name other number is out leads there. elim (cases_Bool (is_swap names other)) [
    | inl swap ↦
        let one : name ≡ other = folder.apart lost name other number leads (still lost other swap ∙ there) in
        absurd (true≢false (sym is ∙ ap inside one ∙ out))
    | inr none ↦
        let back = same.back lost in
        apart.alone back.0 name other number is out (sym (back.1 name (apart_foreign names name (foreign name is))) ∙ leads) (sym (same.now other (ap not none)) ∙ there)
  ];
}

module _ (names : Names) (are : AreNames names) (options : WriteOptions) (text : Text) (old : Disk) (mid new : Scene) (same : SameAt (is_apart names) old mid.folder) where
  abbrev write : Write
  write = record { options = options; text = text; found = old }

  abbrev bytes : List ℕ
  bytes = file_in options.format text

  there_mid : content_in mid.folder names.file ≡ content_in old names.file
  there_mid = file_same names are old mid.folder same

  -- the file is copied to its backup
  record Copied : Type 0 where
    pub copied : copies options.copy ≡ true

  -- ---- the other names
  -- a set to whose files no other name leads
  record Apart : Type 0 where
    pub inside : Name → Bool
    pub foreign : AreForeign names inside
    pub avoids : Avoids names write inside
    pub apart : IsApart inside old

  -- a set that was spared since a folder in which no change of a name was pending
  record Since : Type 0 where
    pub inside : Name → Bool
    pub start : Disk
    pub foreign : AreForeign names inside
    pub avoids : Avoids names write inside
    pub settled : start.pending ≡ []
    pub spared : SameAt inside start old

  since_mid : (a : Since) → SameAt a.inside a.start mid.folder
  since_mid a = same_then a.inside a.start old mid.folder a.spared (same_weaker (is_apart names) a.inside old mid.folder (λ name is. apart_foreign names name (a.foreign name is)) same)

  apart_mid : (a : Apart) → SameAt a.inside old mid.folder
  apart_mid a = same_weaker (is_apart names) a.inside old mid.folder (λ name is. apart_foreign names name (a.foreign name is)) same

  keeps_of : (d : Disk) → ((a : Apart) → SameAt a.inside old d) → ((a : Since) → SameAt a.inside a.start d) → Keeps names (Some (EditedFile write)) old d
  keeps_of d all since = record {
    apart = λ inside foreign avoids apart. all (record { inside = inside; foreign = foreign; avoids = avoids; apart = apart });
    settled = λ inside start foreign avoids settled spared. since (record { inside = inside; start = start; foreign = foreign; avoids = avoids; settled = settled; spared = spared });
  }

  module _ (folder : IsFolder mid.folder) (still : IsStill (is_swap names) mid.folder) (others : SparesOthers (WorksOn options names.file mid.folder) mid new) where
    spares_apart : (a : Apart) → Runs (SameAt a.inside) mid new
    spares_apart a = others a.inside (λ name is on. a.avoids name is (works_same names are old mid.folder same options name on)) (apart_synced names a.inside old mid.folder a.foreign folder still same a.apart)

    spares_since : (a : Since) → Runs (SameAt a.inside) mid new
    spares_since a = others a.inside (λ name is on. a.avoids name is (works_same names are old mid.folder same options name on))
        (still_apart a.inside mid.folder folder (still_lasts a.inside a.start mid.folder (since_mid a) (still_settled a.inside a.start a.settled)))

    -- at each moment, for each set of such a kind
    spared_moments : (Set : Type 0) (inside : Set → Name → Bool) (start : Set → Disk) → ((a : Set) → SameAt (inside a) (start a) mid.folder) → ((a : Set) → Runs (SameAt (inside a)) mid new)
        → (Q : Snapshot → Type 0) → GoesOn Q mid.trace new.trace → GoesOn (λ m. (a : Set) → SameAt (inside a) (start a) m.folder) mid.trace new.trace
    spared_moments Set inside start before runs Q base = goes_all Set (λ a m. SameAt (inside a) (start a) m.folder) Q mid.trace new.trace base
        (λ a. goes_weaker (Inside mid (SameAt (inside a) mid.folder)) (λ m. SameAt (inside a) (start a) m.folder) (λ m here. same_then (inside a) (start a) mid.folder m.folder (before a) here.folder) mid.trace new.trace
        (runs a).moments)

    pub keeps_moments : (Q : Snapshot → Type 0) → GoesOn Q mid.trace new.trace → GoesOn (λ m. Keeps names (Some (EditedFile write)) old m.folder) mid.trace new.trace
    keeps_moments Q base =
        goes_weaker (λ m. ((a : Apart) → SameAt a.inside old m.folder) × ((a : Since) → SameAt a.inside a.start m.folder)) (λ m. Keeps names (Some (EditedFile write)) old m.folder)
        (λ m both. keeps_of m.folder both.0 both.1) mid.trace new.trace
        (goes_both (λ m. (a : Apart) → SameAt a.inside old m.folder) (λ m. (a : Since) → SameAt a.inside a.start m.folder) mid.trace new.trace
        (spared_moments Apart (λ a. a.inside) (λ a. old) apart_mid spares_apart Q base) (spared_moments Since (λ a. a.inside) (λ a. a.start) since_mid spares_since Q base))

    pub keeps_now : Keeps names (Some (EditedFile write)) old new.folder
    keeps_now = keeps_of new.folder (λ a. same_then a.inside old mid.folder new.folder (apart_mid a) (spares_apart a).now)
        (λ a. same_then a.inside a.start mid.folder new.folder (since_mid a) (spares_since a).now)

  -- ---- the file and its backup, at each moment
  abbrev Good : Disk → Type 0
  Good disk = IsWholeIn names write disk

  abbrev Moments : Type 0
  Moments = GoesOn (λ m. Good m.folder) mid.trace new.trace × Good new.folder

  whole_mid : Good mid.folder
  whole_mid = whole_synced names are options text old mid.folder same

  from_runs : (step : Disk → Disk → Type 0) → ((d : Disk) → step mid.folder d → Good d) → Runs step mid new → Moments
  from_runs step leads runs = (goes_weaker (Inside mid (step mid.folder)) (λ m. Good m.folder) (λ m inside. leads m.folder inside.folder) mid.trace new.trace runs.moments, leads new.folder runs.now)

  from_looks : Looks mid new → Moments
  from_looks looks = from_runs (λ a b. b ≡ a) (λ d is. subst Good (sym is) whole_mid) looks

  module _ (result : Result ℕ WriteErr) (file : WritesFile options names bytes mid new result) where
    module _ (was : List ℕ) (there : content_in old names.file ≡ Some was) where
      before_takes : (d : Disk) → Narrowed mid.folder d → (backup : Name) → backup_of options names.file old ≡ Some backup → (other : List ℕ) → Takes backup other old d
      before_takes d narrowed backup made other =
          takes_then backup other old mid.folder d (takes_backup names are old mid.folder same backup (backup_named names are options old backup made) other) (narrowed_takes backup other mid.folder d narrowed)

      narrowed_good : (d : Disk) → Narrowed mid.folder d → Good d
      narrowed_good d narrowed = record {
        backed = λ other backup is made. inl (untouched_then names.file backup old mid.folder d (untouched_old names are old mid.folder same backup (backup_named names are options old backup made))
            (narrowed_untouched names.file backup mid.folder d narrowed));
        replaced = λ other backup is made. replaces_takes (copies options.copy) names.file backup other old d (before_takes d narrowed backup made other);
        in_place = λ other backup is made copied. narrowed.now names.file ∙ place_same names are old mid.folder same;
        fresh = λ none. none_some was (Takes names.file bytes old d) (sym none ∙ there);
      }

      -- a moment after the two syncs
      record After (backup : Name) (from d : Disk) : Type 0 where
        pub whole : IsWhole names.file backup was bytes d
        pub replaced : Replaces (copies options.copy) names.file backup was from d
        pub in_place : copies options.copy ≡ true → names_of d names.file ≡ names_of from names.file

      whole_good : (backup : Name) → backup_of options names.file old ≡ Some backup → (from d : Disk) → Narrowed mid.folder from → After backup from d → Good d
      whole_good backup made from d narrowed after = record {
        backed = λ other name is named. inr (subst (λ (o : List ℕ). IsWhole names.file name o bytes d) (some_bytes was other (sym there ∙ is))
            (subst (λ (n : Name). IsWhole names.file n was bytes d) (some_bytes backup name (sym made ∙ named)) after.whole));
        replaced = λ other name is named. subst (λ (o : List ℕ). Replaces (copies options.copy) names.file name o old d) (some_bytes was other (sym there ∙ is))
            (subst (λ (n : Name). Replaces (copies options.copy) names.file n was old d) (some_bytes backup name (sym made ∙ named))
            (replaces_then (copies options.copy) names.file backup was old from d (before_takes from narrowed backup made was) (narrowed.now names.file ∙ place_same names are old mid.folder same) after.replaced));
        in_place = λ other name is named copied. after.in_place copied ∙ (narrowed_good from narrowed).in_place was backup there made copied;
        fresh = λ none. none_some was (Takes names.file bytes old d) (sym none ∙ there);
      }

      not_backed : backup_of options names.file old ≡ None → (d : Disk) → Good d
      not_backed none d = record {
        backed = λ other name is named. none_some name _ (sym none ∙ named);
        replaced = λ other name is named. none_some name _ (sym none ∙ named);
        in_place = λ other name is named copied. none_some name _ (sym none ∙ named);
        fresh = λ gone. none_some was (Takes names.file bytes old d) (sym gone ∙ there);
      }

      module _ (backup : Name) (begins : BeginsWhole (copies options.copy) options.backup names.file (temporary backup) backup was bytes mid new result) where
        place_moments : (copied : copies options.copy ≡ true) → Runs (LeadsTo names.file names.file) begins.begun new
        place_moments copied = subst (λ (c : Bool). Places c options.backup names.file backup begins.begun new result) copied begins.places

        after_moments : GoesOn (λ m. After backup begins.begun.folder m.folder) begins.begun.trace new.trace
        after_moments = goes_weaker (λ m. Inside begins.begun (IsWhole names.file backup was bytes) m × (Inside begins.begun (Replaces (copies options.copy) names.file backup was begins.begun.folder) m × ((c : Copied) → LeadsTo names.file names.file begins.begun.folder m.folder)))
            (λ m. After backup begins.begun.folder m.folder) (λ m all. record { whole = all.0.folder; replaced = all.1.0.folder; in_place = λ copied. all.1.1 (record { copied = copied }) 0 }) begins.begun.trace new.trace
            (goes_both (Inside begins.begun (IsWhole names.file backup was bytes))
            (λ m. Inside begins.begun (Replaces (copies options.copy) names.file backup was begins.begun.folder) m × ((c : Copied) → LeadsTo names.file names.file begins.begun.folder m.folder)) begins.begun.trace new.trace begins.whole.moments
            (goes_both (Inside begins.begun (Replaces (copies options.copy) names.file backup was begins.begun.folder)) (λ m. (c : Copied) → LeadsTo names.file names.file begins.begun.folder m.folder) begins.begun.trace new.trace begins.replaced.moments
            (goes_all Copied (λ c m. LeadsTo names.file names.file begins.begun.folder m.folder) (Inside begins.begun (Replaces (copies options.copy) names.file backup was begins.begun.folder)) begins.begun.trace new.trace begins.replaced.moments
            (λ c. goes_weaker (Inside begins.begun (LeadsTo names.file names.file begins.begun.folder)) (λ m. LeadsTo names.file names.file begins.begun.folder m.folder) (λ m inside. inside.folder) begins.begun.trace new.trace
            (place_moments c.copied).moments))))

        after_now : After backup begins.begun.folder new.folder
        after_now = record { whole = begins.whole.now; replaced = begins.replaced.now; in_place = λ copied. (place_moments copied).now 0 }

      backed_moments : (backup : Name) → backup_of options names.file old ≡ Some backup → WritesWith options names.file backup was bytes mid new result → Moments
      backed_moments backup made writes = elim writes.moments [
        | inr narrowed ↦ from_runs Narrowed narrowed_good (narrowed_runs mid new narrowed.0)
        | inl begins ↦ (
          goes_then (λ m. Good m.folder) mid.trace begins.begun.trace new.trace
              (goes_weaker (Inside mid (Narrowed mid.folder)) (λ m. Good m.folder) (λ m inside. narrowed_good m.folder inside.folder) mid.trace begins.begun.trace (narrowed_runs mid begins.begun begins.looked).moments)
              (goes_weaker (λ m. After backup begins.begun.folder m.folder) (λ m. Good m.folder) (λ m after. whole_good backup made begins.begun.folder m.folder (narrowed_now mid begins.begun begins.looked) after) begins.begun.trace new.trace
              (after_moments backup begins)),
          whole_good backup made begins.begun.folder new.folder (narrowed_now mid begins.begun begins.looked) (after_now backup begins),
        )
      ]

      moments_there : (Q : Snapshot → Type 0) → GoesOn Q mid.trace new.trace → (b : Option Name) → backup_of options names.file old ≡ b → Moments
      moments_there Q base None none = (goes_weaker Q (λ m. Good m.folder) (λ m q. not_backed none m.folder) mid.trace new.trace base, not_backed none new.folder)
      moments_there Q base (Some backup) made = elim (file.backed was (there_mid ∙ there) backup (backup_same names are old mid.folder same options ∙ made)) [
        | inl unseen ↦ from_looks unseen.looks
        | inr writes ↦ backed_moments backup made writes
      ]

    moments_by : (Q : Snapshot → Type 0) → GoesOn Q mid.trace new.trace → (o : Option (List ℕ)) → content_in old names.file ≡ o → Moments
    moments_by Q base (Some was) there = moments_there was there Q base (backup_of options names.file old) refl
    moments_by Q base None none = elim (file.fresh (there_mid ∙ none)) [
      | inl unseen ↦ from_looks unseen.looks
      | inr writes ↦ from_runs (Takes names.file bytes) (λ d takes. record {
        backed = λ was backup is made. none_some was _ (sym none ∙ is);
        replaced = λ was backup is made. none_some was _ (sym none ∙ is);
        in_place = λ was backup is made copied. none_some was _ (sym none ∙ is);
        fresh = λ gone. takes_then names.file bytes old mid.folder d (takes_old names are old mid.folder same bytes) takes;
      }) writes.fresh.takes
    ]

    pub whole_moments : (Q : Snapshot → Type 0) → GoesOn Q mid.trace new.trace → Moments
    whole_moments Q base = moments_by Q base (content_in old names.file) refl

    -- ---- which calls failed, where it makes no backup
    module _ (back : OnErr result (PutsBack mid new result)) where
      alone_as : (answer : _) → result ≡ nowhere answer → OnErr result (IsAlone mid new result)
      alone_as answer is = subst (λ (r : Result ℕ WriteErr). OnErr r (PutsBack mid new r) → OnErr r (IsAlone mid new r)) (sym is) (alone_in mid new answer) back

      alone_where : (o : Option (List ℕ)) → content_in old names.file ≡ o → (is_some o && backs_up options) ≡ false → OnErr result (IsAlone mid new result)
      alone_where (Some was) there off = elim (file.plain was (there_mid ∙ there) off) [
        | inl unseen ↦ alone_unseen mid new result unseen
        | inr here ↦ alone_as here.answer here.is
      ]
      alone_where None none off = elim (file.fresh (there_mid ∙ none)) [
        | inl unseen ↦ alone_unseen mid new result unseen
        | inr here ↦ alone_as here.answer here.is
      ]

      pub alone_by : is_backed options names.file old ≡ false → OnErr result (IsAlone mid new result)
      alone_by off = alone_where (content_in old names.file) refl off

    -- ---- in the end
    module _ (from : ℕ) (later : from ≤ mid.folder_faults) where
      abbrev Left : Result ℕ WriteErr → Type 0
      Left r = Facts names options bytes old from new r

      -- nothing was done
      facts_none : (why : WriteErr) → result ≡ Err why → Looks mid new → Left result
      facts_none why is looks =
          let here : content_in new.folder names.file ≡ content_in old names.file = ap (λ (d : Disk). content_in d names.file) looks.now ∙ there_mid in
          subst Left (sym is) (record {
            written = tt;
            kept = λ was backup on there made. tt;
            gone = λ backup off there made. tt;
            not_written = λ was there. inl (may_leave_now names.file was new.folder (here ∙ there));
            returned = λ was backup there made. inl (here ∙ there);
            absent = λ none. absent_now names.file new.folder (here ∙ none);
          })

      module _ (was : List ℕ) (there : content_in old names.file ≡ Some was) where
        facts_backed : (backup : Name) → backup_of options names.file old ≡ Some backup → WritesWith options names.file backup was bytes mid new result → Left result
        facts_backed backup made writes = record {
          written = writes.written;
          kept = λ other name on is named.
              subst (λ (n : Name). OnOk result (HoldsBytes n other new.folder)) (some_bytes backup name (sym made ∙ named))
              (subst (λ (o : List ℕ). OnOk result (HoldsBytes backup o new.folder)) (some_bytes was other (sym there ∙ is)) (writes.kept on));
          gone = λ name off is named.
              subst (λ (n : Name). OnOk result ((HasRisen from new.folder_faults → ⊥) → (lost : ℕ) → names_at new.folder lost n ≡ None)) (some_bytes backup name (sym made ∙ named))
              (on_ok_as result _ _ (λ left calm lost. left (λ risen. calm (risen_since from mid.folder_faults new.folder_faults later risen)) lost) (writes.gone off));
          not_written = λ other is. subst (λ (o : List ℕ). OnErr result (MayLackNew names.file o new.folder)) (some_bytes was other (sym there ∙ is)) writes.not_written;
          returned = λ other name is named. subst (λ (o : List ℕ). OnErr result ((content_in new.folder names.file ≡ Some o) ⊎ OldIn place.Backup result)) (some_bytes was other (sym there ∙ is)) writes.returned;
          absent = λ none. none_some was _ (sym none ∙ there);
        }

        plain_facts : backup_of options names.file old ≡ None → (answer : _) → WritesPlain names.file was bytes mid new answer → Left (nowhere answer)
        plain_facts none (Ok size) plain = record {
          written = plain.written;
          kept = λ other name on is named. none_some name _ (sym none ∙ named);
          gone = λ name off is named. none_some name _ (sym none ∙ named);
          not_written = λ other is. tt;
          returned = λ other name is named. tt;
          absent = λ gone. tt;
        }
        plain_facts none (Err why) plain = record {
          written = tt;
          kept = λ other name on is named. tt;
          gone = λ name off is named. tt;
          not_written = λ other is. subst (λ (o : List ℕ). MayLackNew names.file o new.folder) (some_bytes was other (sym there ∙ is)) plain.not_written;
          returned = λ other name is named. none_some name _ (sym none ∙ named);
          absent = λ gone. none_some was _ (sym gone ∙ there);
        }

        facts_taken : FindsNoName mid new result → Left result
        facts_taken finds = elim finds.refused [
          | inl is ↦ facts_none error.NoBackupName is finds.looks
          | inr old_in ↦ let why = refused result old_in in facts_none why.0 why.1 finds.looks
        ]
          where
            refused : (r : Result ℕ WriteErr) → OldIn place.File r → (why : WriteErr) × (r ≡ Err why)
            refused (Err why) is = (why, refl)
            refused (Ok size) (inl is) = absurd (never_err size _ is)
            refused (Ok size) (inr is) = absurd (never_err size _ is)

        facts_there : (b : Option Name) → backup_of options names.file old ≡ b → Left result
        facts_there (Some backup) made = elim (file.backed was (there_mid ∙ there) backup (backup_same names are old mid.folder same options ∙ made)) [
          | inl unseen ↦ facts_none _ unseen.failed unseen.looks
          | inr writes ↦ facts_backed backup made writes
        ]
        facts_there None none = elim (cases_Bool (backs_up options)) [
          | inl on ↦ elim (file.all_taken (ap (λ (o : Option (List ℕ)). is_some o) (there_mid ∙ there)) on (backup_same names are old mid.folder same options ∙ none)) [
            | inl unseen ↦ facts_none _ unseen.failed unseen.looks
            | inr finds ↦ facts_taken finds
          ]
          | inr off ↦ elim (file.plain was (there_mid ∙ there) off) [
            | inl unseen ↦ facts_none _ unseen.failed unseen.looks
            | inr here ↦ subst Left (sym here.is) (plain_facts none here.answer here.plain)
          ]
        ]

      new_facts : content_in old names.file ≡ None → (answer : _) → WritesFresh (two_names names.file_new names.file) names.file bytes mid new answer → Left (nowhere answer)
      new_facts none (Ok size) fresh = record {
        written = fresh.written;
        kept = λ was backup on is made. none_some was _ (sym none ∙ is);
        gone = λ backup off is made. absurd (true≢false (sym is ∙ ap (λ (o : Option (List ℕ)). is_some o) none));
        not_written = λ was is. tt;
        returned = λ was backup is made. tt;
        absent = λ gone. tt;
      }
      new_facts none (Err why) fresh = record {
        written = tt;
        kept = λ was backup on is made. tt;
        gone = λ backup off is made. tt;
        not_written = λ was is. none_some was _ (sym none ∙ is);
        returned = λ was backup is made. none_some was _ (sym none ∙ is);
        absent = λ gone. fresh.not_written;
      }

      facts_by : (o : Option (List ℕ)) → content_in old names.file ≡ o → Left result
      facts_by (Some was) there = facts_there was there (backup_of options names.file old) refl
      facts_by None none = elim (file.fresh (there_mid ∙ none)) [
        | inl unseen ↦ facts_none _ unseen.failed unseen.looks
        | inr writes ↦ subst Left (sym writes.is) (new_facts none writes.answer writes.fresh)
      ]

      pub facts : Left result
      facts = facts_by (content_in old names.file) refl

      -- ---- whether a backup name was free
      pub named_lacks : IsNoName options names.file true mid.folder → lacks_name options names.file old ≡ true
      named_lacks lacking =
          let there : is_some (content_in old names.file) ≡ true = sym (ap (λ (o : Option (List ℕ)). is_some o) there_mid) ∙ lacking.there refl in
          let taken : backup_of options names.file old ≡ None = sym (backup_same names are old mid.folder same options) ∙ lacking.taken refl in
          λ i. ((not (lacking.off i) && lacking.on i) && there i) && is_none (taken i)

      holds : (r : Result ℕ WriteErr) → IfOk r (λ size. (size ≡ length bytes) × HoldsBytes names.file bytes new.folder) → OnOk r (HoldsBytes names.file bytes new.folder)
      holds (Ok size) is = is.1
      holds (Err why) is = tt

      pub has_written : (failed : Bool) → OnErr result (PutsBack mid new result) → (failed ≡ true → OldIn place.Backup result → IsFailed result)
          → HasWritten names write (is_ok result) failed (record { folder = old; faults = from }) (state_now new)
      has_written failed calls fails = record {
        found = refl;
        written = λ done. when_ok result (HoldsBytes names.file bytes new.folder) done (holds result facts.written);
        kept = λ was backup done on is made. when_ok result (HoldsBytes backup was new.folder) done (facts.kept was backup on is made);
        gone = λ backup done off is made. when_ok result ((HasRisen from new.folder_faults → ⊥) → (lost : ℕ) → names_at new.folder lost backup ≡ None) done (facts.gone backup off is made);
        not_written = λ was not_done is. when_err result (MayLackNew names.file was new.folder) not_done (facts.not_written was is);
        returned = λ was backup not_done is made. elim (when_err result ((content_in new.folder names.file ≡ Some was) ⊎ OldIn place.Backup result) not_done (facts.returned was backup is made)) [
          | inl here ↦ inl here
          | inr in_backup ↦
              let back = when_err result (PutsBack mid new result) not_done calls in
              inr (record {
                between = back.stopped.folder_faults;
                later = omega (arith, later, back.later);
                first = λ fault. risen_since from mid.folder_faults back.stopped.folder_faults later (back.failed in_backup (fails fault in_backup));
                second = back.back_failed in_backup;
              })
        ];
        absent = λ not_done gone. when_err result (MayLeave new.folder names.file None) not_done (facts.absent gone);
      }

      -- where no name is free, nothing is done
      pub lacks_looks : lacks_name options names.file old ≡ true → IsIdle mid new result
      lacks_looks lacks =
          let parts = and_parts _ _ lacks in
          let front = and_parts _ _ parts.0 in
          let switches = and_parts _ _ front.0 in
          let off : options.backup ≡ false = not-true options.backup switches.0 in
          let none : backup_of options names.file old ≡ None = none_is (backup_of options names.file old) parts.1 in
          elim (file.all_taken (ap (λ (o : Option (List ℕ)). is_some o) there_mid ∙ front.1) (λ i. off i || switches.1 i) (backup_same names are old mid.folder same options ∙ none)) [
            | inl unseen ↦ record {
              looks = unseen.looks;
              last = unseen.last;
              none = λ calm. absurd (calm (place.Nowhere, unseen.failed));
              refused = λ size is. never_err size _ (sym is ∙ unseen.failed);
            }
            | inr finds ↦ record {
              looks = finds.looks;
              last = finds.last;
              none = finds.none;
              refused = λ size is. elim finds.refused [
                | inl none_free ↦ never_err size _ (sym is ∙ none_free)
                | inr in_file ↦ elim in_file [ inl failed ↦ never_err size _ (sym is ∙ failed) | inr memory ↦ never_err size _ (sym is ∙ memory) ]
              ];
            }
          ]
