-- The whole of a write with a backup: before the two syncs nothing changes, and after them the file or its backup is whole.
use Rattle.std.proofs.Common.{◌≡◌, ◌⊎◌, inl, inr, ℕ, ◌≤◌, Bool, true, false, List, Option, Some, None, OnOk, Result, Ok, Err, refl, sym, ◌∙◌, ap, subst, arith}
use Rattle.std.specs.Prelude.{IsErr, IsErrOf, IsSome, IsSomeAnd}
use Rattle.std.proofs.lemmas.Bool.{true≢false}
use Rattle.std.proofs.lemmas.Result.{on_ok_weaker}
use Rattle.vs_faults.specs.Faults.{HasCause, HasRisen}
use Rattle.vs_host.specs.Disk.{Disk, Name, names_of, read_under, content_in}
use Rattle.vs_host.specs.World.{HasNewest, Scene, ChangesFolder}
use Rattle.vs_host.specs.declared.traits.Failed.{Failed}
use Rattle.vs_disk.specs.Images.{HoldsBytes, MayLeave}
use Rattle.vs_disk.specs.Runs.{Looks, Runs}
use Rattle.vs_disk.proofs.Runs.{runs_as}
use Rattle.vs_disk.proofs.Contents.{image_holds}
use Rattle.vs_backup.specs.Works.{Drops, HasSynced, IsGone, Narrowed, Spares, SparesOthers, StaysGone, Steps, one_name}
use Rattle.vs_backup.specs.Writing.{IsKept, IsWhole, IsSettled, OldIn, WritesOver, WritesBacked, BeginsWhole, backed_names, stopped}
use Rattle.vs_backup.specs.declared.errors.Place.{Place}
use Rattle.vs_backup.specs.declared.errors.Place.TheVariants as place
use Rattle.vs_backup.specs.declared.errors.Stop.{Stop}
use Rattle.vs_backup.specs.declared.errors.Stop.TheVariants as stop
use Rattle.vs_backup.specs.declared.errors.WriteErr.{WriteErr}
use Rattle.vs_backup.specs.declared.errors.WriteErr.TheVariants as error
use Rattle.vs_backup.proofs.Calls.{runs_wider, spares_on}
use Rattle.vs_backup.proofs.Following.{looks_narrowed, narrowed_now, narrowed_on, narrowed_starts}
use Rattle.vs_backup.proofs.Frames.{holds_spared}
use Rattle.vs_backup.proofs.Kept.{may_leave_now}
use Rattle.vs_backup.proofs.Modes.{mode_narrowed, mode_spared}
use Rattle.vs_backup.proofs.Copying.{content_held, kept_on, never_failed, never_refused}
use Rattle.vs_backup.proofs.Others.{others_spared, others_looks, others_on, others_starts}
use Rattle.vs_backup.proofs.Places.{places_keep, places_dropped}
use Rattle.vs_backup.proofs.Renewing.{renews_dropped}
use Rattle.vs_backup.proofs.Replacing.{replaces_dropped, gone_spared}

some_and : (at : Option (List ℕ)) (bytes : List ℕ) (P : List ℕ → Type 0) → at ≡ Some bytes → P bytes → IsSomeAnd at P
some_and at bytes P is holds = subst (λ (o : Option (List ℕ)). IsSomeAnd o P) (sym is) holds

pub whole_kept : (name backup : Name) (old new : List ℕ) (disk : Disk) → IsKept name backup old disk → IsWhole name backup old new disk
whole_kept name backup old new disk kept image is = elim (kept image is) [
  | inl by_name ↦ inl (some_and (image name) old (λ c. (c ≡ old) ⊎ (c ≡ new)) by_name (inl refl))
  | inr by_backup ↦ inr (some_and (image backup) old (λ c. (c ≡ old) ⊎ (c ≡ new)) by_backup (inl refl))
]

weaker : (at : Option (List ℕ)) (P Q : List ℕ → Type 0) → ((c : List ℕ) → P c → Q c) → IsSomeAnd at P → IsSomeAnd at Q
weaker None P Q leads is = is
weaker (Some c) P Q leads is = leads c is

pub whole_new : (name backup : Name) (old new : List ℕ) (disk : Disk) → HoldsBytes name new disk → IsWhole name backup old new disk
whole_new name backup old new disk holds image is =
    inl (weaker (image name) (λ c. c ≡ new) (λ c. (c ≡ old) ⊎ (c ≡ new)) (λ c same. inr same) (image_holds disk name (λ c. c ≡ new) holds image is))

backup_named : (copying : Bool) (name temporary backup n : Name) → n ≡ backup → backed_names copying name temporary backup n
backup_named true name temporary backup n is = inr (inr is)
backup_named false name temporary backup n is = inr is

pub file_named : (copying : Bool) (name temporary backup : Name) → backed_names copying name temporary backup name
file_named true name temporary backup = inl refl
file_named false name temporary backup = inl refl

risen_before : (a b c : ℕ) → a ≤ b → HasRisen b c → HasRisen a c
risen_before a b c le (inl lt) = inl (omega arith)
risen_before a b c le (inr full) = inr full

pub narrowed_content : (name : Name) (a b : Disk) → Narrowed a b → content_in b name ≡ content_in a name
narrowed_content name a b narrowed = ap (λ (at : Option ℕ). read_under b at) (narrowed.now name) ∙ same (names_of a name)
  where
    same : (at : Option ℕ) → read_under b at ≡ read_under a at
    same None = refl
    same (Some number) = ap (λ (bytes : List ℕ). Some bytes) (narrowed.files number).bytes

gone_narrowed : (name : Name) (a b : Disk) → Narrowed a b → StaysGone name a b
gone_narrowed name a b narrowed was lost = let at = narrowed.back lost in at.1 name ∙ was at.0

-- ---- from a settled file
module _ (copying keep : Bool) (name temporary backup : Name) (old new : List ℕ) (s0 s1 : Scene) (moment : HasNewest s0) (order : HasSynced name s0) (is : IsSettled name old s0.folder) where
  abbrev begins : (result : Result ℕ WriteErr) → WritesOver copying name temporary backup old new s0 s1 result
      → BeginsWhole copying keep name temporary backup old new s0 s1 result
  begins result over = record {
    begun = s0;
    looked = narrowed_starts s0;
    moment = moment;
    order = order;
    settled = is;
    whole = runs_as (λ a b. IsKept name backup old b) (λ a b. IsWhole name backup old new b) s0 s1 (λ d kept. whole_kept name backup old new d kept) over.kept;
    replaced = over.replaced;
    places = places_keep copying keep name backup s0 s1 result over.places;
    spares = over.spares;
    anew = over.anew;
  }

  others : (result : Result ℕ WriteErr) → WritesOver copying name temporary backup old new s0 s1 result → SparesOthers (backed_names copying name temporary backup) s0 s1
  others result over = others_spared (backed_names copying name temporary backup) s0 s1 over.spares

  returned_over : (why : WriteErr) → WritesOver copying name temporary backup old new s0 s1 (Err why) → (content_in s1.folder name ≡ Some old) ⊎ OldIn {T = ℕ} place.Backup (Err why)
  returned_over error.NoBackupName over = absurd (over.somewhere.1 refl)
  returned_over (error.Failed place.File) over = inl (content_held name old s1.folder (over.in_file (inl refl)))
  returned_over (error.Failed place.Backup) over = inr (inl refl)
  returned_over (error.Failed place.Nowhere) over = absurd (over.somewhere.0 (inl refl))
  returned_over (error.NoMemory place.File) over = inl (content_held name old s1.folder (over.in_file (inr refl)))
  returned_over (error.NoMemory place.Backup) over = inr (inr refl)
  returned_over (error.NoMemory place.Nowhere) over = absurd (over.somewhere.0 (inr refl))

  pub backed_refused : (why : WriteErr) → WritesOver copying name temporary backup old new s0 s1 (Err why)
      → WritesBacked copying keep name temporary backup old new s0 s1 (Err why)
  backed_refused why over = record {
    moments = inl (begins (Err why) over);
    others = others (Err why) over;
    written = tt;
    mode = tt;
    kept = λ keeps. tt;
    gone = λ goes. tt;
    aside = λ copies. tt;
    clears = λ copies calm was. over.aside copies calm;
    not_written = over.not_written;
    returned = returned_over why over;
    in_file = λ refused. inr (over.in_file refused);
    in_backup = λ refused. (over.kept.now, over.in_backup refused);
    somewhere = over.somewhere;
  }

  pub backed_kept : (size : ℕ) → keep ≡ true → WritesOver copying name temporary backup old new s0 s1 (Ok size)
      → WritesBacked copying keep name temporary backup old new s0 s1 (Ok size)
  backed_kept size keeps over = record {
    moments = inl (begins (Ok size) over);
    others = others (Ok size) over;
    written = (over.written.0, over.written.1);
    mode = over.mode;
    kept = λ keeps. over.written.2;
    gone = λ goes. absurd (true≢false (sym keeps ∙ goes));
    aside = λ copies. over.aside copies (never_failed size);
    clears = λ copies calm was. over.aside copies calm;
    not_written = tt;
    returned = tt;
    in_file = λ refused. absurd (never_refused size place.File refused);
    in_backup = λ refused. absurd (never_refused size place.Backup refused);
    somewhere = (λ refused. never_refused size place.Nowhere refused, λ is. cc);
  }

  -- the backup is removed, or a call failed
  pub backed_removed : (size : ℕ) (s2 : Scene) → keep ≡ false → ChangesFolder s0 s1 → (name ≡ backup → ⊥) → (temporary ≡ backup → ⊥) → content_in s0.folder backup ≡ None
      → WritesOver copying name temporary backup old new s0 s1 (Ok size) → Runs (Spares (one_name backup)) s1 s2 → Runs (Drops backup) s1 s2
      → ((HasRisen s0.folder_faults s2.folder_faults → ⊥) → IsGone backup s2.folder) → WritesBacked copying keep name temporary backup old new s0 s2 (Ok size)
  backed_removed size s2 goes frame differ differ_backup free over drops dropped gone =
      let on = backed_names copying name temporary backup in
      let holds = over.written.1 in
      let before = begins (Ok size) over in
      let spares = spares_on on s0 s1 s2 frame over.spares (runs_wider (one_name backup) on s1 s2 (λ n same. backup_named copying name temporary backup n same) drops) in
      record {
        moments = inl (record {
          begun = s0;
          looked = narrowed_starts s0;
          moment = moment;
          order = order;
          settled = is;
          whole = kept_on (IsWhole name backup old new) s0 s1 s2 frame before.whole
              (runs_as (Spares (one_name backup)) (λ a b. IsWhole name backup old new b) s1 s2
              (λ d spares. whole_new name backup old new d (holds_spared (one_name backup) name (λ c. c ≡ new) s1.folder d differ spares holds)) drops);
          replaced = replaces_dropped copying name backup old s0 s1 s2 frame free over.replaced dropped;
          places = places_dropped copying keep name backup s0 s1 s2 size goes frame differ over.places drops;
          spares = spares;
          anew = λ copies. renews_dropped temporary s0 s1 s2 frame (over.anew copies) backup differ_backup (over.aside copies (never_failed size)) drops;
        });
        others = others_spared on s0 s2 spares;
        written = (over.written.0, holds_spared (one_name backup) name (λ c. c ≡ new) s1.folder s2.folder differ drops.now holds);
        mode = mode_spared (one_name backup) name s1.folder s2.folder differ drops.now ∙ over.mode;
        kept = λ keeps. absurd (true≢false (sym keeps ∙ goes));
        gone = λ goes none. gone none;
        aside = λ copies. gone_spared (one_name backup) temporary s1.folder s2.folder differ_backup drops.now (over.aside copies (never_failed size));
        clears = λ copies calm was. gone_spared (one_name backup) temporary s1.folder s2.folder differ_backup drops.now (over.aside copies (never_failed size));
        not_written = tt;
        returned = tt;
        in_file = λ refused. absurd (never_refused size place.File refused);
        in_backup = λ refused. absurd (never_refused size place.Backup refused);
        somewhere = (λ refused. never_refused size place.Nowhere refused, λ is. cc);
      }

-- ---- from a file that is there
module _ (copying keep : Bool) (name temporary backup : Name) (old new : List ℕ) (s0 s1 : Scene) (content : content_in s0.folder name ≡ Some old) (looked : Steps Narrowed s0 s1)
    (spared : SparesOthers (backed_names copying name temporary backup) s0 s1) where
  may_leave_narrowed : MayLeave s1.folder name (Some old)
  may_leave_narrowed = may_leave_now name old s1.folder (narrowed_content name s0.folder s1.folder (narrowed_now s0 s1 looked) ∙ content)

  -- nothing has changed
  pub backed_not_begun : (why : WriteErr) → (OldIn {T = ℕ} place.Nowhere (Err why) → ⊥) → (OldIn {T = ℕ} place.Backup (Err why) → ⊥) → (IsErrOf {T = ℕ} (Err why) error.NoBackupName → ⊥)
      → WritesBacked copying keep name temporary backup old new s0 s1 (Err why)
  backed_not_begun why somewhere not_backup no_name = record {
    moments = inr (looked, refl);
    others = spared;
    written = tt;
    mode = tt;
    kept = λ keeps. tt;
    gone = λ goes. tt;
    aside = λ copies. tt;
    clears = λ copies calm. gone_narrowed temporary s0.folder s1.folder (narrowed_now s0 s1 looked);
    not_written = inl may_leave_narrowed;
    returned = inl (narrowed_content name s0.folder s1.folder (narrowed_now s0 s1 looked) ∙ content);
    in_file = λ refused. inl looked;
    in_backup = λ refused. absurd (not_backup refused);
    somewhere = (somewhere, no_name);
  }

  -- after what left all as it was
  pub backed_after : (result : Result ℕ WriteErr) (s2 : Scene) → ChangesFolder s0 s1 → s0.folder_faults ≤ s1.folder_faults → WritesBacked copying keep name temporary backup old new s1 s2 result
      → WritesBacked copying keep name temporary backup old new s0 s2 result
  backed_after result s2 frame later backed = record {
    moments = elim backed.moments [
      | inl whole ↦ inl (record {
        begun = whole.begun;
        looked = narrowed_on s0 s1 whole.begun frame looked whole.looked;
        moment = whole.moment;
        order = whole.order;
        settled = whole.settled;
        whole = whole.whole;
        replaced = whole.replaced;
        places = whole.places;
        spares = whole.spares;
        anew = whole.anew;
      })
      | inr none ↦ inr (narrowed_on s0 s1 s2 frame looked none.0, none.1)
    ];
    others = others_on (backed_names copying name temporary backup) s0 s1 s2 frame looked spared backed.others;
    written = backed.written;
    mode = on_ok_weaker result (λ same. same ∙ mode_narrowed name s0.folder s1.folder (narrowed_now s0 s1 looked)) backed.mode;
    kept = backed.kept;
    gone = λ goes. gone_after result goes;
    aside = backed.aside;
    clears = λ copies calm was. backed.clears copies calm (gone_narrowed temporary s0.folder s1.folder (narrowed_now s0 s1 looked) was);
    not_written = backed.not_written;
    returned = backed.returned;
    in_file = λ refused. elim (backed.in_file refused) [
      | inl none ↦ inl (narrowed_on s0 s1 s2 frame looked none)
      | inr holds ↦ inr holds
    ];
    in_backup = backed.in_backup;
    somewhere = backed.somewhere;
  }
    where
      gone_after : (r : Result ℕ WriteErr) → keep ≡ false → OnOk result ((HasRisen s0.folder_faults s2.folder_faults → ⊥) → IsGone backup s2.folder)
      gone_after r goes = on_ok_weaker result (λ gone none. gone (λ rose. none (risen_before s0.folder_faults s1.folder_faults s2.folder_faults later rose))) (backed.gone goes)

-- a removal that failed raised the count
pub gone_unless_risen : (result : Result (Unit {0}) Failed) (a b c : ℕ) (Gone told : Type 0) → told → a ≤ b → HasCause b c (IsErr result) → OnOk result (told → Gone) → (HasRisen a c → ⊥) → Gone
gone_unless_risen (Ok x) a b c Gone told is later cause gone none = gone is
gone_unless_risen (Err e) a b c Gone told is later cause gone none = absurd (none (risen_before a b c later (cause.risen refl)))

pub holds_there : (name : Name) (bytes : List ℕ) (disk : Disk) → HoldsBytes name bytes disk → IsSome (content_in disk name)
holds_there name bytes disk holds = let here = holds 0 in there_at disk (names_of disk name) here.number here.leads
  where
    there_at : (disk : Disk) (at : Option ℕ) (number : ℕ) → at ≡ Some number → IsSome (read_under disk at)
    there_at disk None number leads = cc
    there_at disk (Some other) number leads = refl

-- there was no memory before anything changed
pub backed_no_memory : (copying keep : Bool) (name temporary backup : Name) (old new : List ℕ) (s0 : Scene) → content_in s0.folder name ≡ Some old
    → WritesBacked copying keep name temporary backup old new s0 s0 (Err (error.NoMemory place.File))
backed_no_memory copying keep name temporary backup old new s0 content =
    backed_not_begun copying keep name temporary backup old new s0 s0 content (narrowed_starts s0) (others_starts (backed_names copying name temporary backup) s0) (error.NoMemory place.File) (λ refused. elim refused [ inl is ↦ cc | inr is ↦ cc ]) (λ refused. elim refused [ inl is ↦ cc | inr is ↦ cc ]) (λ e. cc)

-- ---- before anything has changed
never_elsewhere : (why : Stop) (at : Place) → (at ≡ place.File → ⊥) → OldIn {T = ℕ} at (Err (stopped why place.File)) → ⊥
never_elsewhere stop.Failed at other (inl is) = let same : place.File ≡ at = cc in other (sym same)
never_elsewhere stop.Failed at other (inr is) = cc
never_elsewhere stop.NoMemory at other (inl is) = cc
never_elsewhere stop.NoMemory at other (inr is) = let same : place.File ≡ at = cc in other (sym same)

never_unnamed : (why : Stop) → IsErrOf {T = ℕ} (Err (stopped why place.File)) error.NoBackupName → ⊥
never_unnamed stop.Failed is = cc
never_unnamed stop.NoMemory is = cc

pub backed_stopped : (copying keep : Bool) (name temporary backup : Name) (old new : List ℕ) (s0 s1 : Scene) → content_in s0.folder name ≡ Some old → Looks s0 s1 → (why : Stop)
    → WritesBacked copying keep name temporary backup old new s0 s1 (Err (stopped why place.File))
backed_stopped copying keep name temporary backup old new s0 s1 content looks why =
    backed_not_begun copying keep name temporary backup old new s0 s1 content (looks_narrowed s0 s1 looks) (others_looks (backed_names copying name temporary backup) s0 s1 looks) (stopped why place.File)
    (λ refused. never_elsewhere why place.Nowhere (λ e. cc) refused) (λ refused. never_elsewhere why place.Backup (λ e. cc) refused) (λ e. never_unnamed why e)

pub old_in_file : (why : Stop) → OldIn {T = ℕ} place.File (Err (stopped why place.File))
old_in_file stop.Failed = inl refl
old_in_file stop.NoMemory = inr refl
