-- A write of the file after the sync that its command begins, as a run sees it: at each moment, and in the end.
use Rattle.std.proofs.Common.{◌≡◌, ◌⊎◌, inl, inr, ℕ, zero, suc, ◌+◌, Bool, true, false, cond, ◌&&◌, ◌||◌, not, map, List, [], ◌∷◌, Option, Some, None, refl, sym, ◌∙◌, ap, subst}
use Rattle.std.specs.Prelude.{is_some, is_none, IsSome}
use Rattle.std.specs.Str.{bytes_eq}
use Rattle.std.proofs.lemmas.Slice.Eq.{bytes_eq-Decides}
use Rattle.std.proofs.lemmas.Bool.{true≢false, cases_Bool}
use Rattle.vs_host.specs.File.{File}
use Rattle.vs_host.specs.Disk.{Disk, Name, names_of, names_at, read_under, content_in, IsImageOf}
use Rattle.vs_host.specs.Names.{AreNames}
use Rattle.vs_host.specs.Trace.{Snapshot, Each, GoesOn}
use Rattle.vs_host.specs.declared.names.Names.{Names}
use Rattle.vs_disk.specs.Images.{Takes}
use Rattle.vs_disk.specs.Names.{SameAt}
use Rattle.vs_disk.proofs.Others.{image_same, image_before}
use Rattle.vs_pair.specs.Pair.{Unmoved, is_apart}
use Rattle.vs_pair.proofs.MadeFiles.{same_weaker}
use Rattle.vs_backup.specs.declared.options.WriteOptions.{WriteOptions}
use Rattle.vs_backup.specs.Backups.{WorksOn, IsBackupName, backup_of, backup_name, candidates, first_free, lettered, letters}
use Rattle.vs_backup.specs.Backups.WorksOn.{TheFile, TheNewFile, TheBackup, TheCopy}
use Rattle.vs_backup.specs.Works.{Narrowed}
use Rattle.vs_backup.proofs.Backed.{narrowed_content}
use Rattle.vs_backup.proofs.Choosing.{candidates_are, letters_next, none_left, IsBackupName-plain, IsBackupName-lettered, some_name}
use Rattle.vs_backup.proofs.Frames.{not_same}
use Rattle.vs_backup.proofs.NamesApart.{file_apart, backup_apart}
use Rattle.vs_safety.specs.Undo.{LeavesUndo}
use Rattle.vs_safety.specs.Writes.{IsUntouched, LeavesOld, is_either}
use Rattle.vs_desk.proofs.Left.{moved_to, narrowed_image, same_left}
use Rattle.vs_session.proofs.UndoNames.{undo_apart}

-- ---- the same calls, seen in several ways

each_all : (A : Type 0) (P : A → Snapshot → Type 0) (ms : List Snapshot) → ((a : A) → Each (P a) ms) → Each (λ m. (a : A) → P a m) ms
each_all A P [] all = tt
each_all A P (m ∷ ms) all = (λ a. (all a).0, each_all A P ms (λ a. (all a).1))

pub goes_all : (A : Type 0) (P : A → Snapshot → Type 0) (Q : Snapshot → Type 0) (old new : List Snapshot) → GoesOn Q old new → ((a : A) → GoesOn (P a) old new) → GoesOn (λ m. (a : A) → P a m) old new
goes_all A P Q old new base all = record { added = base.added; is = base.is; each = each_all A P base.added (λ a. moved_to (P a) old new base.added base.is (all a)) }

-- ---- Bools

pub none_is : (o : Option Name) → is_none o ≡ true → o ≡ None
none_is None is = refl
none_is (Some name) is = absurd (true≢false (sym is))

-- ---- the bytes under a name whose file was left alone

read_same : (old new : Disk) (a b : Option ℕ) → b ≡ a → ((number : ℕ) → b ≡ Some number → new.files number ≡ old.files number) → read_under new b ≡ read_under old a
read_same old new a None is files = ap (λ (at : Option ℕ). read_under old at) is
read_same old new a (Some number) is files = ap (λ (f : File). Some f.bytes) (files number refl) ∙ ap (λ (at : Option ℕ). read_under old at) is

free_step : (old new : Disk) (name : Name) (names : List Name) → content_in new name ≡ content_in old name → first_free new names ≡ first_free old names → first_free new (name ∷ names) ≡ first_free old (name ∷ names)
unfolding first_free
free_step old new name names same more = λ i. cond (is_some (same i)) (more i) (Some name)

-- the first free name is one of those
free_of : (P : Name → Type 0) (disk : Disk) (name : Name) (names : List Name) → P name → ((b : Name) → first_free disk names ≡ Some b → P b) → (b : Name) → first_free disk (name ∷ names) ≡ Some b → P b
unfolding first_free
free_of P disk name names one more b is = elim (cases_Bool (is_some (content_in disk name))) [
  | inl taken ↦ more b (sym (ap (λ (c : Bool). cond c (first_free disk names) (Some name)) taken) ∙ is)
  | inr free ↦ subst P (some_name_is name b (sym (ap (λ (c : Bool). cond c (first_free disk names) (Some name)) free) ∙ is)) one
]
  where
    some_name_is : (a b : Name) → Some a ≡ Some b → a ≡ b
    some_name_is a b e = cc

none_some : (b : Name) (X : Type 0) → None ≡ Some b → X
none_some b X e = cc

module _ (names : Names) (are : AreNames names) where
  lettered_names : (disk : Disk) (n : ℕ) (b : Name) → first_free disk (map (lettered names.file) (letters n)) ≡ Some b → IsBackupName names.file b
  lettered_names disk zero b is = none_some b (IsBackupName names.file b) (sym (none_left disk names.file 0 refl) ∙ is)
  lettered_names disk (suc n) b is =
      free_of (IsBackupName names.file) disk (lettered names.file (97 + n)) (map (lettered names.file) (letters n)) (IsBackupName-lettered names.file (97 + n) (some_name names.file are.allowed))
      (lettered_names disk n) b (sym (ap (λ (l : List Name). first_free disk l) (letters_next names.file (suc n) n refl)) ∙ is)

  candidate_names : (disk : Disk) (b : Name) → first_free disk (candidates names.file) ≡ Some b → IsBackupName names.file b
  candidate_names disk b is =
      free_of (IsBackupName names.file) disk (backup_name names.file) (map (lettered names.file) (letters 26)) (IsBackupName-plain names.file) (lettered_names disk 26) b
      (sym (ap (λ (l : List Name). first_free disk l) (candidates_are names.file)) ∙ is)

  pub backup_named : (options : WriteOptions) (disk : Disk) (b : Name) → backup_of options names.file disk ≡ Some b → IsBackupName names.file b
  backup_named options disk b is = elim (cases_Bool options.backup) [
    | inl on ↦
        let made : Some (backup_name names.file) ≡ Some b = sym (ap (λ (c : Bool). cond c (Some (backup_name names.file)) (cond options.writebackup (first_free disk (candidates names.file)) None)) on) ∙ is in
        subst (IsBackupName names.file) (some_name_is (backup_name names.file) b made) (IsBackupName-plain names.file)
    | inr off ↦
        let rest : cond options.writebackup (first_free disk (candidates names.file)) None ≡ Some b =
        sym (ap (λ (c : Bool). cond c (Some (backup_name names.file)) (cond options.writebackup (first_free disk (candidates names.file)) None)) off) ∙ is in
        elim (cases_Bool options.writebackup) [
          | inl on ↦ candidate_names disk b (sym (ap (λ (c : Bool). cond c (first_free disk (candidates names.file)) None) on) ∙ rest)
          | inr none ↦ none_some b (IsBackupName names.file b) (sym (ap (λ (c : Bool). cond c (first_free disk (candidates names.file)) None) none) ∙ rest)
        ]
  ]
    where
      some_name_is : (a b : Name) → Some a ≡ Some b → a ≡ b
      some_name_is a b e = cc

  -- a name that is no swap file
  apart_name : (name : Name) → ((name ≡ names.swp) ⊎ (name ≡ names.swo) → ⊥) → is_apart names name ≡ true
  apart_name name none = λ i. not (not_same names.swp name (λ is. none (inl is)) i || not_same names.swo name (λ is. none (inr is)) i)

  pub apart_file : is_apart names names.file ≡ true
  apart_file = apart_name names.file (file_apart names are)

  pub apart_undo : is_apart names names.undo ≡ true
  apart_undo = apart_name names.undo (undo_apart names are)

  apart_backup : (backup : Name) → IsBackupName names.file backup → is_apart names backup ≡ true
  apart_backup backup is = apart_name backup (backup_apart names are backup is)

  either_apart : (backup name : Name) → is_apart names backup ≡ true → is_either names.file backup name ≡ true → is_apart names name ≡ true
  either_apart backup name apart is = elim (cases_Bool (bytes_eq names.file name)) [
    | inl file ↦ subst (λ (n : Name). is_apart names n ≡ true) ((bytes_eq-Decides names.file name).0 file) apart_file
    | inr other ↦ subst (λ (n : Name). is_apart names n ≡ true) ((bytes_eq-Decides backup name).0 (sym (ap (λ (b : Bool). b || bytes_eq backup name) other) ∙ is)) apart
  ]

  -- from one moment of the sync to another
  pub untouched_between : (start one other : Disk) → Unmoved (is_apart names) start one → Unmoved (is_apart names) start other → (backup : Name) → IsBackupName names.file backup → IsUntouched names.file backup one other
  untouched_between start one other first second backup named = record {
    read = λ name is.
        let apart = either_apart backup name (apart_backup backup named) is in
        read_same one other (names_of one name) (names_of other name) (names_same 0 name apart) (files_same 0 name apart);
    left = λ image part. (
      part.0,
      λ name is.
          let apart = either_apart backup name (apart_backup backup named) is in
          image_same one other (names_at one part.0 name) (names_at other part.0 name) (image name) (names_same part.0 name apart) (files_same part.0 name apart) (part.1 name is),
    );
  }
    where
      names_same : (lost : ℕ) (name : Name) → is_apart names name ≡ true → names_at other lost name ≡ names_at one lost name
      names_same lost name apart = second.names lost name apart ∙ sym (first.names lost name apart)

      files_same : (lost : ℕ) (name : Name) → is_apart names name ≡ true → (number : ℕ) → names_at other lost name ≡ Some number → other.files number ≡ one.files number
      files_same lost name apart number leads =
          let led : names_at start lost name ≡ Some number = sym (second.names lost name apart) ∙ leads in
          second.files lost name number apart led ∙ sym (first.files lost name number apart led)

  -- ---- from the folder that the command found to the one after its sync
  module _ (old mid : Disk) (same : SameAt (is_apart names) old mid) where
    content_same : (name : Name) → is_apart names name ≡ true → content_in mid name ≡ content_in old name
    content_same name is = read_same old mid (names_of old name) (names_of mid name) (same.now name is) (λ number leads. same.files 0 name number is leads)

    pub file_same : content_in mid names.file ≡ content_in old names.file
    file_same = content_same names.file apart_file

    letters_same : (n : ℕ) → first_free mid (map (lettered names.file) (letters n)) ≡ first_free old (map (lettered names.file) (letters n))
    letters_same zero = none_left mid names.file 0 refl ∙ sym (none_left old names.file 0 refl)
    letters_same (suc n) =
        ap (λ (l : List Name). first_free mid l) (letters_next names.file (suc n) n refl)
        ∙ free_step old mid (lettered names.file (97 + n)) (map (lettered names.file) (letters n))
        (content_same (lettered names.file (97 + n)) (apart_backup (lettered names.file (97 + n)) (IsBackupName-lettered names.file (97 + n) (some_name names.file are.allowed)))) (letters_same n)
        ∙ sym (ap (λ (l : List Name). first_free old l) (letters_next names.file (suc n) n refl))

    free_same : first_free mid (candidates names.file) ≡ first_free old (candidates names.file)
    free_same =
        ap (λ (l : List Name). first_free mid l) (candidates_are names.file)
        ∙ free_step old mid (backup_name names.file) (map (lettered names.file) (letters 26)) (content_same (backup_name names.file) (apart_backup (backup_name names.file) (IsBackupName-plain names.file))) (letters_same 26)
        ∙ sym (ap (λ (l : List Name). first_free old l) (candidates_are names.file))

    pub backup_same : (options : WriteOptions) → backup_of options names.file mid ≡ backup_of options names.file old
    backup_same options = ap (λ (o : Option Name). cond options.backup (Some (backup_name names.file)) (cond options.writebackup o None)) free_same

    -- so a stop leaves under the name of the undo file only what it left before
    pub undo_same : LeavesUndo names old mid
    undo_same left may = same_left (is_apart names) names.undo old mid apart_undo same left may

    pub works_same : (options : WriteOptions) (other : Name) → WorksOn options names.file mid other → WorksOn options names.file old other
    works_same options other (TheFile is) = TheFile is
    works_same options other (TheNewFile none is) = TheNewFile (sym file_same ∙ none) is
    works_same options other (TheBackup backup there made is) = TheBackup backup (subst (λ (o : Option (List ℕ)). IsSome o) file_same there) (sym (backup_same options) ∙ made) is
    works_same options other (TheCopy backup there made copied is) = TheCopy backup (subst (λ (o : Option (List ℕ)). IsSome o) file_same there) (sym (backup_same options) ∙ made) copied is

    -- what a stop may leave after the sync, it might leave before
    pub untouched_old : (backup : Name) → IsBackupName names.file backup → IsUntouched names.file backup old mid
    untouched_old backup named = record {
      read = λ name is. content_same name (either_apart backup name (apart_backup backup named) is);
      left = λ image part.
          image_before (is_either names.file backup) old mid
          (same_weaker (is_apart names) (is_either names.file backup) old mid (λ name is. either_apart backup name (apart_backup backup named) is) same) image part;
    }

    takes_apart : (name : Name) → is_apart names name ≡ true → (new : List ℕ) → Takes name new old mid
    takes_apart name apart new found may =
        let l = same.back may.0 in
        inr (l.0, image_same old mid (names_at old l.0 name) (names_at mid may.0 name) found (l.1 name apart) (λ number leads. same.files may.0 name number apart leads) may.1)

    pub takes_old : (new : List ℕ) → Takes names.file new old mid
    takes_old new = takes_apart names.file apart_file new

    pub takes_backup : (backup : Name) → IsBackupName names.file backup → (new : List ℕ) → Takes backup new old mid
    takes_backup backup named new = takes_apart backup (apart_backup backup named) new

    pub place_same : names_of mid names.file ≡ names_of old names.file
    place_same = same.now names.file apart_file

-- what narrowed, leaves of two names only what it left before
narrowed_leaves : (one other : Name) (old new : Disk) → Narrowed old new → LeavesOld one other old new
narrowed_leaves one other old new narrowed image part =
    let l = narrowed.back part.0 in
    (l.0, λ name is. subst (λ (at : Option ℕ). IsImageOf old at (image name)) (l.1 name) (narrowed_image old new (names_at new part.0 name) (image name) narrowed (part.1 name is)))

-- and of each name
pub narrowed_takes : (name : Name) (bytes : List ℕ) (old new : Disk) → Narrowed old new → Takes name bytes old new
narrowed_takes name bytes old new narrowed found may =
    let l = narrowed.back may.0 in
    inr (l.0, subst (λ (at : Option ℕ). IsImageOf old at found) (l.1 name) (narrowed_image old new (names_at new may.0 name) found narrowed may.1))

-- and the same is read under them
pub narrowed_untouched : (one other : Name) (old new : Disk) → Narrowed old new → IsUntouched one other old new
narrowed_untouched one other old new narrowed = record {
  read = λ name is. narrowed_content name old new narrowed;
  left = narrowed_leaves one other old new narrowed;
}

pub untouched_then : (one other : Name) (a b c : Disk) → IsUntouched one other a b → IsUntouched one other b c → IsUntouched one other a c
untouched_then one other a b c first second = record { read = λ name is. second.read name is ∙ first.read name is; left = λ image part. first.left image (second.left image part) }
