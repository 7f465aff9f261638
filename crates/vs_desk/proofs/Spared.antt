-- A write of a text works on no swap file, so these are spared, and the text goes on to fit the folder.
use Rattle.std.proofs.Common.{◌≡◌, ◌⊎◌, inl, inr, ℕ, zero, suc, ◌<◌, [], ◌∷◌, Bool, true, false, not, List, length, map, Some, None, IsTrue, refl, sym, ◌∙◌, ap, subst}
use Rattle.std.proofs.lemmas.Option.{same_Some}
use Rattle.std.specs.Prelude.{is_some}
use Rattle.std.specs.List.{AllByRecursion}
use Rattle.std.proofs.lemmas.Bool.{cases_Bool}
use Rattle.vs_host.specs.Disk.{Disk, Name, content_in}
use Rattle.vs_host.specs.Names.{AreNames, temporary}
use Rattle.vs_host.specs.declared.names.Names.{Names}
use Rattle.vs_host.specs.World.{Scene}
use Rattle.vs_disk.specs.Names.{SameAt}
use Rattle.vs_disk.specs.Runs.{Runs}
use Rattle.vs_disk.proofs.Runs.{runs_as}
use Rattle.vs_pages.specs.Maps.{Map}
use Rattle.vs_pages.specs.State.{PageState}
use Rattle.vs_tree.specs.declared.tree.LineTree.{LineTree}
use Rattle.vs_backup.specs.Backups.{IsBackupName, WorksOn, TheFile, TheNewFile, TheBackup, TheCopy, backup_name, backup_of, candidates, first_free, lettered, letters}
use Rattle.vs_backup.specs.Works.{IsOutside}
use Rattle.vs_backup.specs.declared.options.WriteOptions.{WriteOptions}
use Rattle.vs_backup.proofs.Choosing.{IsBackupName-lettered, IsBackupName-plain, candidates_are, free_here, free_later, letters_next, some_name}
use Rattle.vs_backup.proofs.NamesApart.{backup_apart, file_apart, temporary_apart}
use Rattle.vs_pair.specs.declared.side.Side.{Side}
use Rattle.vs_pair.specs.declared.side.Side.TheVariants.{Swp, Swo}
use Rattle.vs_pair.specs.Held.{KeepsHeld, held_with}
use Rattle.vs_pair.specs.Lent.{IsReady}
use Rattle.vs_pair.specs.Pair.{held_in, is_swap, name_of, shown_in}
use Rattle.vs_pair.proofs.AwayLemmas.{away_same}
use Rattle.vs_pair.proofs.FitLemmas.{at_side}
use Rattle.vs_safety.specs.Texts.{Sync, Text, recoverable}
use Rattle.vs_paged.specs.Fits.{Fits, names_of}
use Rattle.vs_paged.specs.Pages.{IsPaged}
use Rattle.vs_paged.specs.declared.paged.PagedText.{PagedText}
use Rattle.vs_paged.proofs.SyncLemmas.{fits_changed, fits_kept, fits_recovers}
use Rattle.vs_desk.specs.Pages.{SamePages}
use Rattle.vs_desk.specs.Writes.{KeepsSwap}

-- ---- the names on which a write works

none_some : (name : Name) (X : Type 0) → None ≡ Some name → X
none_some name X e = cc

no_name : (disk : Disk) → first_free disk [] ≡ None
unfolding first_free
no_name disk = refl

found_free : (P : Name → Type 0) (disk : Disk) (names : List Name) (backup : Name) → AllByRecursion P names → first_free disk names ≡ Some backup → P backup
found_free P disk [] backup all found = none_some backup _ (sym (no_name disk) ∙ found)
found_free P disk (name ∷ names) backup all found = elim (cases_Bool (is_some (content_in disk name))) [
  | inl taken ↦ found_free P disk names backup all.1 (sym (free_later disk name names taken) ∙ found)
  | inr free ↦ subst P (same_Some name backup (sym (free_here disk name names free) ∙ found)) all.0
]

no_letter : letters 0 ≡ []
unfolding letters
no_letter = refl

all_lettered : (name : Name) → 0 < length name → (n : ℕ) → AllByRecursion (IsBackupName name) (map (lettered name) (letters n))
all_lettered name some zero = subst (λ (ls : List ℕ). AllByRecursion (IsBackupName name) (map (lettered name) ls)) (sym no_letter) tt
all_lettered name some (suc n) = subst (λ (names : List Name). AllByRecursion (IsBackupName name) names) (sym (letters_next name (suc n) n refl)) (IsBackupName-lettered name _ some, all_lettered name some n)

all_candidates : (name : Name) → 0 < length name → AllByRecursion (IsBackupName name) (candidates name)
all_candidates name some = subst (λ (names : List Name). AllByRecursion (IsBackupName name) names) (sym (candidates_are name)) (IsBackupName-plain name, all_lettered name some 26)

kept_name : (options : WriteOptions) (name : Name) (disk : Disk) → options.backup ≡ true → backup_of options name disk ≡ Some (backup_name name)
kept_name options name disk keep = rw keep refl

free_name : (options : WriteOptions) (name : Name) (disk : Disk) → options.backup ≡ false → options.writebackup ≡ true → backup_of options name disk ≡ first_free disk (candidates name)
free_name options name disk keep make = rw (keep, make) refl

off_name : (options : WriteOptions) (name : Name) (disk : Disk) → options.backup ≡ false → options.writebackup ≡ false → backup_of options name disk ≡ None
off_name options name disk keep make = rw (keep, make) refl

-- the backup of a write is one of those that it may get
pub chosen_name : (options : WriteOptions) (name : Name) (disk : Disk) (backup : Name) → 0 < length name → backup_of options name disk ≡ Some backup → IsBackupName name backup
chosen_name options name disk backup some chosen = elim (cases_Bool options.backup) [
  | inl keep ↦ subst (λ (n : Name). IsBackupName name n) (same_Some (backup_name name) backup (sym (kept_name options name disk keep) ∙ chosen)) (IsBackupName-plain name)
  | inr off ↦ elim (cases_Bool options.writebackup) [
    | inl make ↦ found_free (IsBackupName name) disk (candidates name) backup (all_candidates name some) (sym (free_name options name disk off make) ∙ chosen)
    | inr none ↦ none_some backup _ (sym (off_name options name disk off none) ∙ chosen)
  ]
]

module _ (names : Names) where
  side_name : (side : Side) → (name_of names side ≡ names.swp) ⊎ (name_of names side ≡ names.swo)
  side_name Swp = inl refl
  side_name Swo = inr refl

  pub swap_name : (name : Name) → is_swap names name ≡ true → (name ≡ names.swp) ⊎ (name ≡ names.swo)
  swap_name name is =
      let at = at_side names name (ap not is) in
      subst (λ (n : Name). (n ≡ names.swp) ⊎ (n ≡ names.swo)) (sym at.1) (side_name at.0)

  swap_as : (name other : Name) → name ≡ other → is_swap names name ≡ true → (other ≡ names.swp) ⊎ (other ≡ names.swo)
  swap_as name other same is = subst (λ (n : Name). (n ≡ names.swp) ⊎ (n ≡ names.swo)) same (swap_name name is)

module _ (names : Names) (are : AreNames names) where
  -- a write works on no swap file
  pub swap_outside : (options : WriteOptions) (disk : Disk) → IsOutside (WorksOn options names.file disk) (is_swap names)
  swap_outside options disk name is (TheFile same) = file_apart names are (swap_as names name names.file same is)
  swap_outside options disk name is (TheNewFile none same) = temporary_apart names are names.file (swap_as names name (temporary names.file) same is)
  swap_outside options disk name is (TheBackup backup there chosen same) =
      backup_apart names are backup (chosen_name options names.file disk backup (some_name names.file are.allowed) chosen) (swap_as names name backup same is)
  swap_outside options disk name is (TheCopy backup there chosen copies same) = temporary_apart names are backup (swap_as names name (temporary backup) same is)

-- ---- the text and its swap files

-- calls that leave the swap files, and what is shown of the pages
pub fits_written : (told : Bool) (old new : PagedText) (was now : Disk) (text : Text) (syncs : List Sync) → IsTrue told → SamePages told old.pair new.pair old.tree new.tree was now → IsReady new.pair now
    → SameAt (is_swap (names_of old)) was now → Fits old was text syncs → Fits new now text syncs
fits_written told old new was now text syncs is same ready spared fits =
    let held : KeepsHeld (held_in old.pair now) (held_in new.pair now) =
    subst (λ (m : Map). KeepsHeld (held_with m old.pair.pages) (held_in new.pair now)) (sym (away_same old.pair.files was now spared)) (same.held is) in
    let pages : IsPaged (shown_in new.pair now) new.tree text =
    subst (λ (s : PageState). IsPaged s new.tree text) (sym (same.shown is)) (subst (λ (t : LineTree). IsPaged (shown_in old.pair was) t text) (sym same.tree) fits.pages) in
    fits_changed old new now text text syncs same.files held pages ready.stored (fits_kept old was now text syncs spared fits)

-- such a text may be lent
pub fits_ready : (paged : PagedText) (disk : Disk) (text : Text) (syncs : List Sync) → Fits paged disk text syncs → IsReady paged.pair disk
fits_ready paged disk text syncs fits = record { stored = fits.stored; begun = inr (fits.newest, fits.later, fits.past, fits.fit) }

module _ (paged : PagedText) (text : Text) (syncs : List Sync) (before after : Scene) (fits : Fits paged before.folder text syncs) (runs : Runs (SameAt (is_swap (names_of paged))) before after) where
  pub keeps_swap : Runs (KeepsSwap (names_of paged) (recoverable syncs)) before after
  keeps_swap = runs_as (SameAt (is_swap (names_of paged))) (KeepsSwap (names_of paged) (recoverable syncs)) before after
      (λ disk same. record { same = same; recovers = fits_recovers paged disk text syncs (fits_kept paged before.folder disk text syncs same fits) }) runs
