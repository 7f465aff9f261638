-- What a stretch of a command makes has an allowed mode, and what stands under the name of the file goes on to have one over the next stretch.
use Rattle.std.proofs.Common.{◌≡◌, inl, inr, ℕ, Bool, true, false, ◌||◌, not, List, Option, Some, None, option_map, OnOk, Result, Ok, Err, refl, sym, ◌∙◌, ap, subst}
use Rattle.std.specs.Prelude.{IsSome, is_some}
use Rattle.std.specs.Str.{bytes_eq}
use Rattle.std.proofs.lemmas.Bool.{cases_Bool, false≢true}
use Rattle.std.proofs.lemmas.Slice.Eq.{bytes_eq-Decides}
use Rattle.vs_host.specs.Disk.{Disk, Mode, Name, mode_in, names_of}
use Rattle.vs_host.specs.Names.{AreNames}
use Rattle.vs_host.specs.World.{Scene, ChangesFolder, ReadsFolder, content_of}
use Rattle.vs_host.specs.declared.names.Names.{Names}
use Rattle.vs_host.specs.Trace.{GoesOn}
use Rattle.vs_disk.specs.Modes.{HasModes, KeepsModes}
use Rattle.vs_disk.specs.Names.{SameAt}
use Rattle.vs_disk.specs.Runs.{Inside, Looks, Runs}
use Rattle.vs_disk.proofs.Contents.{leads_nowhere}
use Rattle.vs_disk.proofs.Modes as disk
use Rattle.vs_disk.proofs.Runs.{goes_then, goes_weaker, reads_change, runs_as, runs_then}
use Rattle.vs_disk.proofs.Steps.{itself}
use Rattle.vs_pair.specs.Pair.{is_apart, is_swap}
use Rattle.vs_backup.specs.Backups.{backs_up, backup_of}
use Rattle.vs_backup.specs.Works.{Spares as SparesNames}
use Rattle.vs_backup.specs.Writing.{FindsNoName, IsUnseen, OldIn, nowhere}
use Rattle.vs_backup.specs.declared.errors.Place.TheVariants.{File}
use Rattle.vs_backup.specs.declared.errors.WriteErr.{WriteErr}
use Rattle.vs_backup.specs.declared.options.WriteOptions.{WriteOptions}
use Rattle.vs_backup.proofs.NamesApart.{file_apart}
use Rattle.vs_desk.specs.Writes.{WritesFile}
use Rattle.vs_excmd.specs.Request.{Instruction}
use Rattle.vs_session.specs.Session.{SessionState, Ended, is_write, is_wundo, writes_files}
use Rattle.vs_session.specs.Made.{ClearsMade}
use Rattle.vs_session.specs.Modes.{KeepsMode, KeepsReaders, OnlyLike, OnlyPrivate, SameMode}
use Rattle.vs_session.proofs.Cleared.{cleared_same, clears_none, moved_looks, swap_name}

-- what a command leaves of the files that it makes
pub record LeavesFiles (names : Names) (state : SessionState) (instruction : Instruction) (ended : Ended) (old new : Scene) : Type 0 where
  pub cleared : ClearsMade names state instruction ended old new
  pub modes : KeepsReaders names.file instruction old new
  pub mode : KeepsMode names.file state instruction ended old new

-- ---- one set of allowed modes

module _ (allowed : Mode → Bool) where
  abbrev Kept : Scene → Scene → Type 0
  Kept old new = GoesOn (λ m. KeepsModes allowed old.folder m.folder) old.trace new.trace × KeepsModes allowed old.folder new.folder

  kept_runs : (old new : Scene) → Runs (KeepsModes allowed) old new → Kept old new
  kept_runs old new runs = (
    goes_weaker (Inside old (KeepsModes allowed old.folder)) (λ m. KeepsModes allowed old.folder m.folder) (λ m inside. inside.folder) old.trace new.trace runs.moments,
    runs.now,
  )

  kept_same : (old d : Disk) → d ≡ old → KeepsModes allowed old d
  kept_same old d same = subst (λ (x : Disk). KeepsModes allowed old x) (sym same) (disk.modes_none allowed old)

  runs_looks : (old new : Scene) → Looks old new → Runs (KeepsModes allowed) old new
  runs_looks old new looks = runs_as (λ a b. b ≡ a) (KeepsModes allowed) old new (λ d same. kept_same old.folder d same) looks

  kept_then : (old mid new : Scene) → Kept old mid → Kept mid new → Kept old new
  kept_then old mid new first second = (
    goes_then (λ m. KeepsModes allowed old.folder m.folder) old.trace mid.trace new.trace first.0
        (goes_weaker (λ m. KeepsModes allowed mid.folder m.folder) (λ m. KeepsModes allowed old.folder m.folder)
        (λ m keeps. disk.modes_then allowed old.folder mid.folder m.folder first.1 keeps) mid.trace new.trace second.0),
    disk.modes_then allowed old.folder mid.folder new.folder first.1 second.1,
  )

-- ---- stretches of a command

module _ (name : Name) (instruction : Instruction) where
  pub modes_looks : (old new : Scene) → Looks old new → KeepsReaders name instruction old new
  modes_looks old new looks = record { each = λ allowed owner given. kept_runs allowed old new (runs_looks allowed old new looks) }

  pub modes_private : (old new : Scene) → OnlyPrivate old new → KeepsReaders name instruction old new
  modes_private old new private = record { each = λ allowed owner given. kept_runs allowed old new (private allowed owner) }

  -- of a command that writes files
  pub modes_like : (old new : Scene) → writes_files instruction.parsed ≡ true → (IsSome (mode_in old.folder name) → OnlyLike name old new) → KeepsReaders name instruction old new
  modes_like old new writes like = record { each = λ allowed owner given. let has = given writes in kept_runs allowed old new (like has.0 allowed owner has.1) }

  pub modes_then : (old mid new : Scene) → SameMode name old.folder mid.folder → KeepsReaders name instruction old mid → KeepsReaders name instruction mid new → KeepsReaders name instruction old new
  modes_then old mid new same first second = record {
    each = λ allowed owner given.
        let begun = first.each allowed owner given in
        kept_then allowed old mid new begun (second.each allowed owner (λ writes.
        let has = given writes in
        (subst (λ (m : Option Mode). IsSome m) (sym (same has.0)) has.0, disk.has_kept allowed name old.folder mid.folder begun.1 has.1)));
  }

-- ---- before the storing of an undo file

pub like_looks : (name : Name) (old new : Scene) → Looks old new → OnlyLike name old new
like_looks name old new looks allowed owner has = runs_looks allowed old new looks

pub like_after : (name : Name) (old mid new : Scene) → ReadsFolder old mid → Looks old mid → OnlyLike name mid new → OnlyLike name old new
like_after name old mid new reads looks like allowed owner has =
    runs_then (λ a b. b ≡ a) (KeepsModes allowed) (KeepsModes allowed) old mid new (λ d same. kept_same allowed old.folder d same)
    (λ d keeps. subst (λ (x : Disk). KeepsModes allowed x d) looks.now keeps) (reads_change old mid reads) looks
    (like allowed owner (subst (λ (x : Disk). HasModes allowed name x) (sym looks.now) has))

-- and after a sync
pub private_looked : (old mid new : Scene) → ChangesFolder old mid → OnlyPrivate old mid → Looks mid new → OnlyPrivate old new
private_looked old mid new frame private looks allowed owner =
    let begun = private allowed owner in
    runs_then (KeepsModes allowed) (λ a b. b ≡ a) (KeepsModes allowed) old mid new (λ d keeps. keeps)
    (λ d same. subst (λ (x : Disk). KeepsModes allowed old.folder x) (sym same) begun.now) frame begun looks

-- ---- the mode of the file

mode_of : (old new : Disk) (at : Option ℕ) → ((number : ℕ) → at ≡ Some number → new.modes number ≡ old.modes number) → option_map new.modes at ≡ option_map old.modes at
mode_of old new None same = refl
mode_of old new (Some number) same = ap (λ (m : Mode). Some m) (same number refl)

-- of a name that is left alone
mode_spared : (inside : Name → Bool) (name : Name) (old new : Disk) → inside name ≡ true → SameAt inside old new → mode_in new name ≡ mode_in old name
mode_spared inside name old new is same =
    let now : names_of new name ≡ names_of old name = same.now name is in
    ap (λ (at : Option ℕ). option_map new.modes at) now ∙ mode_of old new (names_of old name) (λ number leads. same.modes 0 name number is (now ∙ leads))

pub mode_outside : (on : Name → Type 0) (name : Name) (old new : Disk) → (on name → ⊥) → SparesNames on old new → mode_in new name ≡ mode_in old name
mode_outside on name old new out spares =
    mode_spared (bytes_eq name) name old new (itself name) (spares (bytes_eq name) (λ other is works. out (subst on (sym ((bytes_eq-Decides name other).0 is)) works)))

pub mode_looks : (name : Name) (old new : Scene) → Looks old new → mode_in new.folder name ≡ mode_in old.folder name
mode_looks name old new looks = ap (λ (d : Disk). mode_in d name) looks.now

pub mode_synced : (names : Names) → AreNames names → (old new : Disk) → SameAt (is_apart names) old new → mode_in new names.file ≡ mode_in old names.file
mode_synced names are old new same = mode_spared (is_apart names) names.file old new apart same
  where
    apart : is_apart names names.file ≡ true
    apart = elim (cases_Bool (is_swap names names.file)) [
      | inl swap ↦ absurd (file_apart names are (swap_name names names.file swap))
      | inr other ↦ ap not other
    ]

pub mode_then : (name : Name) (old mid new : Disk) → SameMode name old mid → SameMode name mid new → SameMode name old new
mode_then name old mid new first second there = second (subst (λ (m : Option Mode). IsSome m) (sym (first there)) there) ∙ first there

-- of a file that was written
module _ (options : WriteOptions) (names : Names) (bytes : List ℕ) (old new : Scene) (size : ℕ) where
  abbrev result : Result ℕ WriteErr
  result = Ok size

  abbrev Same : Type 0
  Same = mode_in new.folder names.file ≡ mode_in old.folder names.file

  refused : (why : WriteErr) → result ≡ Err why → Same
  refused why is = cc

  unseen : IsUnseen old new result → Same
  unseen is = refused _ is.failed

  aside : OldIn File result → Same
  aside is = elim is [ inl failed ↦ refused _ failed | inr memory ↦ refused _ memory ]

  no_name : FindsNoName old new result → Same
  no_name finds = elim finds.refused [ inl none ↦ refused _ none | inr old_in ↦ aside old_in ]

  answered : (answer : _) → result ≡ nowhere answer → OnOk answer Same → Same
  answered (Ok n) is mode = mode
  answered (Err why) is mode = refused _ is

  module _ (file : WritesFile options names bytes old new result) (there : IsSome (mode_in old.folder names.file)) where
    by_backup : (was : List ℕ) → content_of old names.file ≡ Some was → (chosen : Option Name) → backup_of options names.file old.folder ≡ chosen → Same
    by_backup was is (Some backup) made = elim (file.backed was is backup made) [ inl none ↦ unseen none | inr writes ↦ writes.mode ]
    by_backup was is None none = elim (cases_Bool (backs_up options)) [
      | inl on ↦ elim (file.all_taken (ap (λ (o : Option (List ℕ)). is_some o) is) on none) [ inl not_seen ↦ unseen not_seen | inr finds ↦ no_name finds ]
      | inr off ↦ elim (file.plain was is off) [ inl not_seen ↦ unseen not_seen | inr writes ↦ answered writes.answer writes.is writes.plain.mode ]
    ]

    by_file : (o : Option (List ℕ)) → content_of old names.file ≡ o → Same
    by_file (Some was) is = by_backup was is (backup_of options names.file old.folder) refl
    by_file None none =
        absurd (false≢true (subst (λ (at : Option ℕ). IsSome (option_map old.folder.modes at)) (leads_nowhere old.folder names.file none) there))

  pub mode_written : WritesFile options names bytes old new result → SameMode names.file old.folder new.folder
  mode_written file there = by_file file there (content_of old names.file) refl

-- ---- commands

or_right : (b : Bool) → (b || true) ≡ true
or_right true = refl
or_right false = refl

pub writes_file : (parsed : _) → is_write parsed ≡ true → writes_files parsed ≡ true
writes_file parsed is = ap (λ (w : Bool). w || is_wundo parsed) is

pub writes_undo : (parsed : _) → is_wundo parsed ≡ true → writes_files parsed ≡ true
writes_undo parsed is = ap (λ (w : Bool). is_write parsed || w) is ∙ or_right (is_write parsed)

-- a command that only looks
pub leaves_looked : (names : Names) → AreNames names → (state : SessionState) (instruction : Instruction) (ended : Ended) (old new : Scene) → Looks old new → LeavesFiles names state instruction ended old new
leaves_looked names are state instruction ended old new looks = record {
  cleared = clears_none names state instruction ended old new (cleared_same old.folder new.folder looks.now) (moved_looks names are old new looks);
  modes = modes_looks names.file instruction old new looks;
  mode = λ written there. mode_looks names.file old new looks;
}
