-- What a stop leaves under a name on which a write does not work, it might leave there before: until the two syncs at the beginning
-- are through nothing but these happens, and from then on such names are spared.
use Rattle.std.proofs.Common.{◌≡◌, inl, inr, ℕ, Bool, true, false, List, [], ◌∷◌, ◌++◌, Option, Some, None, Result, refl, sym, ◌∙◌, ap, subst}
use Rattle.std.specs.Prelude.{is_some, IsSome}
use Rattle.std.specs.Str.{bytes_eq}
use Rattle.std.proofs.lemmas.Slice.Eq.{bytes_eq-Decides}
use Rattle.std.proofs.lemmas.Bool.{cases_Bool}
use Rattle.std.proofs.lemmas.List.{append_cancel_right}
use Rattle.vs_host.specs.Disk.{Disk, Name, names_at, content_in, IsImageOf}
use Rattle.vs_host.specs.Names.{AreNames, temporary}
use Rattle.vs_host.specs.Trace.{Snapshot, Each, GoesOn}
use Rattle.vs_host.specs.World.{Scene}
use Rattle.vs_host.specs.declared.names.Names.{Names}
use Rattle.vs_disk.specs.Images.{MayLeave}
use Rattle.vs_disk.specs.Names.{SameAt}
use Rattle.vs_disk.specs.Runs.{Inside, Runs, Looks}
use Rattle.vs_disk.proofs.Others.{image_same}
use Rattle.vs_disk.proofs.Runs.{goes_then, goes_weaker}
use Rattle.vs_disk.proofs.Steps.{itself}
use Rattle.vs_backup.specs.declared.options.WriteOptions.{WriteOptions}
use Rattle.vs_backup.specs.declared.errors.WriteErr.{WriteErr}
use Rattle.vs_backup.specs.Backups.{WorksOn, backs_up, backup_of, copies}
use Rattle.vs_backup.specs.Backups.WorksOn.{TheFile, TheNewFile, TheBackup, TheCopy}
use Rattle.vs_backup.specs.Works.{Narrowed, Spares, Steps, one_name, two_names}
use Rattle.vs_backup.specs.Writing.{WritesFresh, WritesPlain, WritesWith, backed_names}
use Rattle.vs_backup.proofs.Following.{narrowed_runs}
use Rattle.vs_backup.proofs.NamesApart.{new_name}
use Rattle.vs_desk.specs.Still.{KeepsLeft}
use Rattle.vs_desk.specs.Writes.{WritesFile}

-- ---- the same calls, seen in two ways

each_both : (P Q : Snapshot → Type 0) (ms : List Snapshot) → Each P ms → Each Q ms → Each (λ m. P m × Q m) ms
each_both P Q [] p q = tt
each_both P Q (m ∷ ms) p q = ((p.0, q.0), each_both P Q ms p.1 q.1)

pub moved_to : (P : Snapshot → Type 0) (old new : List Snapshot) (added : List Snapshot) → new ≡ added ++ old → GoesOn P old new → Each P added
moved_to P old new added is goes = subst (λ (ms : List Snapshot). Each P ms) (append_cancel_right goes.added added old (sym goes.is ∙ is)) goes.each

pub goes_both : (P Q : Snapshot → Type 0) (old new : List Snapshot) → GoesOn P old new → GoesOn Q old new → GoesOn (λ m. P m × Q m) old new
goes_both P Q old new p q = record { added = p.added; is = p.is; each = each_both P Q p.added p.each (moved_to Q old new p.added p.is q) }

-- ---- from folder to folder

pub narrowed_image : (old new : Disk) (at : Option ℕ) (found : Option (List ℕ)) → Narrowed old new → IsImageOf new at found → IsImageOf old at found
narrowed_image old new None found narrowed image = image
narrowed_image old new (Some number) found narrowed image = (image.0, image.1, (narrowed.files number).images image.0 image.2)

pub same_left : (inside : Name → Bool) (name : Name) (old new : Disk) → inside name ≡ true → SameAt inside old new → (left : Option (List ℕ)) → MayLeave new name left → MayLeave old name left
same_left inside name old new is same left may =
    let at = same.back may.0 in
    (at.0, image_same old new (names_at old at.0 name) (names_at new may.0 name) left (at.1 name is) (λ number leads. same.files may.0 name number is leads) may.1)

module _ (on : Name → Type 0) where
  keeps_none : (disk : Disk) → KeepsLeft on disk disk
  keeps_none disk name out left may = may

  keeps_then : (a b c : Disk) → KeepsLeft on a b → KeepsLeft on b c → KeepsLeft on a c
  keeps_then a b c first second name out left may = first name out left (second name out left may)

  keeps_narrowed : (old new : Disk) → Narrowed old new → KeepsLeft on old new
  keeps_narrowed old new narrowed name out left may =
      let at = narrowed.back may.0 in
      (at.0, subst (λ (n : Option ℕ). IsImageOf old n left) (at.1 name) (narrowed_image old new (names_at new may.0 name) left narrowed may.1))

  keeps_spared : (worked : Name → Type 0) → ((name : Name) → worked name → on name) → (old new : Disk) → Spares worked old new → KeepsLeft on old new
  keeps_spared worked leads old new spares name out left may =
      same_left (bytes_eq name) name old new (itself name)
      (spares (bytes_eq name) (λ other is works. out (subst on (sym ((bytes_eq-Decides name other).0 is)) (leads other works)))) left may

-- ---- a write

module _ (options : WriteOptions) (names : Names) (are : AreNames names) (bytes : List ℕ) (before after : Scene) (result : Result ℕ WriteErr) (file : WritesFile options names bytes before after result) where
  abbrev on : Name → Type 0
  on = WorksOn options names.file before.folder

  abbrev Good : Disk → Type 0
  Good disk = KeepsLeft on before.folder disk

  abbrev Moments : Type 0
  Moments = GoesOn (λ m. Good m.folder) before.trace after.trace × Good after.folder

  from_runs : (step : Disk → Disk → Type 0) → ((d : Disk) → step before.folder d → Good d) → Runs step before after → Moments
  from_runs step leads runs = (goes_weaker (Inside before (step before.folder)) (λ m. Good m.folder) (λ m inside. leads m.folder inside.folder) before.trace after.trace runs.moments, leads after.folder runs.now)

  from_looks : Looks before after → Moments
  from_looks looks = from_runs (λ a b. b ≡ a) (λ d is. subst Good (sym is) (keeps_none on before.folder)) looks

  from_narrowed : Steps Narrowed before after → Moments
  from_narrowed steps = from_runs Narrowed (λ d narrowed. keeps_narrowed on before.folder d narrowed) (narrowed_runs before after steps)

  from_begun : (worked : Name → Type 0) → ((name : Name) → worked name → on name) → (begun : Scene) → Steps Narrowed before begun → Runs (Spares worked) begun after → Moments
  from_begun worked leads begun steps spares =
      let looked = narrowed_runs before begun steps in
      let there : Good begun.folder = keeps_narrowed on before.folder begun.folder looked.now in
      let since : (d : Disk) → Spares worked begun.folder d → Good d = λ d same. keeps_then on before.folder begun.folder d there (keeps_spared on worked leads begun.folder d same) in (
        goes_then (λ m. Good m.folder) before.trace begun.trace after.trace
            (goes_weaker (Inside before (Narrowed before.folder)) (λ m. Good m.folder) (λ m inside. keeps_narrowed on before.folder m.folder inside.folder) before.trace begun.trace looked.moments)
            (goes_weaker (Inside begun (Spares worked begun.folder)) (λ m. Good m.folder) (λ m inside. since m.folder inside.folder) begun.trace after.trace spares.moments),
        since after.folder spares.now,
      )

  module _ (there : IsSome (content_in before.folder names.file)) (backup : Name) (made : backup_of options names.file before.folder ≡ Some backup) where
    on_backed : (copied : Bool) → copies options.copy ≡ copied → (name : Name) → backed_names copied names.file (temporary backup) backup name → on name
    on_backed true is name (inl same) = TheFile same
    on_backed true is name (inr (inl same)) = TheCopy backup there made is same
    on_backed true is name (inr (inr same)) = TheBackup backup there made same
    on_backed false is name (inl same) = TheFile same
    on_backed false is name (inr same) = TheBackup backup there made same

    with_backup : (was : List ℕ) → WritesWith options names.file backup was bytes before after result → Moments
    with_backup was writes = elim writes.moments [
      | inl begins ↦ from_begun (backed_names (copies options.copy) names.file (temporary backup) backup) (on_backed (copies options.copy) refl) begins.begun begins.looked begins.spares
      | inr narrowed ↦ from_narrowed narrowed.0
    ]

  without_backup : (was : List ℕ) (answer : _) → WritesPlain names.file was bytes before after answer → Moments
  without_backup was answer plain = elim plain.moments [
    | inl begins ↦ from_begun (one_name names.file) (λ name same. TheFile same) begins.begun begins.looked begins.spares
    | inr narrowed ↦ from_narrowed narrowed.0
  ]

  made_new : content_in before.folder names.file ≡ None → (answer : _) → WritesFresh (two_names names.file_new names.file) names.file bytes before after answer → Moments
  made_new none answer fresh =
      from_runs (Spares (two_names names.file_new names.file)) (λ d same. keeps_spared on (two_names names.file_new names.file) (λ name works. elim works [
        | inl is ↦ TheNewFile none (is ∙ new_name names are)
        | inr is ↦ TheFile is
      ]) before.folder d same) fresh.spares

  module _ (was : List ℕ) (there : content_in before.folder names.file ≡ Some was) where
    is_there : IsSome (content_in before.folder names.file)
    is_there = ap (λ (o : Option (List ℕ)). is_some o) there

    by_backup : (b : Option Name) → backup_of options names.file before.folder ≡ b → Moments
    by_backup (Some backup) made = elim (file.backed was there backup made) [
      | inl unseen ↦ from_looks unseen.looks
      | inr writes ↦ with_backup is_there backup made was writes
    ]
    by_backup None none = elim (cases_Bool (backs_up options)) [
      | inl on ↦ elim (file.all_taken is_there on none) [
        | inl unseen ↦ from_looks unseen.looks
        | inr finds ↦ from_looks finds.looks
      ]
      | inr off ↦ elim (file.plain was there off) [
        | inl unseen ↦ from_looks unseen.looks
        | inr writes ↦ without_backup was writes.answer writes.plain
      ]
    ]

  by_file : (o : Option (List ℕ)) → content_in before.folder names.file ≡ o → Moments
  by_file (Some was) there = by_backup was there (backup_of options names.file before.folder) refl
  by_file None none = elim (file.fresh none) [
    | inl unseen ↦ from_looks unseen.looks
    | inr writes ↦ made_new none writes.answer writes.fresh
  ]

  pub keeps_left : (step : Disk → Disk → Type 0) → Runs step before after → Runs (KeepsLeft on) before after
  keeps_left step runs =
      let kept = by_file (content_in before.folder names.file) refl in
      record {
        moments = goes_weaker (λ m. Inside before (step before.folder) m × Good m.folder) (Inside before (KeepsLeft on before.folder))
            (λ m both. record {
              output = both.0.output;
              answered = both.0.answered;
              script_faults = both.0.script_faults;
              out_faults = both.0.out_faults;
              folder = both.1;
            }) before.trace after.trace
            (goes_both (Inside before (step before.folder)) (λ m. Good m.folder) before.trace after.trace runs.moments kept.0);
        now = kept.1;
      }
