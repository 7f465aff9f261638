-- A backup name that may replace none is free.
use Rattle.std.proofs.Common.{◌≡◌, inl, inr, true, false, List, [], ◌∷◌, Some, None, refl, sym, ◌∙◌, subst}
use Rattle.std.specs.Prelude.{is_some}
use Rattle.std.proofs.lemmas.Bool.{cases_Bool}
use Rattle.vs_host.specs.Disk.{Disk, Name, content_in}
use Rattle.vs_backup.specs.Backups.{backs_up, backup_of, candidates, first_free}
use Rattle.vs_backup.specs.declared.options.WriteOptions.{WriteOptions}
use Rattle.vs_backup.proofs.Choosing.{free_here, free_later}
use Rattle.vs_backup.proofs.NamesApart.{writes_back}
use Rattle.vs_backup.proofs.Whole.{not_there_now}

some_name : (a b : Name) → Some a ≡ Some b → a ≡ b
some_name a b e = cc

first_is_free : (disk : Disk) (names : List Name) (found : Name) → first_free disk names ≡ Some found → content_in disk found ≡ None
unfolding first_free
first_is_free disk [] found is = absurd (cc)
first_is_free disk (name ∷ names) found is = elim (cases_Bool (is_some (content_in disk name))) [
  | inl taken ↦ first_is_free disk names found (sym (free_later disk name names taken) ∙ is)
  | inr free ↦ subst (λ (n : Name). content_in disk n ≡ None) (some_name name found (sym (free_here disk name names free) ∙ is)) (not_there_now name disk (sym free))
]

pub backup_is_free : (options : WriteOptions) (name backup : Name) (disk : Disk) → backs_up options ≡ true → options.backup ≡ false → backup_of options name disk ≡ Some backup → content_in disk backup ≡ None
backup_is_free options name backup disk on off chosen =
    let first : first_free disk (candidates name) ≡ Some backup = sym (chosen_first options name disk off (writes_back options on off)) ∙ chosen in
    first_is_free disk (candidates name) backup first
  where
    chosen_first : (o : WriteOptions) (name : Name) (disk : Disk) → o.backup ≡ false → o.writebackup ≡ true → backup_of o name disk ≡ first_free disk (candidates name)
    chosen_first o name disk off on = rw (off, on) refl
