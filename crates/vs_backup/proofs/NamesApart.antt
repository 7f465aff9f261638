-- A desk that reads its text from the swap files reads none of the names of a write: their last bytes differ.
use Rattle.std.proofs.Common.{◌≡◌, ◌≢◌, ◌⊎◌, inl, inr, ℕ, [], ◌∷◌, ◌++◌, codes, Bool, true, false, ◌||◌, IsTrue, None, refl, sym, ◌∙◌, ap, arith, append_assoc}
use Rattle.std.proofs.lemmas.List.{same_from_push}
use Rattle.std.proofs.lemmas.Bool.{true≢false}
use Rattle.vs_host.specs.Disk.{Disk, Name}
use Rattle.vs_host.specs.Names.{AreNames, hidden, is_allowed, names_of_file, swp_of, swo_of, temporary}
use Rattle.vs_host.specs.declared.names.Names.{Names}
use Rattle.vs_host.proofs.Apart.{names_apart}
use Rattle.vs_backup.specs.Backups.{IsBackupName, backs_up, backup_of}
use Rattle.vs_backup.specs.declared.options.WriteOptions.{WriteOptions}

ends_in : (stem front : Name) (x y : ℕ) → stem ++ x ∷ [] ≡ front ++ y ∷ [] → x ≡ y
ends_in stem front x y same = (same_from_push stem front x y same).1

swp_end : (name : Name) → swp_of name ≡ (hidden name ++ codes ".sw") ++ 112 ∷ []
swp_end name = sym (append_assoc (hidden name) (codes ".sw") (112 ∷ []))

swo_end : (name : Name) → swo_of name ≡ (hidden name ++ codes ".sw") ++ 111 ∷ []
swo_end name = sym (append_assoc (hidden name) (codes ".sw") (111 ∷ []))

temporary_end : (name : Name) → temporary name ≡ (name ++ codes ".vsne") ++ 119 ∷ []
temporary_end name = sym (append_assoc name (codes ".vsne") (119 ∷ []))

-- the names of a file whose name is allowed
pub are_names : (name : Name) → IsTrue (is_allowed name) → AreNames (names_of_file name)
are_names name allowed = record { allowed = allowed; others = refl }

module _ (names : Names) (are : AreNames names) where
  swp_is : names.swp ≡ (hidden names.file ++ codes ".sw") ++ 112 ∷ []
  swp_is = ap (λ (n : Names). n.swp) are.others ∙ swp_end names.file

  swo_is : names.swo ≡ (hidden names.file ++ codes ".sw") ++ 111 ∷ []
  swo_is = ap (λ (n : Names). n.swo) are.others ∙ swo_end names.file

  -- a name with another last byte
  other_end : (stem : Name) (x : ℕ) (name : Name) → name ≡ stem ++ x ∷ [] → x ≢ 112 → x ≢ 111 → (name ≡ names.swp) ⊎ (name ≡ names.swo) → ⊥
  other_end stem x name is not_p not_o (inl swp) = not_p (ends_in stem (hidden names.file ++ codes ".sw") x 112 (sym is ∙ swp ∙ swp_is))
  other_end stem x name is not_p not_o (inr swo) = not_o (ends_in stem (hidden names.file ++ codes ".sw") x 111 (sym is ∙ swo ∙ swo_is))

  pub file_apart : (names.file ≡ names.swp) ⊎ (names.file ≡ names.swo) → ⊥
  file_apart (inl swp) = (names_apart names are).0.0 swp
  file_apart (inr swo) = (names_apart names are).0.1.0 swo

  pub backup_apart : (backup : Name) → IsBackupName names.file backup → (backup ≡ names.swp) ⊎ (backup ≡ names.swo) → ⊥
  backup_apart backup is same = other_end is.stem 126 backup is.ends (λ e. omega arith) (λ e. omega arith) same

  pub temporary_apart : (other : Name) → (temporary other ≡ names.swp) ⊎ (temporary other ≡ names.swo) → ⊥
  temporary_apart other same = other_end (other ++ codes ".vsne") 119 (temporary other) (temporary_end other) (λ e. omega arith) (λ e. omega arith) same

  pub new_name : names.file_new ≡ temporary names.file
  new_name = ap (λ (n : Names). n.file_new) are.others

-- ---- the options
backup_none : (backup writebackup : Bool) (o : WriteOptions) (name : Name) (disk : Disk) → o.backup ≡ backup → o.writebackup ≡ writebackup → (backup || writebackup) ≡ false → backup_of o name disk ≡ None
backup_none false false o name disk one two off = rw (one, two) refl
backup_none false true o name disk one two off = absurd (true≢false off)
backup_none true w o name disk one two off = absurd (true≢false off)

pub no_backup : (o : WriteOptions) (name : Name) (disk : Disk) → backs_up o ≡ false → backup_of o name disk ≡ None
no_backup o name disk off = backup_none o.backup o.writebackup o name disk refl refl off

or_other : (a b : Bool) → (a || b) ≡ true → a ≡ false → b ≡ true
or_other false b or off = or
or_other true b or off = absurd (true≢false off)

pub writes_back : (o : WriteOptions) → backs_up o ≡ true → o.backup ≡ false → o.writebackup ≡ true
writes_back o on off = or_other o.backup o.writebackup on off
