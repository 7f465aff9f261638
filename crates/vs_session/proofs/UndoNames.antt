-- The names of the undo file, beside those on which a write of the edited file works: these differ by their length, or their last byte.
use Rattle.std.proofs.Common.{◌≡◌, ◌≢◌, ◌⊎◌, inl, inr, ℕ, ◌+◌, ◌≤◌, true, false, cond, length, codes, [], ◌∷◌, ◌++◌, refl, sym, ◌∙◌, ap, append_assoc, arith}
use Rattle.std.specs.List.{starts_with}
use Rattle.std.specs.Prelude.{nat_eq}
use Rattle.std.proofs.lemmas.List.{length-append, same_from_push}
use Rattle.vs_host.specs.Disk.{Disk, Name}
use Rattle.vs_host.specs.Names.{AreNames, hidden, temporary, undo_of}
use Rattle.vs_host.specs.declared.names.Names.{Names}
use Rattle.vs_host.proofs.Apart.{names_apart}
use Rattle.vs_backup.specs.declared.options.WriteOptions.{WriteOptions}
use Rattle.vs_backup.specs.Backups.{IsBackupName, WorksOn}
use Rattle.vs_backup.specs.Backups.WorksOn.{TheFile, TheNewFile, TheBackup, TheCopy}
use Rattle.vs_backup.specs.Works.{two_names}
use Rattle.vs_backup.proofs.Choosing.{some_name}
use Rattle.vs_desk.proofs.Spared.{chosen_name}

hidden_least : (name : Name) → length name ≤ length (hidden name)
hidden_least name = elim (starts_with nat_eq name (codes ".")) as (λ b. length name ≤ length (cond b name (codes "." ++ name))) [
  | true ↦ omega arith
  | false ↦ omega arith
]

other_last : (stem front : Name) (x y : ℕ) → x ≢ y → stem ++ x ∷ [] ≢ front ++ y ∷ []
other_last stem front x y apart same = apart (same_from_push stem front x y same).1

module _ (names : Names) (are : AreNames names) where
  undo_name : names.undo ≡ undo_of names.file
  undo_name = ap (λ (n : Names). n.undo) are.others

  pub new_name : names.undo_new ≡ temporary names.undo
  new_name = ap (λ (n : Names). n.undo_new) are.others ∙ ap temporary (sym undo_name)

  pub undo_apart : (names.undo ≡ names.swp) ⊎ (names.undo ≡ names.swo) → ⊥
  undo_apart (inl swp) = (names_apart names are).1.0.1.0 (sym swp)
  undo_apart (inr swo) = (names_apart names are).1.1.0.0 (sym swo)

  -- how long they are
  undo_long : length names.file + 4 ≤ length names.undo
  undo_long =
      let size = ap length undo_name ∙ length-append (hidden names.file) (codes ".un~") in
      let four : length (codes ".un~") ≡ 4 = refl in
      let least = hidden_least names.file in
      omega arith

  new_long : length names.undo_new ≡ length names.undo + 6
  new_long = ap length new_name ∙ length-append names.undo (codes ".vsnew")

  -- neither is the edited file, or its backup
  pub file_outside : two_names names.undo_new names.undo names.file → ⊥
  file_outside (inl new) = (names_apart names are).0.1.1.1.1.1.1.0 new
  file_outside (inr undo) = (names_apart names are).0.1.1.0 undo

  pub backup_outside : (backup : Name) → IsBackupName names.file backup → two_names names.undo_new names.undo backup → ⊥
  backup_outside backup is (inl new) = let size = ap length new in let longer = is.longer in let long = undo_long in let more = new_long in omega arith
  backup_outside backup is (inr undo) = let size = ap length undo in let longer = is.longer in let long = undo_long in omega arith

  pub not_temporary : (other : Name) → names.undo ≢ temporary other
  not_temporary other same =
      let ends : (hidden names.file ++ codes ".un") ++ 126 ∷ [] ≡ (other ++ codes ".vsne") ++ 119 ∷ [] =
      append_assoc (hidden names.file) (codes ".un") (126 ∷ []) ∙ sym undo_name ∙ same ∙ sym (append_assoc other (codes ".vsne") (119 ∷ [])) in
      other_last (hidden names.file ++ codes ".un") (other ++ codes ".vsne") 126 119 (λ e. omega arith) ends

  -- a write of the edited file does not work on the undo file
  pub undo_unworked : (options : WriteOptions) (disk : Disk) → WorksOn options names.file disk names.undo → ⊥
  undo_unworked options disk (TheFile same) = file_outside (inr (sym same))
  undo_unworked options disk (TheNewFile none same) = not_temporary names.file same
  undo_unworked options disk (TheBackup backup there chosen same) =
      backup_outside backup (chosen_name options names.file disk backup (some_name names.file are.allowed) chosen) (inr (sym same))
  undo_unworked options disk (TheCopy backup there chosen copies same) = not_temporary backup same
