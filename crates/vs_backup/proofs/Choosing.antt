-- The names that a backup may get are tried in their order.
use Rattle.std.proofs.Common.{◌≡◌, ℕ, suc, ◌+◌, ◌-◌, ◌<◌, true, false, List, [], ◌∷◌, ◌++◌, length, take, map, Some, None, codes, refl, sym, ◌∙◌, ap, arith, append_assoc, length-append, length-take}
use Rattle.std.specs.Prelude.{is_some}
use Rattle.std.specs.Prelude.{IsTrue}
use Rattle.std.proofs.lemmas.Bool.{cond-true, cond-false, true≢false}
use Rattle.vs_host.specs.Names.{is_allowed}
use Rattle.vs_host.specs.Disk.{Disk, Name, content_in}
use Rattle.vs_backup.specs.Backups.{IsBackupName, backup_name, candidates, first_free, lettered, letters}

pub free_here : (disk : Disk) (name : Name) (names : List Name) → is_some (content_in disk name) ≡ false → first_free disk (name ∷ names) ≡ Some name
unfolding first_free
free_here disk name names none = cond-false (is_some (content_in disk name)) (first_free disk names) (Some name) none

pub free_later : (disk : Disk) (name : Name) (names : List Name) → is_some (content_in disk name) ≡ true → first_free disk (name ∷ names) ≡ first_free disk names
unfolding first_free
free_later disk name names taken = cond-true (is_some (content_in disk name)) (first_free disk names) (Some name) taken

pub candidates_are : (name : Name) → candidates name ≡ backup_name name ∷ map (lettered name) (letters 26)
unfolding candidates
candidates_are name = refl

letters_suc : (name : Name) (n : ℕ) → map (lettered name) (letters (suc n)) ≡ lettered name (97 + n) ∷ map (lettered name) (letters n)
unfolding letters
letters_suc name n = refl

pub letters_next : (name : Name) (n m : ℕ) → n ≡ suc m → map (lettered name) (letters n) ≡ lettered name (97 + m) ∷ map (lettered name) (letters m)
letters_next name n m is = ap (λ (k : ℕ). map (lettered name) (letters k)) is ∙ letters_suc name m

no_letters : (disk : Disk) (name : Name) → first_free disk (map (lettered name) (letters 0)) ≡ None
unfolding first_free letters
no_letters disk name = refl

pub none_left : (disk : Disk) (name : Name) (n : ℕ) → n ≡ 0 → first_free disk (map (lettered name) (letters n)) ≡ None
none_left disk name n is = ap (λ (k : ℕ). first_free disk (map (lettered name) (letters k))) is ∙ no_letters disk name

pub IsBackupName-plain : (name : Name) → IsBackupName name (backup_name name)
IsBackupName-plain name = record { stem = name; ends = refl; longer = length-append name (codes "~") }

pub IsBackupName-lettered : (name : Name) (letter : ℕ) → 0 < length name → IsBackupName name (lettered name letter)
IsBackupName-lettered name letter some = record {
  stem = take (length name - 1) name ++ letter ∷ [];
  ends = sym (append_assoc (take (length name - 1) name) (letter ∷ []) (codes "~"));
  longer = omega (arith, length-append (take (length name - 1) name) (letter ∷ codes "~"), length-take (length name - 1) name);
}

-- an allowed name has a byte
pub some_name : (name : Name) → IsTrue (is_allowed name) → 0 < length name
some_name [] is = absurd (true≢false (sym is))
some_name (byte ∷ name) is = omega arith
