-- All names that a session works on are of its file's family, so sessions on files that do not clash have nothing to do with each other.
use Rattle.std.proofs.Common.{◌≡◌, ◌⊎◌, inl, inr, ℕ, Bool, true, false, cond, not, ◌||◌, ◌&&◌, List, [], ◌∷◌, map, Option, Some, None, refl, sym, ◌∙◌, ap, subst}
use Rattle.std.proofs.lemmas.Option.{same_Some}
use Rattle.std.specs.Prelude.{IsTrue, is_some}
use Rattle.std.specs.Str.{bytes_eq}
use Rattle.std.proofs.lemmas.Slice.Eq.{bytes_eq-Decides}
use Rattle.std.proofs.lemmas.Bool.{cases_Bool, cond-true, cond-false, true≢false, false≢true, or_left, or_right, or_cases, and_from}
use Rattle.vs_host.specs.Disk.{Disk, Name, content_in}
use Rattle.vs_host.specs.Names.{AreNames, is_allowed, names_in, names_of_file, temporary}
use Rattle.vs_host.specs.declared.names.Names.{Names}
use Rattle.vs_pair.specs.Pair.{is_foreign, is_pair_name}
use Rattle.vs_backup.specs.declared.options.WriteOptions.{WriteOptions}
use Rattle.vs_backup.specs.Backups.{WorksOn, TheFile, TheNewFile, TheBackup, TheCopy, backup_name, backup_of, candidates, first_free}
use Rattle.vs_family.specs.Family.{any, clash, is_of_family}
use Rattle.vs_family.proofs.Families.{backup_in, copy_in, eight_in, families_apart}
use Rattle.vs_safety.specs.FileWork.{FileWork, EditedFile, UndoFile, BothFiles, AvoidsFiles}
use Rattle.vs_safety.specs.Writes.{outside}
use Rattle.vs_safety.proofs.UndoFiles.{undo_foreign}
use Rattle.vs_both.specs.Beside.{AreBeside, HasFamily}
use Rattle.vs_both.specs.Parties.{party_of}

itself : (a : Name) → bytes_eq a a ≡ true
itself a = (bytes_eq-Decides a a).1 refl

-- ---- the eight names

nth : (a b c d e f g h : Bool) → (a ≡ true) ⊎ ((b ≡ true) ⊎ ((c ≡ true) ⊎ ((d ≡ true) ⊎ ((e ≡ true) ⊎ ((f ≡ true) ⊎ ((g ≡ true) ⊎ (h ≡ true))))))) → (a || (b || (c || (d || (e || (f || (g || (h || false)))))))) ≡ true
nth true b c d e f g h is = refl
nth false true c d e f g h is = refl
nth false false true d e f g h is = refl
nth false false false true e f g h is = refl
nth false false false false true f g h is = refl
nth false false false false false true g h is = refl
nth false false false false false false true h is = refl
nth false false false false false false false true is = refl
nth false false false false false false false false (inl is) = is
nth false false false false false false false false (inr (inl is)) = is
nth false false false false false false false false (inr (inr (inl is))) = is
nth false false false false false false false false (inr (inr (inr (inl is)))) = is
nth false false false false false false false false (inr (inr (inr (inr (inl is))))) = is
nth false false false false false false false false (inr (inr (inr (inr (inr (inl is)))))) = is
nth false false false false false false false false (inr (inr (inr (inr (inr (inr (inl is))))))) = is
nth false false false false false false false false (inr (inr (inr (inr (inr (inr (inr is))))))) = is

module _ (file : Name) where
  abbrev names : Names
  names = names_of_file file

  in_family : (name : Name)
      → (bytes_eq name names.file ≡ true) ⊎ ((bytes_eq name names.swp ≡ true) ⊎ ((bytes_eq name names.swo ≡ true) ⊎ ((bytes_eq name names.undo ≡ true) ⊎ ((bytes_eq name names.file_new ≡ true)
      ⊎ ((bytes_eq name names.swp_new ≡ true) ⊎ ((bytes_eq name names.swo_new ≡ true) ⊎ (bytes_eq name names.undo_new ≡ true)))))))
      → is_of_family file name ≡ true
  in_family name which = eight_in file name
      (nth (bytes_eq name names.file) (bytes_eq name names.swp) (bytes_eq name names.swo) (bytes_eq name names.undo) (bytes_eq name names.file_new) (bytes_eq name names.swp_new) (bytes_eq name names.swo_new)
      (bytes_eq name names.undo_new) which)

  same_in : (one name : Name) → is_of_family file one ≡ true → bytes_eq one name ≡ true → is_of_family file name ≡ true
  same_in one name is same = subst (λ (n : Name). is_of_family file n ≡ true) ((bytes_eq-Decides one name).0 same) is

  file_in : is_of_family file names.file ≡ true
  file_in = in_family names.file (inl (itself names.file))

  swp_in : is_of_family file names.swp ≡ true
  swp_in = in_family names.swp (inr (inl (itself names.swp)))

  swo_in : is_of_family file names.swo ≡ true
  swo_in = in_family names.swo (inr (inr (inl (itself names.swo))))

  undo_in : is_of_family file names.undo ≡ true
  undo_in = in_family names.undo (inr (inr (inr (inl (itself names.undo)))))

  file_new_in : is_of_family file names.file_new ≡ true
  file_new_in = in_family names.file_new (inr (inr (inr (inr (inl (itself names.file_new))))))

  swp_new_in : is_of_family file names.swp_new ≡ true
  swp_new_in = in_family names.swp_new (inr (inr (inr (inr (inr (inl (itself names.swp_new)))))))

  swo_new_in : is_of_family file names.swo_new ≡ true
  swo_new_in = in_family names.swo_new (inr (inr (inr (inr (inr (inr (inl (itself names.swo_new))))))))

  undo_new_in : is_of_family file names.undo_new ≡ true
  undo_new_in = in_family names.undo_new (inr (inr (inr (inr (inr (inr (inr (itself names.undo_new))))))))

  pair_in : (name : Name) → is_pair_name names name ≡ true → is_of_family file name ≡ true
  pair_in name is = elim (or_cases (bytes_eq names.swp name || bytes_eq names.swo name) (bytes_eq names.swp_new name || bytes_eq names.swo_new name) is) [
    | inl swap ↦ elim (or_cases (bytes_eq names.swp name) (bytes_eq names.swo name) swap) [
      | inl swp ↦ same_in names.swp name swp_in swp
      | inr swo ↦ same_in names.swo name swo_in swo
    ]
    | inr made ↦ elim (or_cases (bytes_eq names.swp_new name) (bytes_eq names.swo_new name) made) [
      | inl swp ↦ same_in names.swp_new name swp_new_in swp
      | inr swo ↦ same_in names.swo_new name swo_new_in swo
    ]
  ]

-- ---- backups

none_some : (a : Name) (X : Type 0) → None ≡ Some a → X
none_some a X e = cc

-- a free name is one of those that are tried
free_is : (disk : Disk) (names : List Name) (free : Name) → first_free disk names ≡ Some free → any (bytes_eq free) names ≡ true
unfolding first_free
free_is disk [] free is = none_some free _ is
free_is disk (name ∷ names) free is = elim (cases_Bool (is_some (content_in disk name))) [
  | inl taken ↦ or_right (bytes_eq free name) (any (bytes_eq free) names) (free_is disk names free (sym (cond-true (is_some (content_in disk name)) (first_free disk names) (Some name) taken) ∙ is))
  | inr open_here ↦
      let same : name ≡ free = same_Some name free (sym (cond-false (is_some (content_in disk name)) (first_free disk names) (Some name) open_here) ∙ is) in
      or_left (bytes_eq free name) (any (bytes_eq free) names) ((bytes_eq-Decides free name).1 (sym same))
]

plain_is : (file : Name) → any (bytes_eq (backup_name file)) (candidates file) ≡ true
unfolding candidates
plain_is file = or_left (bytes_eq (backup_name file) (backup_name file)) _ (itself (backup_name file))

backup_is : (options : WriteOptions) (file : Name) (disk : Disk) (backup : Name) → backup_of options file disk ≡ Some backup → any (bytes_eq backup) (candidates file) ≡ true
backup_is options file disk backup is = elim (cases_Bool options.backup) [
  | inl on ↦
      let same : backup_name file ≡ backup = same_Some (backup_name file) backup (sym (cond-true options.backup (Some (backup_name file)) (cond options.writebackup (first_free disk (candidates file)) None) on) ∙ is) in
      subst (λ (b : Name). any (bytes_eq b) (candidates file) ≡ true) same (plain_is file)
  | inr off ↦
      let rest = sym (cond-false options.backup (Some (backup_name file)) (cond options.writebackup (first_free disk (candidates file)) None) off) ∙ is in
      elim (cases_Bool options.writebackup) [
        | inl on ↦ free_is disk (candidates file) backup (sym (cond-true options.writebackup (first_free disk (candidates file)) None on) ∙ rest)
        | inr none ↦ none_some backup _ (sym (cond-false options.writebackup (first_free disk (candidates file)) None none) ∙ rest)
      ]
]

-- ---- what a session works on

works_in : (options : WriteOptions) (file : Name) (disk : Disk) (other : Name) → WorksOn options file disk other → is_of_family file other ≡ true
works_in options file disk other (TheFile is) = subst (λ (n : Name). is_of_family file n ≡ true) (sym is) (file_in file)
works_in options file disk other (TheNewFile none is) = subst (λ (n : Name). is_of_family file n ≡ true) (sym is) (file_new_in file)
works_in options file disk other (TheBackup backup there made is) = subst (λ (n : Name). is_of_family file n ≡ true) (sym is) (backup_in file backup (backup_is options file disk backup made))
works_in options file disk other (TheCopy backup there made copied is) = subst (λ (n : Name). is_of_family file n ≡ true) (sym is) (copy_in file backup (backup_is options file disk backup made))

undo_works : (file name : Name) → (name ≡ (names_of_file file).undo_new) ⊎ (name ≡ (names_of_file file).undo) → is_of_family file name ≡ true
undo_works file name (inl made) = subst (λ (n : Name). is_of_family file n ≡ true) (sym made) (undo_new_in file)
undo_works file name (inr undo) = subst (λ (n : Name). is_of_family file n ≡ true) (sym undo) (undo_in file)

not_out : (file name : Name) → outside (is_of_family file) name ≡ true → is_of_family file name ≡ true → ⊥
not_out file name out is = false≢true (sym (ap not is) ∙ out)

files_in : (file : Name) (work : FileWork) → AvoidsFiles (names_of_file file) work (outside (is_of_family file))
files_in file (EditedFile write) = λ name out works. not_out file name out (works_in write.options file write.found name works)
files_in file (UndoFile undo) = λ name out works. not_out file name out (undo_works file name works)
files_in file (BothFiles write undo) = ((λ name out works. not_out file name out (works_in write.options file write.found name works)), (λ name out works. not_out file name out (undo_works file name works)))

foreign_out : (file name : Name) → outside (is_of_family file) name ≡ true → is_foreign (names_of_file file) name ≡ true
foreign_out file name out = elim (cases_Bool (is_pair_name (names_of_file file) name)) [
  | inl pair ↦ absurd (not_out file name out (pair_in file name pair))
  | inr apart ↦ ap not apart
]

pub has_family : (file : Name) (line : List ℕ) → IsTrue (is_allowed file) → HasFamily (party_of file line)
has_family file line allowed = record {
  pair = foreign_out file;
  files = files_in file;
  undo = and_from (is_of_family file (names_of_file file).undo) (is_foreign (names_of_file file) (names_of_file file).undo) (undo_in file) (undo_foreign (names_of_file file) (record { allowed = allowed; others = refl }));
}

pub are_beside : (one two : Name) (line other : List ℕ) → IsTrue (is_allowed one) → IsTrue (is_allowed two) → clash one two ≡ false → AreBeside (party_of one line) (party_of two other)
are_beside one two line other allowed_one allowed_two none = record {
  first = has_family one line allowed_one;
  second = has_family two other allowed_two;
  apart = λ name is. families_apart one two name none is;
}
