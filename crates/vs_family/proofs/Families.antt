-- A name of two families makes them clash, and nothing else does.
use Rattle.std.proofs.Common.{◌≡◌, ◌⊎◌, ◌↔◌, inl, inr, Bool, true, false, ◌||◌, List, [], ◌∷◌, refl, sym, ◌∙◌, ap}
use Rattle.std.specs.Str.{bytes_eq}
use Rattle.std.proofs.lemmas.Slice.Eq.{bytes_eq-Decides}
use Rattle.std.proofs.lemmas.Bool.{cases_Bool, true≢false, or_cases, or_left, or_right}
use Rattle.vs_host.specs.Disk.{Name}
use Rattle.vs_host.specs.Names.{names_in, names_of_file, temporary}
use Rattle.vs_backup.specs.Backups.{candidates}
use Rattle.vs_family.specs.Family.{SharesName, any, clash, is_of_family, lasting_names, with_temporary}

itself : (a : Name) → bytes_eq a a ≡ true
itself a = (bytes_eq-Decides a a).1 refl

passes : (test : Name → Bool) (a b : Name) → bytes_eq a b ≡ true → test a ≡ true → test b ≡ true
passes test a b same is = ap test (sym ((bytes_eq-Decides a b).0 same)) ∙ is

-- ---- one name and the one under which its file is made

temporary_found : (test : Name → Bool) (one : Name) → with_temporary test one ≡ true → (name : Name) × (test name ≡ true) × (with_temporary (bytes_eq name) one ≡ true)
temporary_found test one is = elim (or_cases (test one) (test (temporary one)) is) [
  | inl here ↦ (one, here, or_left (bytes_eq one one) (bytes_eq one (temporary one)) (itself one))
  | inr made ↦ (temporary one, made, or_right (bytes_eq (temporary one) one) (bytes_eq (temporary one) (temporary one)) (itself (temporary one)))
]

temporary_passes : (test : Name → Bool) (name one : Name) → with_temporary (bytes_eq name) one ≡ true → test name ≡ true → with_temporary test one ≡ true
temporary_passes test name one is pass = elim (or_cases (bytes_eq name one) (bytes_eq name (temporary one)) is) [
  | inl here ↦ or_left (test one) (test (temporary one)) (passes test name one here pass)
  | inr made ↦ or_right (test one) (test (temporary one)) (passes test name (temporary one) made pass)
]

-- ---- some of a list

made_found : (test : Name → Bool) (names : List Name) → any (with_temporary test) names ≡ true → (name : Name) × (test name ≡ true) × (any (with_temporary (bytes_eq name)) names ≡ true)
made_found test [] is = absurd (true≢false (sym is))
made_found test (one ∷ names) is = elim (or_cases (with_temporary test one) (any (with_temporary test) names) is) [
  | inl here ↦ let found = temporary_found test one here in (found.0, found.1, or_left (with_temporary (bytes_eq found.0) one) (any (with_temporary (bytes_eq found.0)) names) found.2)
  | inr later ↦ let found = made_found test names later in (found.0, found.1, or_right (with_temporary (bytes_eq found.0) one) (any (with_temporary (bytes_eq found.0)) names) found.2)
]

made_passes : (test : Name → Bool) (name : Name) (names : List Name) → any (with_temporary (bytes_eq name)) names ≡ true → test name ≡ true → any (with_temporary test) names ≡ true
made_passes test name [] is pass = is
made_passes test name (one ∷ names) is pass = elim (or_cases (with_temporary (bytes_eq name) one) (any (with_temporary (bytes_eq name)) names) is) [
  | inl here ↦ or_left (with_temporary test one) (any (with_temporary test) names) (temporary_passes test name one here pass)
  | inr later ↦ or_right (with_temporary test one) (any (with_temporary test) names) (made_passes test name names later pass)
]

-- ---- two families

clash_shares : (one two : Name) → clash one two ≡ true → SharesName one two
clash_shares one two is = let found = made_found (is_of_family two) (lasting_names one) is in record { name = found.0; first = found.2; second = found.1 }

shares_clash : (one two : Name) → SharesName one two → clash one two ≡ true
shares_clash one two shares = made_passes (is_of_family two) shares.name (lasting_names one) shares.first shares.second

pub clash_exact : (one two : Name) → clash one two ≡ true ↔ SharesName one two
clash_exact one two = (clash_shares one two, shares_clash one two)

pub families_apart : (one two name : Name) → clash one two ≡ false → is_of_family one name ≡ true → is_of_family two name ≡ false
families_apart one two name none is = elim (cases_Bool (is_of_family two name)) [
  | inl both ↦ absurd (true≢false (sym (shares_clash one two (record { name = name; first = is; second = both })) ∙ none))
  | inr not ↦ not
]

of_itself : (file : Name) → is_of_family file file ≡ true
of_itself file = or_left (with_temporary (bytes_eq file) file) _ (or_left (bytes_eq file file) (bytes_eq file (temporary file)) (itself file))

pub clash_itself : (file : Name) → clash file file ≡ true
clash_itself file = shares_clash file file (record { name = file; first = of_itself file; second = of_itself file })

turned : (one two : Name) → clash one two ≡ true → clash two one ≡ true
turned one two is = let shares = clash_shares one two is in shares_clash two one (record { name = shares.name; first = shares.second; second = shares.first })

both_ways : (a b : Bool) → (a ≡ true → b ≡ true) → (b ≡ true → a ≡ true) → a ≡ b
both_ways true b there back = sym (there refl)
both_ways false true there back = back refl
both_ways false false there back = refl

pub clash_either : (one two : Name) → clash one two ≡ clash two one
clash_either one two = both_ways (clash one two) (clash two one) (turned one two) (turned two one)

-- ---- the names of a family

of_eight : (a a' b b' c c' d d' rest : Bool) → (a || (b || (c || (d || (a' || (b' || (c' || (d' || false)))))))) ≡ true → ((a || a') || ((b || b') || ((c || c') || ((d || d') || rest)))) ≡ true
of_eight true a' b b' c c' d d' rest is = refl
of_eight false true b b' c c' d d' rest is = refl
of_eight false false true b' c c' d d' rest is = refl
of_eight false false false true c c' d d' rest is = refl
of_eight false false false false true c' d d' rest is = refl
of_eight false false false false false true d d' rest is = refl
of_eight false false false false false false true d' rest is = refl
of_eight false false false false false false false true rest is = refl
of_eight false false false false false false false false rest is = absurd (true≢false (sym is))

-- the eight names that go with the file
pub eight_in : (file name : Name) → any (bytes_eq name) (names_in (names_of_file file)) ≡ true → is_of_family file name ≡ true
eight_in file name is =
    let names = names_of_file file in
    of_eight (bytes_eq name names.file) (bytes_eq name names.file_new) (bytes_eq name names.swp) (bytes_eq name names.swp_new) (bytes_eq name names.swo) (bytes_eq name names.swo_new)
    (bytes_eq name names.undo) (bytes_eq name names.undo_new) (any (with_temporary (bytes_eq name)) (candidates file)) is

-- and those that go with a backup of it
later_in : (a b c d rest : Bool) → rest ≡ true → (a || (b || (c || (d || rest)))) ≡ true
later_in a b c d rest is = or_right a (b || (c || (d || rest))) (or_right b (c || (d || rest)) (or_right c (d || rest) (or_right d rest is)))

of_backups : (file name : Name) → any (with_temporary (bytes_eq name)) (candidates file) ≡ true → is_of_family file name ≡ true
of_backups file name is =
    let names = names_of_file file in
    later_in (with_temporary (bytes_eq name) names.file) (with_temporary (bytes_eq name) names.swp) (with_temporary (bytes_eq name) names.swo) (with_temporary (bytes_eq name) names.undo)
    (any (with_temporary (bytes_eq name)) (candidates file)) is

to_plain : (backup : Name) (names : List Name) → any (bytes_eq backup) names ≡ true → any (with_temporary (bytes_eq backup)) names ≡ true
to_plain backup [] is = is
to_plain backup (name ∷ names) is = elim (or_cases (bytes_eq backup name) (any (bytes_eq backup) names) is) [
  | inl same ↦ or_left (with_temporary (bytes_eq backup) name) (any (with_temporary (bytes_eq backup)) names) (or_left (bytes_eq backup name) (bytes_eq backup (temporary name)) same)
  | inr more ↦ or_right (with_temporary (bytes_eq backup) name) (any (with_temporary (bytes_eq backup)) names) (to_plain backup names more)
]

to_made : (backup : Name) (names : List Name) → any (bytes_eq backup) names ≡ true → any (with_temporary (bytes_eq (temporary backup))) names ≡ true
to_made backup [] is = is
to_made backup (name ∷ names) is = elim (or_cases (bytes_eq backup name) (any (bytes_eq backup) names) is) [
  | inl same ↦ or_left (with_temporary (bytes_eq (temporary backup)) name) (any (with_temporary (bytes_eq (temporary backup))) names)
      (or_right (bytes_eq (temporary backup) name) (bytes_eq (temporary backup) (temporary name))
      ((bytes_eq-Decides (temporary backup) (temporary name)).1 (ap temporary ((bytes_eq-Decides backup name).0 same))))
  | inr more ↦ or_right (with_temporary (bytes_eq (temporary backup)) name) (any (with_temporary (bytes_eq (temporary backup))) names) (to_made backup names more)
]

pub backup_in : (file backup : Name) → any (bytes_eq backup) (candidates file) ≡ true → is_of_family file backup ≡ true
backup_in file backup is = of_backups file backup (to_plain backup (candidates file) is)

pub copy_in : (file backup : Name) → any (bytes_eq backup) (candidates file) ≡ true → is_of_family file (temporary backup) ≡ true
copy_in file backup is = of_backups file (temporary backup) (to_made backup (candidates file) is)

-- the same files
pub clash_as : (one one' two two' : Name) (b : Bool) → one' ≡ one → two' ≡ two → b ≡ clash one' two' → b ≡ clash one two
clash_as one one' two two' b first second is = is ∙ ap (λ (o : Name). clash o two') first ∙ ap (λ (t : Name). clash one t) second
