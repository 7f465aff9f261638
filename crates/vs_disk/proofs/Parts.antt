-- The law of restriction: of the names of a set, a stop leaves of their part of the folder what it leaves of the whole.
use Rattle.std.proofs.Common.{◌≡◌, inl, inr, ℕ, zero, suc, Bool, true, false, cond, List, [], ◌∷◌, drop, Option, Some, None, option_map, refl, sym, ◌∙◌, ap, subst}
use Rattle.std.specs.Prelude.{filter}
use Rattle.std.specs.Str.{bytes_eq}
use Rattle.std.proofs.Math.Seq.{drop-nil}
use Rattle.std.proofs.lemmas.Bool.{cases_Bool, cond-true, cond-false, true≢false, or_cases, or_parts}
use Rattle.vs_host.specs.File.{File}
use Rattle.vs_host.specs.Disk.{Disk, Name, Directory, Change, Creates, Renames, Removes, changed_names, after_changes, names_at, IsImageOf, IsImage}
use Rattle.vs_disk.specs.Names.{IsImageAt, concerns, part_of, IsLinked, NoneLinked}
use Rattle.vs_disk.proofs.Images.{read_image}
use Rattle.vs_disk.proofs.Others.{image_same, apart_text, rename_outside}

-- ---- the law of the part: its images are the parts of the images
pub part_of_image : (inside : Name → Bool) (disk : Disk) (image : Name → Option (List ℕ)) → IsImage disk image → IsImageAt inside disk image
part_of_image inside disk image whole = (whole.0, λ name is. whole.1 name)

-- the image of a part, with what is read elsewhere
abbrev pub with_rest : (Name → Bool) → Disk → ℕ → (Name → Option (List ℕ)) → Name → Option (List ℕ)
with_rest inside disk lost image name = cond (inside name) (image name) (option_map (λ (number : ℕ). (disk.files number).bytes) (names_at disk lost name))

pub read_name : (disk : Disk) (at : Option ℕ) → IsImageOf disk at (option_map (λ (number : ℕ). (disk.files number).bytes) at)
read_name disk None = refl
read_name disk (Some number) = ((disk.files number).bytes, refl, read_image (disk.files number))

pub image_with_rest : (inside : Name → Bool) (disk : Disk) (image : Name → Option (List ℕ)) (part : IsImageAt inside disk image) → IsImage disk (with_rest inside disk part.0 image)
image_with_rest inside disk image part = (
  part.0,
  λ name.
      elim (cases_Bool (inside name)) [
        | inl is ↦ subst (λ (found : Option (List ℕ)). IsImageOf disk (names_at disk part.0 name) found) (sym (cond-true (inside name) _ _ is)) (part.1 name is)
        | inr not ↦ subst (λ (found : Option (List ℕ)). IsImageOf disk (names_at disk part.0 name) found) (sym (cond-false (inside name) _ _ not)) (read_name disk (names_at disk part.0 name))
      ],
)

-- ---- the folder of the names of a set alone
-- a change inside, on names that agree inside
same_change : (inside : Name → Bool) (change : Change) → (IsLinked inside change → ⊥) → concerns inside change ≡ true → (old new : Directory) → ((name : Name) → inside name ≡ true → new name ≡ old name)
    → (name : Name) → inside name ≡ true → changed_names change new name ≡ changed_names change old name
same_change inside (Creates made number) none kept_in old new same name is = ap (λ (o : Option ℕ). cond (bytes_eq made name) (Some number) o) (same name is)
same_change inside (Removes gone) none kept_in old new same name is = ap (λ (o : Option ℕ). cond (bytes_eq gone name) None o) (same name is)
same_change inside (Renames from to) none kept_in old new same name is =
    let from_in : inside from ≡ true = elim (cases_Bool (inside from)) [
      | inl yes_from ↦ yes_from
      | inr not_from ↦ elim (or_cases (inside from) (inside to) kept_in) [
        | inl yes_from ↦ yes_from
        | inr yes_to ↦ absurd (none (λ both. true≢false (sym yes_to ∙ sym both ∙ not_from)))
      ]
    ] in
    λ i. cond (bytes_eq to name) (same from from_in i) (cond (bytes_eq from name) None (same name is i))

outside_change : (inside : Name → Bool) (change : Change) → concerns inside change ≡ false → (names : Directory) (name : Name) → inside name ≡ true → changed_names change names name ≡ names name
outside_change inside (Creates made number) left_out names name is = cond-false (bytes_eq made name) (Some number) (names name) (apart_text inside made name left_out is)
outside_change inside (Removes gone) left_out names name is = cond-false (bytes_eq gone name) None (names name) (apart_text inside gone name left_out is)
outside_change inside (Renames from to) left_out names name is =
    let parts = or_parts (inside from) (inside to) left_out in
    (rename_outside inside from to parts.0 parts.1).leaves names name is

-- the kept changes lead to the same names inside
pub part_names : (inside : Name → Bool) (changes : List Change) (synced part : Directory) → NoneLinked inside changes → ((name : Name) → inside name ≡ true → part name ≡ synced name)
    → (name : Name) → inside name ≡ true → after_changes (filter (concerns inside) changes) part name ≡ after_changes changes synced name
part_names inside [] synced part none same name is = same name is
part_names inside (change ∷ changes) synced part none same name is =
    let rest = part_names inside changes synced part none.1 same in
    elim (cases_Bool (concerns inside change)) [
      | inl kept_in ↦
          ap (λ (kept : List Change). after_changes kept part name) (cond-true (concerns inside change) (change ∷ filter (concerns inside) changes) (filter (concerns inside) changes) kept_in)
          ∙ same_change inside change none.0 kept_in (after_changes changes synced) (after_changes (filter (concerns inside) changes) part) rest name is
      | inr left_out ↦
          ap (λ (kept : List Change). after_changes kept part name) (cond-false (concerns inside change) (change ∷ filter (concerns inside) changes) (filter (concerns inside) changes) left_out)
          ∙ rest name is ∙ sym (outside_change inside change left_out (after_changes changes synced) name is)
    ]

-- what is kept of what is left is what is left of what is kept
kept_of_left : (p : Change → Bool) (changes : List Change) (lost : ℕ) → (l : ℕ) × (drop l (filter p changes) ≡ filter p (drop lost changes))
kept_of_left p [] zero = (0, refl)
kept_of_left p [] (suc lost) = (0, refl)
kept_of_left p (change ∷ changes) zero = (0, refl)
kept_of_left p (change ∷ changes) (suc lost) =
    let rest = kept_of_left p changes lost in
    elim (cases_Bool (p change)) [
      | inl kept ↦ (suc rest.0, ap (λ (cs : List Change). drop (suc rest.0) cs) (cond-true (p change) (change ∷ filter p changes) (filter p changes) kept) ∙ rest.1)
      | inr not ↦ (rest.0, ap (λ (cs : List Change). drop rest.0 cs) (cond-false (p change) (change ∷ filter p changes) (filter p changes) not) ∙ rest.1)
    ]

left_of_kept : (p : Change → Bool) (changes : List Change) (l : ℕ) → (lost : ℕ) × (drop l (filter p changes) ≡ filter p (drop lost changes))
left_of_kept p [] l = (0, drop-nil l)
left_of_kept p (change ∷ changes) zero = (0, refl)
left_of_kept p (change ∷ changes) (suc l) =
    elim (cases_Bool (p change)) [
      | inl kept ↦
          let rest = left_of_kept p changes l in
          (suc rest.0, ap (λ (cs : List Change). drop (suc l) cs) (cond-true (p change) (change ∷ filter p changes) (filter p changes) kept) ∙ rest.1)
      | inr not ↦
          let rest = left_of_kept p changes (suc l) in
          (suc rest.0, ap (λ (cs : List Change). drop (suc l) cs) (cond-false (p change) (change ∷ filter p changes) (filter p changes) not) ∙ rest.1)
    ]

none_left : (inside : Name → Bool) (changes : List Change) (lost : ℕ) → NoneLinked inside changes → NoneLinked inside (drop lost changes)
none_left inside changes zero none = none
none_left inside [] (suc lost) none = none
none_left inside (change ∷ changes) (suc lost) none = none_left inside changes lost none.1

part_at : (inside : Name → Bool) (disk : Disk) (l lost : ℕ) → NoneLinked inside disk.pending → drop l (filter (concerns inside) disk.pending) ≡ filter (concerns inside) (drop lost disk.pending)
    → (name : Name) → inside name ≡ true → names_at (part_of inside disk) l name ≡ names_at disk lost name
part_at inside disk l lost none same name is =
    ap (λ (cs : List Change). after_changes cs (part_of inside disk).synced name) same
    ∙ part_names inside (drop lost disk.pending) disk.synced (part_of inside disk).synced (none_left inside disk.pending lost none) (λ other there. cond-true (inside other) (disk.synced other) None there) name is

-- The law: of the names inside, a stop leaves of the part what it leaves of the whole folder.
pub part_leaves : (inside : Name → Bool) (disk : Disk) (image : Name → Option (List ℕ)) → NoneLinked inside disk.pending → IsImageAt inside (part_of inside disk) image → IsImageAt inside disk image
part_leaves inside disk image none part =
    let lost = left_of_kept (concerns inside) disk.pending part.0 in
    (lost.0, λ name is. subst (λ (at : Option ℕ). IsImageOf disk at (image name)) (part_at inside disk part.0 lost.0 none lost.1 name is) (same_files disk (part_of inside disk) (names_at (part_of inside disk) part.0 name) (image name) refl (part.1 name is)))
  where
    same_files : (one other : Disk) (at : Option ℕ) (found : Option (List ℕ)) → other.files ≡ one.files → IsImageOf other at found → IsImageOf one at found
    same_files one other at found files here = image_same one other at at found refl (λ number leads. ap (λ (f : ℕ → File). f number) files) here

pub whole_leaves : (inside : Name → Bool) (disk : Disk) (image : Name → Option (List ℕ)) → NoneLinked inside disk.pending → IsImageAt inside disk image → IsImageAt inside (part_of inside disk) image
whole_leaves inside disk image none whole =
    let l = kept_of_left (concerns inside) disk.pending whole.0 in
    (l.0, λ name is. image_same (part_of inside disk) disk (names_at (part_of inside disk) l.0 name) (names_at disk whole.0 name) (image name) (sym (part_at inside disk l.0 whole.0 none l.1 name is)) (λ number leads. refl) (whole.1 name is))
