-- Each call hands no file from one side of a set to the other, where it renames on one side alone.
use Rattle.std.proofs.Common.{◌≡◌, ◌⊎◌, inl, inr, ℕ, zero, suc, Bool, cond, [], Some, None, refl, sym, ◌∙◌, ap}
use Rattle.std.specs.Str.{bytes_eq}
use Rattle.std.proofs.lemmas.Slice.Eq.{bytes_eq-Decides}
use Rattle.std.proofs.lemmas.Bool.{cases_Bool, cond-true, cond-false, true≢false}
use Rattle.vs_host.specs.File.{File}
use Rattle.vs_host.specs.Disk.{Disk, Name, Directory, Change, Creates, Renames, Removes, changed_names, names_of, names_at, ChangesFile, ChangesNames, CreatesFile, SyncsNames, IsFolder}
use Rattle.vs_disk.specs.Names.{IsApart}
use Rattle.vs_disk.proofs.Steps.{at_name, same_at, older_names, newest_names, settled, one_state}

none_some : (number : ℕ) (X : Type 0) → None ≡ Some number → X
none_some number X e = cc

some_same : (a b : ℕ) → Some a ≡ Some b → a ≡ b
some_same a b e = cc

-- a call on a file
pub hands_file : (name : Name) (step : File → File → Type 0) (old new : Disk) → ChangesFile name step old new → (part : Name → Bool) → IsApart part old → IsApart part new
hands_file name step old new changes part apart =
    let at = same_at name step old new changes in
    record { alone = λ lost one other number is not leads there. apart.alone lost one other number is not (sym (at lost one) ∙ leads) (sym (at 0 other) ∙ there) }

-- a change gives a name only files of names on its own side
abbrev pub Stays : (Name → Bool) → Change → Type 0
Stays part change = (names : Directory) (name : Name) (number : ℕ) → changed_names change names name ≡ Some number → (from : Name) × (part from ≡ part name) × (names from ≡ Some number)

pub stays_renamed : (part : Name → Bool) (from to : Name) → part from ≡ part to → Stays part (Renames from to)
stays_renamed part from to one_side names name number leads = elim (cases_Bool (bytes_eq to name)) [
  | inl same ↦ (
    from,
    one_side ∙ ap part ((bytes_eq-Decides to name).0 same),
    sym (cond-true (bytes_eq to name) (names from) (cond (bytes_eq from name) None (names name)) same) ∙ leads,
  )
  | inr other ↦
      let rest : cond (bytes_eq from name) None (names name) ≡ Some number = sym (cond-false (bytes_eq to name) (names from) (cond (bytes_eq from name) None (names name)) other) ∙ leads in
      elim (cases_Bool (bytes_eq from name)) [
        | inl gone ↦ none_some number _ (sym (cond-true (bytes_eq from name) None (names name) gone) ∙ rest)
        | inr stays ↦ (name, refl, sym (cond-false (bytes_eq from name) None (names name) stays) ∙ rest)
      ]
]

pub stays_removed : (part : Name → Bool) (gone : Name) → Stays part (Removes gone)
stays_removed part gone names name number leads = elim (cases_Bool (bytes_eq gone name)) [
  | inl same ↦ none_some number _ (sym (cond-true (bytes_eq gone name) None (names name) same) ∙ leads)
  | inr other ↦ (name, refl, sym (cond-false (bytes_eq gone name) None (names name) other) ∙ leads)
]

module _ (part : Name → Bool) (change : Change) (old new : Disk) (stays : Stays part change) (changes : ChangesNames change old new) where
  now_at : (name : Name) → names_of new name ≡ changed_names change (names_of old) name
  now_at name = at_name (names_of new) (changed_names change (names_of old)) name (newest_names change old new changes.synced changes.pending)

  was : (lost : ℕ) (name : Name) (number : ℕ) → names_at new lost name ≡ Some number → (l : ℕ) × (from : Name) × (part from ≡ part name) × (names_at old l from ≡ Some number)
  was zero name number leads =
      let had = stays (names_of old) name number (sym (now_at name) ∙ leads) in
      (0, had.0, had.1, had.2)
  was (suc l) name number leads = (l, name, refl, sym (at_name (names_at new (suc l)) (names_at old l) name (older_names change old new changes.synced changes.pending l)) ∙ leads)

  pub hands_names : IsApart part old → IsApart part new
  hands_names apart = record {
    alone = λ lost name other number is not leads there.
        let one = was lost name number leads in
        let two = stays (names_of old) other number (sym (now_at other) ∙ there) in
        apart.alone one.0 one.1 two.0 number (one.2 ∙ is) (two.1 ∙ not) one.3 two.2;
  }

-- a file that is made has a number to which no name led
module _ (part : Name → Bool) (made : Name) (old new : Disk) (creates : CreatesFile made old new) where
  made_at : (name : Name) → names_of new name ≡ cond (bytes_eq made name) (Some creates.number) (names_of old name)
  made_at name = at_name (names_of new) (changed_names (Creates made creates.number) (names_of old)) name (newest_names (Creates made creates.number) old new creates.synced creates.pending)

  -- a name leads where it led, or it is the new one
  led : (name : Name) (number : ℕ) → names_of new name ≡ Some number → (names_of old name ≡ Some number) ⊎ ((made ≡ name) × (number ≡ creates.number))
  led name number leads = elim (cases_Bool (bytes_eq made name)) [
    | inl same ↦ inr (
      (bytes_eq-Decides made name).0 same,
      some_same number creates.number (sym leads ∙ made_at name ∙ cond-true (bytes_eq made name) (Some creates.number) (names_of old name) same),
    )
    | inr other ↦ inl (sym (cond-false (bytes_eq made name) (Some creates.number) (names_of old name) other) ∙ sym (made_at name) ∙ leads)
  ]

  had : (lost : ℕ) (name : Name) (number : ℕ) → names_at new lost name ≡ Some number → ((l : ℕ) × (names_at old l name ≡ Some number)) ⊎ ((made ≡ name) × (number ≡ creates.number))
  had zero name number leads = elim (led name number leads) [
    | inl was ↦ inl (0, was)
    | inr own ↦ inr own
  ]
  had (suc l) name number leads = inl (l, sym (at_name (names_at new (suc l)) (names_at old l) name (older_names (Creates made creates.number) old new creates.synced creates.pending l)) ∙ leads)

  fresh_at : (l : ℕ) (name : Name) (number : ℕ) (X : Type 0) → number ≡ creates.number → names_at old l name ≡ Some number → X
  fresh_at l name number X is leads = absurd (creates.fresh l name (leads ∙ ap (λ (n : ℕ). Some n) is))

  pub hands_created : IsApart part old → IsApart part new
  hands_created apart = record {
    alone = λ lost name other number is not leads there. elim (had lost name number leads) [
      | inl one ↦ elim (led other number there) [
        | inl two ↦ apart.alone one.0 name other number is not one.1 two
        | inr own ↦ fresh_at one.0 name number ⊥ own.1 one.1
      ]
      | inr own ↦ elim (led other number there) [
        | inl two ↦ fresh_at 0 other number ⊥ own.1 two
        | inr other_own ↦ true≢false (sym is ∙ ap part (sym own.0 ∙ other_own.0) ∙ not)
      ]
    ];
  }

pub hands_synced : (part : Name → Bool) (old new : Disk) → SyncsNames old new → IsApart part old → IsApart part new
hands_synced part old new syncs apart = record {
  alone = λ lost name other number is not leads there.
      apart.alone 0 name other number is not (sym (settled old new syncs lost name) ∙ leads) (sym (settled old new syncs 0 other) ∙ there);
}

-- where nothing is pending, no name leads to a file of another one
pub apart_settled : (part : Name → Bool) (disk : Disk) → disk.pending ≡ [] → IsFolder disk → IsApart part disk
apart_settled part disk none folder = record {
  alone = λ lost name other number is not leads there.
      true≢false (sym is ∙ ap part (folder.apart 0 name other number (sym (one_state disk none lost name) ∙ leads) there) ∙ not);
}
