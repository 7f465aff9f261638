-- What calls on names outside of a set leave of the names inside: no file of theirs is reached, so each state of theirs is one from before.
use Rattle.std.proofs.Common.{◌≡◌, ◌≢◌, inl, inr, ℕ, zero, suc, nat_eq, Bool, true, false, cond, List, Option, Some, None, refl, sym, ◌∙◌, ap, subst}
use Rattle.std.specs.Str.{bytes_eq}
use Rattle.std.proofs.lemmas.Slice.Eq.{bytes_eq-Decides}
use Rattle.std.proofs.lemmas.Bool.{cases_Bool, cond-true, cond-false, eqb-true, true≢false}
use Rattle.vs_host.specs.File.{File, IsFileImage}
use Rattle.vs_host.specs.Disk.{Disk, Mode, Name, Directory, Change, Creates, Renames, Removes, changed_names, names_of, names_at, IsImageOf, ChangesFile, ChangesNames, CreatesFile, SyncsNames, like, modes_like}
use Rattle.vs_disk.specs.Names.{IsImageAt, SameAt, IsApart, Undivided}
use Rattle.vs_disk.proofs.Steps.{at_name, same_at, older_names, newest_names, settled}
use Rattle.vs_disk.proofs.Hands.{Stays, stays_renamed, stays_removed, hands_file, hands_names, hands_created, hands_synced}

pub same_none : (inside : Name → Bool) (disk : Disk) → SameAt inside disk disk
same_none inside disk = record { now = λ name is. refl; back = λ lost. (lost, λ name is. refl); files = λ lost name number is leads. refl; modes = λ lost name number is leads. refl; hands = λ part undivided apart. apart }

pub same_then : (inside : Name → Bool) (old mid new : Disk) → SameAt inside old mid → SameAt inside mid new → SameAt inside old new
same_then inside old mid new first second = record {
  now = λ name is. second.now name is ∙ first.now name is;
  back = λ lost. let at = second.back lost in let l = first.back at.0 in (l.0, λ name is. at.1 name is ∙ l.1 name is);
  files = λ lost name number is leads.
      let at = second.back lost in
      second.files lost name number is leads ∙ first.files at.0 name number is (sym (at.1 name is) ∙ leads);
  modes = λ lost name number is leads.
      let at = second.back lost in
      second.modes lost name number is leads ∙ first.modes at.0 name number is (sym (at.1 name is) ∙ leads);
  hands = λ part undivided apart. second.hands part undivided (first.hands part undivided apart);
}

pub image_same : (old new : Disk) (at_old at_new : Option ℕ) (found : Option (List ℕ)) → at_new ≡ at_old → ((number : ℕ) → at_new ≡ Some number → new.files number ≡ old.files number)
    → IsImageOf new at_new found → IsImageOf old at_old found
image_same old new at_old None found is files image = subst (λ (o : Option ℕ). IsImageOf old o found) is image
image_same old new at_old (Some number) found is files image =
    subst (λ (o : Option ℕ). IsImageOf old o found) is (image.0, image.1, subst (λ (f : File). IsFileImage f image.0) (files number refl) image.2)

-- so what holds of each image of the names inside goes on to hold
pub image_before : (inside : Name → Bool) (old new : Disk) → SameAt inside old new → (image : Name → Option (List ℕ)) → IsImageAt inside new image → IsImageAt inside old image
image_before inside old new same image part =
    let at = same.back part.0 in
    (at.0, λ name is. image_same old new (names_at old at.0 name) (names_at new part.0 name) (image name) (at.1 name is) (λ number leads. same.files part.0 name number is leads) (part.1 name is))

-- a call on a file of a name outside
pub file_outside : (inside : Name → Bool) (other : Name) (step : File → File → Type 0) (old new : Disk) → inside other ≡ false → IsApart inside old → ChangesFile other step old new
    → SameAt inside old new × IsApart inside new
file_outside inside other step old new out apart changes =
    let at = same_at other step old new changes in (
      record {
        now = λ name is. at 0 name;
        back = λ lost. (lost, λ name is. at lost name);
        files = λ lost name number is leads. changes.others number (λ there. apart.alone lost name other number is out (sym (at lost name) ∙ leads) there);
        modes = λ lost name number is leads. ap (λ (f : ℕ → Mode). f number) changes.modes;
        hands = λ part undivided. hands_file other step old new changes part;
      },
      record { alone = λ lost name some number is not leads there. apart.alone lost name some number is not (sym (at lost name) ∙ leads) (sym (at 0 some) ∙ there) },
    )

-- a file of a name outside that takes the mode of another one
pub mode_others : (model at : Option ℕ) (modes : ℕ → Mode) (number : ℕ) → at ≢ Some number → modes_like model at modes number ≡ modes number
mode_others None at modes number other = refl
mode_others (Some model) None modes number other = refl
mode_others (Some model) (Some at) modes number other = elim (cases_Bool (nat_eq number at)) [
  | inl same ↦ absurd (other (ap (λ (n : ℕ). Some n) (sym (eqb-true number at same))))
  | inr differ ↦ cond-false (nat_eq number at) (modes model) (modes number) differ
]

pub like_outside : (inside : Name → Bool) (model other : Name) (old : Disk) → inside other ≡ false → IsApart inside old → SameAt inside old (like model other old)
like_outside inside model other old out apart = record {
  now = λ name is. refl;
  back = λ lost. (lost, λ name is. refl);
  files = λ lost name number is leads. refl;
  modes = λ lost name number is leads. mode_others (names_of old model) (names_of old other) old.modes number (apart.alone lost name other number is out leads);
  hands = λ part undivided apart. record { alone = apart.alone };
}

pub apart_text : (inside : Name → Bool) (a b : Name) → inside a ≡ false → inside b ≡ true → bytes_eq a b ≡ false
apart_text inside a b out is = elim (cases_Bool (bytes_eq a b)) [
  | inl same ↦ absurd (true≢false (sym is ∙ ap inside (sym ((bytes_eq-Decides a b).0 same)) ∙ out))
  | inr not ↦ not
]

-- a change that leaves the names inside, and gives the names outside files that they had
pub record IsOutside (inside : Name → Bool) (change : Change) : Type 0 where
  pub leaves : (names : Directory) (name : Name) → inside name ≡ true → changed_names change names name ≡ names name
  pub gives : (names : Directory) (name : Name) (number : ℕ) → inside name ≡ false → changed_names change names name ≡ Some number
      → (from : Name) × (inside from ≡ false) × (names from ≡ Some number)
  pub stays : (part : Name → Bool) → Undivided inside part → Stays part change

none_some : (number : ℕ) (X : Type 0) → None ≡ Some number → X
none_some number X e = cc

pub rename_outside : (inside : Name → Bool) (from to : Name) → inside from ≡ false → inside to ≡ false → IsOutside inside (Renames from to)
rename_outside inside from to out_from out_to = record {
  leaves = λ names name is.
      cond-false (bytes_eq to name) (names from) (cond (bytes_eq from name) None (names name)) (apart_text inside to name out_to is)
      ∙ cond-false (bytes_eq from name) None (names name) (apart_text inside from name out_from is);
  gives = λ names name number out leads. elim (cases_Bool (bytes_eq to name)) [
    | inl same ↦ (from, out_from, sym (cond-true (bytes_eq to name) (names from) (cond (bytes_eq from name) None (names name)) same) ∙ leads)
    | inr other ↦
        let rest : cond (bytes_eq from name) None (names name) ≡ Some number = sym (cond-false (bytes_eq to name) (names from) (cond (bytes_eq from name) None (names name)) other) ∙ leads in
        elim (cases_Bool (bytes_eq from name)) [
          | inl gone ↦ none_some number _ (sym (cond-true (bytes_eq from name) None (names name) gone) ∙ rest)
          | inr stays ↦ (name, out, sym (cond-false (bytes_eq from name) None (names name) stays) ∙ rest)
        ]
  ];
  stays = λ part undivided. stays_renamed part from to (undivided from to out_from out_to);
}

pub remove_outside : (inside : Name → Bool) (gone : Name) → inside gone ≡ false → IsOutside inside (Removes gone)
remove_outside inside gone out_gone = record {
  leaves = λ names name is. cond-false (bytes_eq gone name) None (names name) (apart_text inside gone name out_gone is);
  gives = λ names name number out leads. elim (cases_Bool (bytes_eq gone name)) [
    | inl same ↦ none_some number _ (sym (cond-true (bytes_eq gone name) None (names name) same) ∙ leads)
    | inr other ↦ (name, out, sym (cond-false (bytes_eq gone name) None (names name) other) ∙ leads)
  ];
  stays = λ part undivided. stays_removed part gone;
}

-- a change of names outside
module _ (inside : Name → Bool) (change : Change) (old new : Disk) (out : IsOutside inside change) (apart : IsApart inside old) (changes : ChangesNames change old new) where
  now_at : (name : Name) → names_of new name ≡ changed_names change (names_of old) name
  now_at name = at_name (names_of new) (changed_names change (names_of old)) name (newest_names change old new changes.synced changes.pending)

  was : (lost : ℕ) → (l : ℕ) × ((name : Name) → inside name ≡ true → names_at new lost name ≡ names_at old l name)
  was zero = (0, λ name is. now_at name ∙ out.leaves (names_of old) name is)
  was (suc l) = (l, λ name is. at_name (names_at new (suc l)) (names_at old l) name (older_names change old new changes.synced changes.pending l))

  pub names_outside : SameAt inside old new × IsApart inside new
  names_outside = (
    record {
      now = λ name is. now_at name ∙ out.leaves (names_of old) name is;
      back = was;
      files = λ lost name number is leads. ap (λ (f : ℕ → File). f number) changes.files;
      modes = λ lost name number is leads. ap (λ (f : ℕ → Mode). f number) changes.modes;
      hands = λ part undivided. hands_names part change old new (out.stays part undivided) changes;
    },
    record {
      alone = λ lost name other number is not leads there.
          let at = was lost in
          let had = out.gives (names_of old) other number not (sym (now_at other) ∙ there) in
          apart.alone at.0 name had.0 number is had.1 (sym (at.1 name is) ∙ leads) had.2;
    },
  )

-- a file that is made outside
module _ (inside : Name → Bool) (made : Name) (old new : Disk) (out : inside made ≡ false) (apart : IsApart inside old) (creates : CreatesFile made old new) where
  left : (name : Name) → inside name ≡ true → names_of new name ≡ names_of old name
  left name is =
      at_name (names_of new) (changed_names (Creates made creates.number) (names_of old)) name (newest_names (Creates made creates.number) old new creates.synced creates.pending)
      ∙ cond-false (bytes_eq made name) (Some creates.number) (names_of old name) (apart_text inside made name out is)

  were : (lost : ℕ) → (l : ℕ) × ((name : Name) → inside name ≡ true → names_at new lost name ≡ names_at old l name)
  were zero = (0, left)
  were (suc l) = (l, λ name is. at_name (names_at new (suc l)) (names_at old l) name (older_names (Creates made creates.number) old new creates.synced creates.pending l))

  not_made : (lost : ℕ) (name : Name) (number : ℕ) → inside name ≡ true → names_at new lost name ≡ Some number → number ≢ creates.number
  not_made lost name number is leads same =
      let at = were lost in
      creates.fresh at.0 name (sym (at.1 name is) ∙ leads ∙ ap (λ (n : ℕ). Some n) same)

  some_same : (a b : ℕ) → Some a ≡ Some b → a ≡ b
  some_same a b e = cc

  -- where a name outside leads
  led : (other : Name) (number : ℕ) → number ≢ creates.number → names_of new other ≡ Some number → names_of old other ≡ Some number
  led other number not leads =
      let now : cond (bytes_eq made other) (Some creates.number) (names_of old other) ≡ Some number =
      sym (at_name (names_of new) (changed_names (Creates made creates.number) (names_of old)) other (newest_names (Creates made creates.number) old new creates.synced creates.pending)) ∙ leads in
      elim (cases_Bool (bytes_eq made other)) [
        | inl same ↦ absurd (not (some_same number creates.number (sym now ∙ cond-true (bytes_eq made other) (Some creates.number) (names_of old other) same)))
        | inr differ ↦ sym (cond-false (bytes_eq made other) (Some creates.number) (names_of old other) differ) ∙ now
      ]

  pub create_outside : SameAt inside old new × IsApart inside new
  create_outside = (
    record {
      now = left;
      back = were;
      files = λ lost name number is leads. creates.others number (not_made lost name number is leads);
      modes = λ lost name number is leads. creates.modes number (not_made lost name number is leads);
      hands = λ part undivided. hands_created part made old new creates;
    },
    record {
      alone = λ lost name other number is not leads there.
          let at = were lost in
          apart.alone at.0 name other number is not (sym (at.1 name is) ∙ leads) (led other number (not_made lost name number is leads) there);
    },
  )

-- a sync of the names
pub sync_outside : (inside : Name → Bool) (old new : Disk) → IsApart inside old → SyncsNames old new → SameAt inside old new × IsApart inside new
sync_outside inside old new apart syncs = (
  record {
    now = λ name is. settled old new syncs 0 name;
    back = λ lost. (0, λ name is. settled old new syncs lost name);
    files = λ lost name number is leads. ap (λ (f : ℕ → File). f number) syncs.files;
    modes = λ lost name number is leads. ap (λ (f : ℕ → Mode). f number) syncs.modes;
    hands = λ part undivided. hands_synced part old new syncs;
  },
  record {
    alone = λ lost name other number is not leads there.
        apart.alone 0 name other number is not (sym (settled old new syncs lost name) ∙ leads) (sym (settled old new syncs 0 other) ∙ there);
  },
)
