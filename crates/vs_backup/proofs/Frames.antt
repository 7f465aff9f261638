-- Each call leaves alone the names that it does not name: the names of files are changed for these alone, and no other name leads
-- to a file that is written.
use Rattle.std.proofs.Common.{◌≡◌, ◌⊎◌, inl, inr, ℕ, zero, suc, Bool, true, false, cond, List, [], Option, Some, None, IfOk, OnOk, OnErr, Result, Ok, Err, refl, sym, ◌∙◌, ap, subst}
use Rattle.std.specs.Str.{bytes_eq}
use Rattle.std.proofs.lemmas.Slice.Eq.{bytes_eq-Decides}
use Rattle.std.proofs.lemmas.Bool.Decides.{eqb_tells}
use Rattle.std.proofs.lemmas.Bool.{cond-true, cond-false}
use Rattle.vs_host.specs.File.{File, IsFileImage, Syncs}
use Rattle.vs_host.specs.Disk.{Disk, Mode, Name, Directory, Change, Creates, Renames, Removes, changed_names, names_of, names_at, read_under, content_in, IsImageOf, ChangesFile, ChangesNames, CreatesFile, SyncsNames, IsFolder}
use Rattle.vs_disk.specs.Images.{Holds, IsSynced, Narrows, MayLeave, Takes}
use Rattle.vs_disk.specs.Names.{SameAt, Undivided}
use Rattle.vs_disk.proofs.Hands.{Stays, stays_renamed, stays_removed, hands_file, hands_names, hands_created, hands_synced}
use Rattle.vs_disk.proofs.Steps.{at_name, differ, itself, same_at, same_names, older_names, newest_names, settled, one_state}
use Rattle.vs_disk.proofs.Images.{sync_narrows}
use Rattle.vs_disk.proofs.Others.{same_none, same_then, image_same}
use Rattle.vs_disk.proofs.Contents.{leads_to, leads_nowhere}
use Rattle.vs_backup.specs.Writing.{IsSettled}
use Rattle.vs_backup.specs.Works.{ChangesOne, IsOutside, IsAlone, Narrowed, Spares, one_name, two_names}

-- ---- the step of all calls
pub spares_none : (on : Name → Type 0) (disk : Disk) → Spares on disk disk
spares_none on disk = λ inside out. same_none inside disk

pub spares_same : (on : Name → Type 0) (old new : Disk) → new ≡ old → Spares on old new
spares_same on old new is = subst (λ (d : Disk). Spares on old d) (sym is) (spares_none on old)

pub spares_then : (on : Name → Type 0) (old mid new : Disk) → Spares on old mid → Spares on mid new → Spares on old new
spares_then on old mid new first second = λ inside out. same_then inside old mid new (first inside out) (second inside out)

pub spares_wider : (on wide : Name → Type 0) (old new : Disk) → ((name : Name) → on name → wide name) → Spares on old new → Spares wide old new
spares_wider on wide old new leads spares = λ inside out. spares inside (λ name is here. out name is (leads name here))

pub not_same : (a b : Name) → (b ≡ a → ⊥) → bytes_eq a b ≡ false
not_same a b other = differ a b (λ same. other (sym same))

is_out : (inside : Bool) → (inside ≡ true → ⊥) → inside ≡ false
is_out false not = refl
is_out true not = absurd (not refl)

some_number : (a b : ℕ) → Some a ≡ Some b → a ≡ b
some_number a b e = cc

-- ---- each call
pub spares_file : (name : Name) (step : File → File → Type 0) (old new : Disk) → IsAlone name old → ChangesFile name step old new → Spares (one_name name) old new
spares_file name step old new alone changes = λ inside out.
    let at = same_at name step old new changes in
    record {
      now = λ other is. at 0 other;
      back = λ lost. (lost, λ other is. at lost other);
      files = λ lost other number is leads. changes.others number (λ there.
          alone.alone lost other (λ same. out other is same) (sym (at lost other) ∙ leads ∙ ap (λ (n : ℕ). Some n) (some_number number alone.number (sym there ∙ alone.leads))));
      modes = λ lost other number is leads. ap (λ (f : ℕ → Mode). f number) changes.modes;
      hands = λ part undivided. hands_file name step old new changes part;
    }

-- calls on one file, which may have changed its mode
pub same_one : (name : Name) (old new : Disk) → ChangesOne name old new → (lost : ℕ) (other : Name) → names_at new lost other ≡ names_at old lost other
same_one name old new changes lost other = at_name (names_at new lost) (names_at old lost) other (same_names old new changes.synced changes.pending lost)

pub spares_one : (name : Name) (old new : Disk) → IsAlone name old → ChangesOne name old new → Spares (one_name name) old new
spares_one name old new alone changes = λ inside out. record {
  now = λ other is. at 0 other;
  back = λ lost. (lost, λ other is. at lost other);
  files = λ lost other number is leads. changes.others number (not_this lost other number (λ same. out other is same) leads);
  modes = λ lost other number is leads. changes.modes number (not_this lost other number (λ same. out other is same) leads);
  hands = λ part undivided apart. record {
    alone = λ lost one other number is not leads there. apart.alone lost one other number is not (sym (at lost one) ∙ leads) (sym (at 0 other) ∙ there);
  };
}
  where
    at : (lost : ℕ) (other : Name) → names_at new lost other ≡ names_at old lost other
    at lost other = same_one name old new changes lost other

    not_this : (lost : ℕ) (other : Name) (number : ℕ) → (other ≡ name → ⊥) → names_at new lost other ≡ Some number → names_of old name ≡ Some number → ⊥
    not_this lost other number differs leads there =
        alone.alone lost other differs (sym (at lost other) ∙ leads ∙ ap (λ (n : ℕ). Some n) (some_number number alone.number (sym there ∙ alone.leads)))

-- a change of names that leaves those inside
module _ (on : Name → Type 0) (change : Change) (old new : Disk) (changes : ChangesNames change old new)
    (leaves : (names : Directory) (name : Name) → (on name → ⊥) → changed_names change names name ≡ names name)
    (stays : (inside : Name → Bool) → IsOutside on inside → (part : Name → Bool) → Undivided inside part → Stays part change) where
  pub spares_names : Spares on old new
  spares_names = λ inside out. record {
    now = λ name is. now name (out name is);
    back = back inside out;
    files = λ lost name number is leads. ap (λ (f : ℕ → File). f number) changes.files;
    modes = λ lost name number is leads. ap (λ (f : ℕ → Mode). f number) changes.modes;
    hands = λ part undivided. hands_names part change old new (stays inside out part undivided) changes;
  }
    where
      now : (name : Name) → (on name → ⊥) → names_of new name ≡ names_of old name
      now name other = at_name (names_of new) (changed_names change (names_of old)) name (newest_names change old new changes.synced changes.pending) ∙ leaves (names_of old) name other

      back : (inside : Name → Bool) → IsOutside on inside → (lost : ℕ) → (l : ℕ) × ((name : Name) → inside name ≡ true → names_at new lost name ≡ names_at old l name)
      back inside out zero = (0, λ name is. now name (out name is))
      back inside out (suc l) = (l, λ name is. at_name (names_at new (suc l)) (names_at old l) name (older_names change old new changes.synced changes.pending l))

pub spares_removed : (gone : Name) (old new : Disk) → ChangesNames (Removes gone) old new → Spares (one_name gone) old new
spares_removed gone old new changes = spares_names (one_name gone) (Removes gone) old new changes
    (λ names name other. cond-false (bytes_eq gone name) None (names name) (not_same gone name other))
    (λ inside out part undivided. stays_removed part gone)

pub spares_renamed : (from to : Name) (old new : Disk) → ChangesNames (Renames from to) old new → Spares (two_names from to) old new
spares_renamed from to old new changes = spares_names (two_names from to) (Renames from to) old new changes
    (λ names name other.
    cond-false (bytes_eq to name) (names from) (cond (bytes_eq from name) None (names name)) (not_same to name (λ e. other (inr e)))
    ∙ cond-false (bytes_eq from name) None (names name) (not_same from name (λ e. other (inl e))))
    (λ inside out part undivided. stays_renamed part from to (undivided from to (is_out (inside from) (λ is. out from is (inl refl))) (is_out (inside to) (λ is. out to is (inr refl)))))

module _ (made : Name) (old new : Disk) (creates : CreatesFile made old new) where
  left : (name : Name) → (name ≡ made → ⊥) → names_of new name ≡ names_of old name
  left name other =
      at_name (names_of new) (changed_names (Creates made creates.number) (names_of old)) name (newest_names (Creates made creates.number) old new creates.synced creates.pending)
      ∙ cond-false (bytes_eq made name) (Some creates.number) (names_of old name) (not_same made name other)

  before : (lost : ℕ) (name : Name) → names_at new (suc lost) name ≡ names_at old lost name
  before lost name = at_name (names_at new (suc lost)) (names_at old lost) name (older_names (Creates made creates.number) old new creates.synced creates.pending lost)

  not_made : (lost : ℕ) (name : Name) → (name ≡ made → ⊥) → names_at new lost name ≡ Some creates.number → ⊥
  not_made zero name other leads = creates.fresh 0 name (sym (left name other) ∙ leads)
  not_made (suc lost) name other leads = creates.fresh lost name (sym (before lost name) ∙ leads)

  were : (inside : Name → Bool) → IsOutside (one_name made) inside → (lost : ℕ) → (l : ℕ) × ((name : Name) → inside name ≡ true → names_at new lost name ≡ names_at old l name)
  were inside out zero = (0, λ name is. left name (out name is))
  were inside out (suc l) = (l, λ name is. before l name)

  pub spares_created : Spares (one_name made) old new
  spares_created = λ inside out. record {
    now = λ name is. left name (out name is);
    back = were inside out;
    files = λ lost name number is leads. creates.others number (λ same. not_made lost name (out name is) (leads ∙ ap (λ (n : ℕ). Some n) same));
    modes = λ lost name number is leads. creates.modes number (λ same. not_made lost name (out name is) (leads ∙ ap (λ (n : ℕ). Some n) same));
    hands = λ part undivided. hands_created part made old new creates;
  }

  pub created_leads : names_of new made ≡ Some creates.number
  created_leads =
      at_name (names_of new) (changed_names (Creates made creates.number) (names_of old)) made (newest_names (Creates made creates.number) old new creates.synced creates.pending)
      ∙ cond-true (bytes_eq made made) (Some creates.number) (names_of old made) (itself made)

  pub alone_created : IsAlone made new
  alone_created = record { number = creates.number; leads = created_leads; alone = λ lost other differ leads. not_made lost other differ leads }

pub spares_synced : (on : Name → Type 0) (old new : Disk) → SyncsNames old new → Spares on old new
spares_synced on old new syncs = λ inside out. record {
  now = λ name is. settled old new syncs 0 name;
  back = λ lost. (0, λ name is. settled old new syncs lost name);
  files = λ lost name number is leads. ap (λ (f : ℕ → File). f number) syncs.files;
  modes = λ lost name number is leads. ap (λ (f : ℕ → Mode). f number) syncs.modes;
  hands = λ part undivided. hands_synced part old new syncs;
}

-- ---- a file that no other name leads to
pub alone_settled : (name : Name) (number : ℕ) (disk : Disk) → disk.pending ≡ [] → IsFolder disk → names_of disk name ≡ Some number → IsAlone name disk
alone_settled name number disk none folder leads = record {
  number = number;
  leads = leads;
  alone = λ lost other differ there. differ (folder.apart 0 other name number (sym (one_state disk none lost other) ∙ there) leads);
}

pub alone_file : (name : Name) (step : File → File → Type 0) (old new : Disk) → ChangesFile name step old new → IsAlone name old → IsAlone name new
alone_file name step old new changes alone = record {
  number = alone.number;
  leads = same_at name step old new changes 0 name ∙ alone.leads;
  alone = λ lost other differ there. alone.alone lost other differ (sym (same_at name step old new changes lost other) ∙ there);
}

pub alone_one : (name : Name) (old new : Disk) → ChangesOne name old new → IsAlone name old → IsAlone name new
alone_one name old new changes alone = record {
  number = alone.number;
  leads = same_one name old new changes 0 name ∙ alone.leads;
  alone = λ lost other differ there. alone.alone lost other differ (sym (same_one name old new changes lost other) ∙ there);
}

-- ---- what is known of a name that is left alone
abbrev pub single : Name → Name → Bool
single a name = bytes_eq a name

pub outside_one : (on : Name → Type 0) (a : Name) → (on a → ⊥) → IsOutside on (single a)
outside_one on a not = λ name is here. not (subst on (sym ((bytes_eq-Decides a name).0 is)) here)

pub spared : (on : Name → Type 0) (name : Name) (old new : Disk) → (on name → ⊥) → Spares on old new → SameAt (single name) old new
spared on name old new not spares = spares (single name) (outside_one on name not)

pub holds_spared : (on : Name → Type 0) (name : Name) (P : List ℕ → Type 0) (old new : Disk) → (on name → ⊥) → Spares on old new → Holds name P old → Holds name P new
holds_spared on name P old new not spares holds lost =
    let same = spared on name old new not spares in
    let at = same.back lost in
    let was = holds at.0 in
    let leads : names_at new lost name ≡ Some was.number = at.1 name (itself name) ∙ was.leads in
    record {
      number = was.number;
      leads = leads;
      leaves = λ c image. was.leaves c (subst (λ (f : File). IsFileImage f c) (same.files lost name was.number (itself name) leads) image);
    }

pub content_spared : (on : Name → Type 0) (name : Name) (old new : Disk) → (on name → ⊥) → Spares on old new → content_in new name ≡ content_in old name
content_spared on name old new not spares =
    let same = spared on name old new not spares in
    ap (λ (at : Option ℕ). read_under new at) (same.now name (itself name)) ∙ read_same same (names_of old name) refl
  where
    read_same : SameAt (single name) old new → (at : Option ℕ) → at ≡ names_of old name → read_under new at ≡ read_under old at
    read_same same None is = refl
    read_same same (Some number) is = ap (λ (f : File). Some f.bytes) (same.files 0 name number (itself name) (same.now name (itself name) ∙ sym is))

pub synced_spared : (on : Name → Type 0) (name : Name) (bytes : List ℕ) (old new : Disk) → (on name → ⊥) → Spares on old new → IsSynced name bytes old → IsSynced name bytes new
synced_spared on name bytes old new not spares synced =
    let same = spared on name old new not spares in
    let leads = same.now name (itself name) ∙ synced.leads in
    record { number = synced.number; leads = leads; has = same.files 0 name synced.number (itself name) leads ∙ synced.has }

pub leaves_spared : (on : Name → Type 0) (name : Name) (found : Option (List ℕ)) (old new : Disk) → (on name → ⊥) → Spares on old new → MayLeave new name found → MayLeave old name found
leaves_spared on name found old new not spares leaves =
    let same = spared on name old new not spares in
    let at = same.back leaves.0 in
    (at.0, image_same old new (names_at old at.0 name) (names_at new leaves.0 name) found (at.1 name (itself name)) (λ number leads. same.files leaves.0 name number (itself name) leads) leaves.1)

pub takes_spared : (on : Name → Type 0) (name : Name) (bytes : List ℕ) (old new : Disk) → (on name → ⊥) → Spares on old new → Takes name bytes old new
takes_spared on name bytes old new not spares found leaves = inr (leaves_spared on name found old new not spares leaves)

-- ---- the two syncs at the beginning
pub narrowed_none : (old new : Disk) → new ≡ old → Narrowed old new
narrowed_none old new is = subst (λ (d : Disk). Narrowed old d) (sym is) (record {
  now = λ name. refl;
  back = λ lost. (lost, λ name. refl);
  files = λ number. record { bytes = refl; images = λ c image. image };
  modes = refl;
})

pub narrowed_then : (old mid new : Disk) → Narrowed old mid → Narrowed mid new → Narrowed old new
narrowed_then old mid new first second = record {
  now = λ name. second.now name ∙ first.now name;
  back = λ lost. let at = second.back lost in let l = first.back at.0 in (l.0, λ name. at.1 name ∙ l.1 name);
  files = λ number. record {
    bytes = (second.files number).bytes ∙ (first.files number).bytes;
    images = λ c image. (first.files number).images c ((second.files number).images c image);
  };
  modes = second.modes ∙ first.modes;
}

pub some_or_none : (at : Option ℕ) (number : ℕ) → (at ≡ Some number) ⊎ (at ≡ Some number → ⊥)
some_or_none None number = inr (λ e. cc)
some_or_none (Some other) number = elim (eqb_tells other number) [
  | inl same ↦ inl (ap (λ (n : ℕ). Some n) same.1)
  | inr differ ↦ inr (λ e. let is : other ≡ number = cc in differ.1 is)
]

pub narrowed_file : (name : Name) (old new : Disk) → ChangesFile name Syncs old new → Narrowed old new
narrowed_file name old new changes = record {
  now = λ other. same_at name Syncs old new changes 0 other;
  back = λ lost. (lost, λ other. same_at name Syncs old new changes lost other);
  files = λ number. elim (some_or_none (names_of old name) number) [
    | inl this ↦ sync_narrows (old.files number) (new.files number) (changes.this number this)
    | inr not ↦ subst (λ (f : File). Narrows (old.files number) f) (sym (changes.others number not)) (record { bytes = refl; images = λ c image. image })
  ];
  modes = changes.modes;
}

pub narrowed_names : (old new : Disk) → SyncsNames old new → Narrowed old new
narrowed_names old new syncs = record {
  now = λ name. settled old new syncs 0 name;
  back = λ lost. (0, λ name. settled old new syncs lost name);
  files = λ number. subst (λ (f : File). Narrows (old.files number) f) (sym (ap (λ (f : ℕ → File). f number) syncs.files)) (record { bytes = refl; images = λ c image. image });
  modes = syncs.modes;
}

-- ---- what follows from either answer of a call
pub either : {T E : Type 0} (A B P : Type 0) (result : Result T E) → OnOk result A → OnErr result B → (A → P) → (B → P) → P
either A B P (Ok v) ok err is other = is ok
either A B P (Err e) ok err is other = other err

pub ok_leads : {T E : Type 0} (A B : Type 0) (result : Result T E) → (A → B) → OnOk result A → OnOk result B
ok_leads A B (Ok v) leads is = leads is
ok_leads A B (Err e) leads is = tt

pub ok_both : {T E : Type 0} (result : Result T E) (A B C : Type 0) → (A → B → C) → OnOk result A → OnOk result B → OnOk result C
ok_both (Ok v) A B C leads first second = leads first second
ok_both (Err e) A B C leads first second = tt

pub err_leads : {T E : Type 0} (A B : Type 0) (result : Result T E) → (A → B) → OnErr result A → OnErr result B
err_leads A B (Ok v) leads is = tt
err_leads A B (Err e) leads is = leads is

pub err_is : {T E : Type 0} (A : Type 0) (result : Result T E) → A → OnErr result A
err_is A (Ok v) a = tt
err_is A (Err e) a = a

pub takes_same : (name : Name) (bytes : List ℕ) (old new : Disk) → new ≡ old → Takes name bytes old new
takes_same name bytes old new is = subst (λ (d : Disk). Takes name bytes old d) (sym is) (λ found leaves. inr leaves)

-- a file that was synced, after a sync of the names
pub settled_now : (name : Name) (bytes : List ℕ) (old new : Disk) → IsSynced name bytes old → SyncsNames old new → IsSettled name bytes new
settled_now name bytes old new synced syncs = record {
  pending = syncs.pending;
  synced = record {
    number = synced.number;
    leads = settled old new syncs 0 name ∙ synced.leads;
    has = ap (λ (f : ℕ → File). f synced.number) syncs.files ∙ synced.has;
  };
}

pub synced_renamed : (from to : Name) (bytes : List ℕ) (old new : Disk) → IsSynced from bytes old → ChangesNames (Renames from to) old new → IsSynced to bytes new
synced_renamed from to bytes old new synced renames = record {
  number = synced.number;
  leads = leads_to from to synced.number old new synced.leads renames;
  has = ap (λ (f : ℕ → File). f synced.number) renames.files ∙ synced.has;
}

-- a name without a file now
pub absent_now : (name : Name) (disk : Disk) → content_in disk name ≡ None → MayLeave disk name None
absent_now name disk none = (0, subst (λ (at : Option ℕ). IsImageOf disk at None) (sym (leads_nowhere disk name none)) refl)

-- what a call says that is handed on, with what is known
pub ok_with : {T E : Type 0} (result : Result T E) (A B : T → Type 0) → ((v : T) → A v → B v) → IfOk result A → IfOk result B
ok_with (Ok v) A B leads is = leads v is
ok_with (Err e) A B leads is = tt

pub err_with : {T E : Type 0} (result : Result T E) (A B : Type 0) → (A → B) → OnErr result A → OnErr result B
err_with (Ok v) A B leads is = tt
err_with (Err e) A B leads is = leads is
