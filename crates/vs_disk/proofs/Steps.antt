-- How a change of one file goes on, and what each call leaves of the names.
use Rattle.std.proofs.Common.{◌≡◌, ◌≢◌, inl, inr, ℕ, zero, suc, true, false, [], ◌∷◌, drop, Some, None, refl, sym, ◌∙◌, ap, subst}
use Rattle.std.proofs.lemmas.Bool.{cases_Bool, cond-true}
use Rattle.std.proofs.lemmas.Slice.Eq.{bytes_eq-Decides}
use Rattle.std.specs.Str.{bytes_eq}
use Rattle.vs_host.specs.File.{File}
use Rattle.vs_host.specs.Disk.{Disk, Name, Directory, Change, Removes, changed_names, after_changes, names_of, names_at, ChangesFile, ChangesNames, SyncsNames}
use Rattle.vs_disk.specs.Images.{FileHas, FileAlways}

pub differ : (a b : Name) → a ≢ b → bytes_eq a b ≡ false
differ a b other = elim (cases_Bool (bytes_eq a b)) [
  | inl same ↦ absurd (other ((bytes_eq-Decides a b).0 same))
  | inr not ↦ not
]

pub itself : (a : Name) → bytes_eq a a ≡ true
itself a = (bytes_eq-Decides a a).1 refl

pub at_name : (names others : Directory) (name : Name) → names ≡ others → names name ≡ others name
at_name names others name same = ap (λ (f : Directory). f name) same

-- the names after a change
pub older_names : (change : Change) (old new : Disk) → new.synced ≡ old.synced → new.pending ≡ change ∷ old.pending → (lost : ℕ) → names_at new (suc lost) ≡ names_at old lost
older_names change old new synced pending lost = λ i. after_changes (drop (suc lost) (pending i)) (synced i)

pub newest_names : (change : Change) (old new : Disk) → new.synced ≡ old.synced → new.pending ≡ change ∷ old.pending → names_of new ≡ changed_names change (names_of old)
newest_names change old new synced pending = λ i. after_changes (pending i) (synced i)

-- a call on a file leaves the names
pub same_names : (old new : Disk) → new.synced ≡ old.synced → new.pending ≡ old.pending → (lost : ℕ) → names_at new lost ≡ names_at old lost
same_names old new synced pending lost = λ i. after_changes (drop lost (pending i)) (synced i)

pub same_at : (name : Name) (step : File → File → Type 0) (old new : Disk) → ChangesFile name step old new → (lost : ℕ) (other : Name) → names_at new lost other ≡ names_at old lost other
same_at name step old new changes lost other = at_name (names_at new lost) (names_at old lost) other (same_names old new changes.synced changes.pending lost)

-- after a sync of the names there is one state of them
none_left : (lost : ℕ) (names : Directory) → after_changes (drop lost []) names ≡ names
none_left zero names = refl
none_left (suc lost) names = refl

pub settled : (old new : Disk) → SyncsNames old new → (lost : ℕ) (name : Name) → names_at new lost name ≡ names_of old name
settled old new syncs lost name = at_name (names_at new lost) (names_of old) name ((λ i. after_changes (drop lost (syncs.pending i)) (syncs.synced i)) ∙ none_left lost (names_of old))

-- where nothing is pending there is one state of the names
pub one_state : (disk : Disk) → disk.pending ≡ [] → (lost : ℕ) (name : Name) → names_at disk lost name ≡ names_of disk name
one_state disk none lost name = at_name (names_at disk lost) (names_of disk) name
    ((λ i. after_changes (drop lost (none i)) disk.synced) ∙ none_left lost disk.synced ∙ sym (λ i. after_changes (none i) disk.synced))

-- after the name was taken away and the names were synced
pub gone_for_good : (one : Name) (old mid new : Disk) → ChangesNames (Removes one) old mid → SyncsNames mid new → (lost : ℕ) → names_at new lost one ≡ None
gone_for_good one old mid new removes syncs lost =
    settled mid new syncs lost one
    ∙ at_name (names_of mid) (changed_names (Removes one) (names_of old)) one (newest_names (Removes one) old mid removes.synced removes.pending)
    ∙ cond-true (bytes_eq one one) None (names_of old one) (itself one)

-- ---- steps of one file
pub same_file : (name : Name) (step : File → File → Type 0) → ((a : File) → step a a) → (old : Disk) → ChangesFile name step old old
same_file name step same old = record { synced = refl; pending = refl; modes = refl; others = λ number other. refl; this = λ number is. same (old.files number) }

pub file_then : (name : Name) (S T U : File → File → Type 0) → ((a b c : File) → S a b → T b c → U a c) → (old mid new : Disk) → ChangesFile name S old mid → ChangesFile name T mid new → ChangesFile name U old new
file_then name S T U joins old mid new first second =
    let now : names_of mid name ≡ names_of old name = same_at name S old mid first 0 name in
    record {
      synced = second.synced ∙ first.synced;
      pending = second.pending ∙ first.pending;
      modes = second.modes ∙ first.modes;
      others = λ number other. second.others number (λ is. other (sym now ∙ is)) ∙ first.others number other;
      this = λ number is. joins (old.files number) (mid.files number) (new.files number) (first.this number is) (second.this number (now ∙ is));
    }

pub file_as : (name : Name) (S T : File → File → Type 0) → ((a b : File) → S a b → T a b) → (old new : Disk) → ChangesFile name S old new → ChangesFile name T old new
file_as name S T leads old new changes = record {
  synced = changes.synced;
  pending = changes.pending;
  modes = changes.modes;
  others = changes.others;
  this = λ number is. leads (old.files number) (new.files number) (changes.this number is);
}

-- the file after a call, by the file before it
pub file_after : (name : Name) (step : File → File → Type 0) (P Q : File → Type 0) → ((a b : File) → P a → step a b → Q b) → (old new : Disk) → FileHas old name P → ChangesFile name step old new → FileHas new name Q
file_after name step P Q leads old new has changes = record {
  number = has.number;
  leads = same_at name step old new changes 0 name ∙ has.leads;
  has = leads (old.files has.number) (new.files has.number) has.has (changes.this has.number has.leads);
}

pub always_after : (name : Name) (number : ℕ) (step : File → File → Type 0) (P Q : File → Type 0) → ((a b : File) → P a → step a b → Q b) → (old new : Disk) → ChangesFile name step old new
    → FileAlways old name number P → FileAlways new name number Q
always_after name number step P Q leads old new changes has = record {
  leads = λ lost. same_at name step old new changes lost name ∙ has.leads lost;
  has = leads (old.files number) (new.files number) has.has (changes.this number (has.leads 0));
}

-- a call on another file
pub other_after : (name other : Name) (number other_number : ℕ) (step : File → File → Type 0) (P Q : File → Type 0) (old new : Disk) → ChangesFile name step old new → FileAlways old name number P
    → FileAlways old other other_number Q → other_number ≢ number → FileAlways new other other_number Q
other_after name other number other_number step P Q old new changes has that apart = record {
  leads = λ lost. same_at name step old new changes lost other ∙ that.leads lost;
  has = subst Q (sym (changes.others other_number (λ is. apart (some_same other_number number (sym is ∙ has.leads 0))))) that.has;
}
  where
    some_same : (a b : ℕ) → Some a ≡ Some b → a ≡ b
    some_same a b e = cc
