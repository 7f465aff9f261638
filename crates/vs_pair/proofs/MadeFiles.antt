-- A name that leads to no file until a synced file is renamed to it.
use Rattle.std.proofs.Common.{◌≡◌, ◌≢◌, ◌⊎◌, inl, inr, ℕ, zero, suc, ◌≤◌, Bool, true, false, not, ◌||◌, cond, List, [], length, take, Some, None, IsTrue, refl, sym, ◌∙◌, ap, subst, arith}
use Rattle.std.specs.Str.{bytes_eq}
use Rattle.std.proofs.lemmas.Slice.Eq.{bytes_eq-Decides}
use Rattle.std.proofs.lemmas.Bool.{cond-true, cond-false, true≢false, or_parts, not-true, not-false, or_right}
use Rattle.vs_host.specs.File.{File, IsFileImage, Leaves, Writes, put, synced_file}
use Rattle.vs_host.specs.Disk.{Disk, Mode, Name, Directory, Change, Renames, Removes, Creates, ChangesFile, ChangesNames, CreatesFile, SyncsNames, changed_names, names_of, names_at, content_in}
use Rattle.vs_disk.specs.Images.{FileHas}
use Rattle.vs_disk.specs.Names.{SameAt, IsApart, Undivided}
use Rattle.vs_disk.proofs.Hands.{Stays, hands_names, hands_synced}
use Rattle.vs_disk.proofs.Images.{synced_image}
use Rattle.vs_disk.proofs.Steps.{at_name, differ, itself, newest_names, older_names, settled, file_after}
use Rattle.vs_disk.proofs.Others.{same_none, same_then, file_outside, create_outside, rename_outside, remove_outside}
use Rattle.vs_pair.specs.Swap.{Body, Holds, IsMade, WritesBody, open_mark}
use Rattle.vs_host.specs.World.{Tells, Scene}
use Rattle.vs_disk.specs.Runs.{NoneFails}
use Rattle.vs_pair.specs.Acts.{Acts}
use Rattle.std.specs.Prelude.{IsSomeAnd}
use Rattle.vs_pair.specs.Held.{Held}
use Rattle.vs_pair.specs.Stale.{HasFresh, nothing}
use Rattle.vs_pair.proofs.FreshPages.{none_fresh}
use Rattle.vs_pair.proofs.Acts.{acts_as, acts_then}
use Rattle.vs_pair.proofs.Calls.{there_and}
use Rattle.vs_pair.specs.Steps.{IsAbsent, MayHold, is_not, is_neither, Makes}

-- ---- names

pub not_itself : (name : Name) → is_not name name ≡ false
not_itself name = ap (λ (b : Bool). not b) (itself name)

pub not_other : (name other : Name) → name ≢ other → is_not name other ≡ true
not_other name other apart = ap (λ (b : Bool). not b) (differ name other apart)

first_out : (one two : Name) → is_neither one two one ≡ false
first_out one two = ap (λ (b : Bool). not (b || bytes_eq two one)) (itself one)

second_out : (one two : Name) → is_neither one two two ≡ false
second_out one two = ap (λ (b : Bool). not b) (or_right (bytes_eq one two) (bytes_eq two two) (itself two))

pub neither_apart : (one two name : Name) → one ≢ name → two ≢ name → is_neither one two name ≡ true
neither_apart one two name a b = (λ i. not (differ one name a i || differ two name b i))

neither_not : (one two name : Name) → is_neither one two name ≡ true → is_not one name ≡ true
neither_not one two name is = ap (λ (b : Bool). not b) (or_parts (bytes_eq one name) (bytes_eq two name) (not-true (bytes_eq one name || bytes_eq two name) is)).0

-- ---- what stays of other names

out_too : (fewer inside : Bool) → (fewer ≡ true → inside ≡ true) → inside ≡ false → fewer ≡ false
out_too false inside leads out = refl
out_too true inside leads out = absurd (true≢false (sym (leads refl) ∙ out))

pub same_weaker : (P Q : Name → Bool) (old new : Disk) → ((name : Name) → Q name ≡ true → P name ≡ true) → SameAt P old new → SameAt Q old new
same_weaker P Q old new leads same = record {
  now = λ name is. same.now name (leads name is);
  back = λ lost. let at = same.back lost in (at.0, λ name is. at.1 name (leads name is));
  files = λ lost name number is. same.files lost name number (leads name is);
  modes = λ lost name number is. same.modes lost name number (leads name is);
  hands = λ part undivided apart. same.hands part (λ a b out_a out_b. undivided a b (out_too (Q a) (P a) (leads a) out_a) (out_too (Q b) (P b) (leads b) out_b)) apart;
}

-- a change of names that leaves the names of the set
module _ (inside : Name → Bool) (change : Change) (leaves : (names : Directory) (name : Name) → inside name ≡ true → changed_names change names name ≡ names name)
    (stays : (part : Name → Bool) → Undivided inside part → Stays part change) (old new : Disk) (changes : ChangesNames change old new) where
  now_at : (name : Name) → inside name ≡ true → names_of new name ≡ names_of old name
  now_at name is = at_name (names_of new) (changed_names change (names_of old)) name (newest_names change old new changes.synced changes.pending) ∙ leaves (names_of old) name is

  was : (lost : ℕ) → (l : ℕ) × ((name : Name) → inside name ≡ true → names_at new lost name ≡ names_at old l name)
  was zero = (0, now_at)
  was (suc l) = (l, λ name is. at_name (names_at new (suc l)) (names_at old l) name (older_names change old new changes.synced changes.pending l))

  pub names_same : SameAt inside old new
  names_same = record {
    now = now_at;
    back = was;
    files = λ lost name number is leads_to. ap (λ (f : ℕ → File). f number) changes.files;
    modes = λ lost name number is leads_to. ap (λ (f : ℕ → Mode). f number) changes.modes;
    hands = λ part undivided. hands_names part change old new (stays part undivided) changes;
  }

pub removed_same : (inside : Name → Bool) (gone : Name) (old new : Disk) → inside gone ≡ false → ChangesNames (Removes gone) old new → SameAt inside old new
removed_same inside gone old new out changes = names_same inside (Removes gone) (remove_outside inside gone out).leaves (remove_outside inside gone out).stays old new changes

pub same_or : (inside : Name → Bool) (gone : Name) (old new : Disk) → inside gone ≡ false → ChangesNames (Removes gone) old new ⊎ (new ≡ old) → SameAt inside old new
same_or inside gone old new out (inl removes) = removed_same inside gone old new out removes
same_or inside gone old new out (inr same) = subst (λ (d : Disk). SameAt inside old d) (sym same) (same_none inside old)

renamed_same : (inside : Name → Bool) (from to : Name) (old new : Disk) → inside from ≡ false → inside to ≡ false → ChangesNames (Renames from to) old new → SameAt inside old new
renamed_same inside from to old new out_from out_to changes = names_same inside (Renames from to) (rename_outside inside from to out_from out_to).leaves (rename_outside inside from to out_from out_to).stays old new changes

pub synced_same : (inside : Name → Bool) (old new : Disk) → SyncsNames old new → SameAt inside old new
synced_same inside old new syncs = record {
  now = λ name is. settled old new syncs 0 name;
  back = λ lost. (0, λ name is. settled old new syncs lost name);
  files = λ lost name number is leads. ap (λ (f : ℕ → File). f number) syncs.files;
  modes = λ lost name number is leads. ap (λ (f : ℕ → Mode). f number) syncs.modes;
  hands = λ part undivided. hands_synced part old new syncs;
}

pub absent_stays : (inside : Name → Bool) (name : Name) (old new : Disk) → inside name ≡ true → SameAt inside old new → IsAbsent name old → IsAbsent name new
absent_stays inside name old new is same absent lost = let at = same.back lost in at.1 name is ∙ absent at.0

pub may_stays : (inside : Name → Bool) (name : Name) (body : Body) (old new : Disk) → inside name ≡ true → SameAt inside old new → MayHold name body old → MayHold name body new
may_stays inside name body old new is same may lost =
    let at = same.back lost in
    elim (may at.0) [
      | inl none ↦ inl (at.1 name is ∙ none)
      | inr holds ↦
          let leads = at.1 name is ∙ holds.leads in
          inr (record { number = holds.number; leads = leads; leaves = subst (λ (f : File). Leaves f (Holds body)) (sym (same.files lost name holds.number is leads)) holds.leaves })
    ]

pub has_stays : (inside : Name → Bool) (name : Name) (P : File → Type 0) (old new : Disk) → inside name ≡ true → SameAt inside old new → FileHas old name P → FileHas new name P
has_stays inside name P old new is same has =
    let leads = same.now name is ∙ has.leads in
    record { number = has.number; leads = leads; has = subst P (sym (same.files 0 name has.number is leads)) has.has }

pub gone_now : (name : Name) (old new : Disk) → ChangesNames (Removes name) old new → names_of new name ≡ None
gone_now name old new removes =
    at_name (names_of new) (changed_names (Removes name) (names_of old)) name (newest_names (Removes name) old new removes.synced removes.pending) ∙ cond-true (bytes_eq name name) None (names_of old name) (itself name)

-- ---- a file under its new name

pub renamed_has : (from to : Name) (P : File → Type 0) (old new : Disk) → FileHas old from P → ChangesNames (Renames from to) old new → FileHas new to P
renamed_has from to P old new has renames = record {
  number = has.number;
  leads = at_name (names_of new) (changed_names (Renames from to) (names_of old)) to (newest_names (Renames from to) old new renames.synced renames.pending)
      ∙ cond-true (bytes_eq to to) (names_of old from) (cond (bytes_eq from to) None (names_of old to)) (itself to) ∙ has.leads;
  has = subst P (sym (ap (λ (files : ℕ → File). files has.number) renames.files)) has.has;
}

-- the old name leads nowhere
pub renamed_gone : (from to : Name) (old new : Disk) → from ≢ to → ChangesNames (Renames from to) old new → names_of new from ≡ None
renamed_gone from to old new apart renames =
    at_name (names_of new) (changed_names (Renames from to) (names_of old)) from (newest_names (Renames from to) old new renames.synced renames.pending)
    ∙ cond-false (bytes_eq to from) (names_of old from) (cond (bytes_eq from from) None (names_of old from)) (differ to from (λ is. apart (sym is)))
    ∙ cond-true (bytes_eq from from) None (names_of old from) (itself from)

-- ---- a file under its other name

-- No other name leads to the file that is made.
pub record Making (temporary : Name) (old new : Disk) : Type 0 where
  pub same : SameAt (is_not temporary) old new
  pub apart : IsApart (is_not temporary) new

pub making_begins : (temporary : Name) (old new : Disk) → SameAt (is_not temporary) old new → names_of new temporary ≡ None → Making temporary old new
making_begins temporary old new same free = record {
  same = same;
  apart = record {
    alone = λ lost name other number inside outside leads there.
        let is : temporary ≡ other = (bytes_eq-Decides temporary other).0 (not-false (bytes_eq temporary other) outside) in
        let clash : None ≡ Some number = sym free ∙ ap (λ (n : Name). names_of new n) is ∙ there in
        cc clash;
  };
}

pub making_creates : (temporary : Name) (old mid new : Disk) → Making temporary old mid → CreatesFile temporary mid new → Making temporary old new
making_creates temporary old mid new making creates =
    let both = create_outside (is_not temporary) temporary mid new (not_itself temporary) making.apart creates in
    record { same = same_then (is_not temporary) old mid new making.same both.0; apart = both.1 }

pub making_writes : (temporary : Name) (step : File → File → Type 0) (old mid new : Disk) → Making temporary old mid → ChangesFile temporary step mid new → Making temporary old new
making_writes temporary step old mid new making changes =
    let both = file_outside (is_not temporary) temporary step mid new (not_itself temporary) making.apart changes in
    record { same = same_then (is_not temporary) old mid new making.same both.0; apart = both.1 }

module _ (temporary name : Name) (apart : temporary ≢ name) (body : Body) (old : Disk) (absent : IsAbsent name old) where
  -- no stop shows it
  pub same_makes : (new : Disk) → SameAt (is_not temporary) old new → Makes temporary name body old new
  same_makes new same = record {
    spared = same_weaker (is_not temporary) (is_neither temporary name) old new (neither_not temporary name) same;
    made = λ lost. inl (absent_stays (is_not temporary) name old new (not_other temporary name apart) same absent lost);
  }

  pub making_makes : (new : Disk) → Making temporary old new → Makes temporary name body old new
  making_makes new making = same_makes new making.same

  -- ---- the rename
  module _ (mid new : Disk) (making : Making temporary old mid) (has : FileHas mid temporary (λ file. Leaves file (Holds body))) (renames : ChangesNames (Renames temporary name) mid new) where
    made_at : MayHold name body new
    made_at zero = let now = renamed_has temporary name (λ file. Leaves file (Holds body)) mid new has renames in inr (record { number = now.number; leads = now.leads; leaves = now.has })
    made_at (suc l) = inl (
        at_name (names_at new (suc l)) (names_at mid l) name (older_names (Renames temporary name) mid new renames.synced renames.pending l)
        ∙ absent_stays (is_not temporary) name old mid (not_other temporary name apart) making.same absent l
        )

    pub renamed_makes : Makes temporary name body old new
    renamed_makes = record {
      spared = same_then (is_neither temporary name) old mid new (same_weaker (is_not temporary) (is_neither temporary name) old mid (neither_not temporary name) making.same)
          (renamed_same (is_neither temporary name) temporary name mid new (first_out temporary name) (second_out temporary name) renames);
      made = made_at;
    }

-- ---- its bytes

pub created : (temporary : Name) (old new : Disk) → CreatesFile temporary old new → FileHas new temporary (λ file. file ≡ synced_file [])
created temporary old new creates = record {
  number = creates.number;
  leads = at_name (names_of new) (changed_names (Creates temporary creates.number) (names_of old)) temporary (newest_names (Creates temporary creates.number) old new creates.synced creates.pending)
      ∙ cond-true (bytes_eq temporary temporary) (Some creates.number) (names_of old temporary) (itself temporary);
  has = creates.empty;
}

-- an empty file takes a write at its start
pub created_there : (temporary : Name) (old new : Disk) → CreatesFile temporary old new → IsSomeAnd (content_in new temporary) (λ bytes. 0 ≤ length bytes)
created_there temporary old new creates =
    let has = created temporary old new creates in
    there_and new temporary (λ bytes. 0 ≤ length bytes) (record { number = has.number; leads = has.leads; has = omega arith })

pub marked_new : (temporary : Name) (old new : Disk) → ChangesFile temporary (Writes 0 open_mark) old new → FileHas old temporary (λ file. file ≡ synced_file []) → FileHas new temporary (λ file. file.bytes ≡ open_mark)
marked_new temporary old new writes has =
    file_after temporary (Writes 0 open_mark) (λ file. file ≡ synced_file []) (λ file. file.bytes ≡ open_mark)
    (λ a b empty is. ap (λ (f : File). f.bytes) is ∙ ap (λ (f : File). put f.bytes 0 open_mark) empty) old new has writes

-- nothing is known of its pages
pub new_fresh : (temporary : Name) (pages : Held) (disk : Disk) → FileHas disk temporary (λ file. file.bytes ≡ open_mark) → FileHas disk temporary (λ file. HasFresh pages nothing file.bytes)
new_fresh temporary pages disk has = record {
  number = has.number;
  leads = has.leads;
  has = record { long = let two : length (disk.files has.number).bytes ≡ 2 = ap length has.has in omega (arith, two); fresh = λ k least is. absurd (none_fresh pages.commits k is) };
}

pub whole_new : (temporary : Name) (body : Body) (old new : Disk) → ChangesFile temporary (WritesBody body) old new → FileHas old temporary (λ file. file.bytes ≡ open_mark) → FileHas new temporary (λ file. Leaves file (IsMade body))
whole_new temporary body old new writes has =
    file_after temporary (WritesBody body) (λ file. file.bytes ≡ open_mark) (λ file. Leaves file (IsMade body))
    (λ a b marked step c image.
    let is : c ≡ b.bytes = synced_image b.bytes c (subst (λ (f : File). IsFileImage f c) step.synced image) in
    let two : length a.bytes ≡ 2 = ap length marked in
    subst (λ (bytes : List ℕ). IsMade body bytes) (sym is) (record {
      holds = record { opened = step.mark ∙ ap (λ (bytes : List ℕ). take 2 bytes) marked; whole = step.has };
      ends = record { end = step.size.end; some = step.size.some; past = step.size.past; last = step.size.last; is = omega (arith, step.size.is, step.size.some, two) };
    }))
    old new has writes

pub made_holds : (name : Name) (body : Body) (disk : Disk) → FileHas disk name (λ file. Leaves file (IsMade body)) → FileHas disk name (λ file. Leaves file (Holds body))
made_holds name body disk has = record { number = has.number; leads = has.leads; has = λ c image. (has.has c image).holds }

-- ---- each moment

module _ (tells : Tells) (temporary name : Name) (apart : temporary ≢ name) (body : Body) (old : Scene) (absent : IsTrue tells.folder → IsAbsent name old.folder) where
  abbrev Step : Disk → Disk → Type 0
  Step = Makes temporary name body

  pub clearing : (new : Scene) → Acts tells (SameAt (is_not temporary)) old new → Acts tells Step old new
  clearing new acts = acts_as tells (SameAt (is_not temporary)) Step old new (λ told d same. same_makes temporary name apart body old.folder (absent told) d same) acts

  pub creating : (mid new : Scene) → NoneFails tells old mid → Acts tells (SameAt (is_not temporary)) old mid → (IsTrue tells.folder → names_of mid.folder temporary ≡ None)
      → Acts tells (λ a b. CreatesFile temporary a b ⊎ (b ≡ a)) mid new → Acts tells Step old new
  creating mid new none first free second =
      acts_then tells (SameAt (is_not temporary)) (λ a b. CreatesFile temporary a b ⊎ (b ≡ a)) Step old mid new (λ told d same. same_makes temporary name apart body old.folder (absent told) d same)
      (λ told here d either. elim either [
        | inl creates ↦ making_makes temporary name apart body old.folder (absent told) d (making_creates temporary old.folder mid.folder d (making_begins temporary old.folder mid.folder here (free told)) creates)
        | inr same ↦ subst (λ (e : Disk). Step old.folder e) (sym same) (same_makes temporary name apart body old.folder (absent told) mid.folder here)
      ]) none first second

  pub writing : (step : File → File → Type 0) (mid new : Scene) → NoneFails tells old mid → Acts tells Step old mid → (IsTrue tells.folder → Making temporary old.folder mid.folder)
      → Acts tells (ChangesFile temporary step) mid new → Acts tells Step old new
  writing step mid new none first making second =
      acts_then tells Step (ChangesFile temporary step) Step old mid new (λ told d same. same)
      (λ told here d changes. making_makes temporary name apart body old.folder (absent told) d (making_writes temporary step old.folder mid.folder d (making told) changes)) none first second

  pub renaming : (mid new : Scene) → NoneFails tells old mid → Acts tells Step old mid → (IsTrue tells.folder → Making temporary old.folder mid.folder)
      → (IsTrue tells.folder → FileHas mid.folder temporary (λ file. Leaves file (Holds body))) → Acts tells (λ a b. ChangesNames (Renames temporary name) a b ⊎ (b ≡ a)) mid new → Acts tells Step old new
  renaming mid new none first making has second =
      acts_then tells Step (λ a b. ChangesNames (Renames temporary name) a b ⊎ (b ≡ a)) Step old mid new (λ told d same. same)
      (λ told here d either. elim either [
        | inl renames ↦ renamed_makes temporary name apart body old.folder (absent told) mid.folder d (making told) (has told) renames
        | inr same ↦ subst (λ (e : Disk). Step old.folder e) (sym same) here
      ]) none first second
