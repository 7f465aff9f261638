-- Which modes the files have that calls make: what one call gives, what calls give one after another, and under which name a mode stays.
use Rattle.std.proofs.Common.{◌≡◌, [], ◌∷◌, inl, inr, ℕ, nat_eq, Bool, List, Option, Some, None, option_map, IsTrue, OnOk, OnErr, Result, Ok, Err, Bor, refl, sym, ◌∙◌, ap, subst}
use Rattle.std.specs.Prelude.{IfSome, IsSome, MatchOption}
use Rattle.std.proofs.lemmas.Bool.{cond-true, eq-eqb}
use Rattle.std.specs.Str.{bytes_eq}
use Rattle.vs_host.specs.File.{File, Syncs}
use Rattle.vs_host.specs.Disk.{Disk, Mode, Name, Renames, Removes, changed_names, content_in, names_of, read_under, mode_in, modes_like, like, owner_mode, MayBeLike, ChangesFile, ChangesNames, CreatesFile, SyncsNames}
use Rattle.vs_host.specs.Trace.{Kind, Synced}
use Rattle.vs_host.specs.World.{Tells, Scene, ChangesFolder, IsTold, content_of}
use Rattle.vs_disk.specs.Images.{IsSynced, KeepsImages}
use Rattle.vs_disk.specs.Modes.{HasMode, IsOf, KeepsModes, MakesLike}
use Rattle.vs_disk.specs.Runs.{Looks, Runs}
use Rattle.vs_disk.proofs.Contents.{some_content, file_of_content, synced_content}
use Rattle.vs_disk.proofs.Modes.{modes_none, modes_then, modes_file, modes_synced, modes_removed, modes_renamed, modes_created, modes_liked}
use Rattle.vs_disk.proofs.Runs.{one_call, runs_as, runs_on, starts}
use Rattle.vs_disk.proofs.Steps.{at_name, itself, newest_names, same_at, settled}
use Rattle.vs_backup.specs.Modes.{Makes, MakesFor, MakesUsual, TakesMode}
use Rattle.vs_backup.specs.Works.{ChangesOne, Fills, HasNew, Narrowed, Spares, Steps, SyncsBytes, Widens}
use Rattle.vs_backup.specs.Writing.{CopiesMode}
use Rattle.vs_backup.specs.declared.files.Readers.{Readers}
use Rattle.vs_backup.specs.declared.files.Readers.TheVariants.{Usual, Owner}
use Rattle.vs_backup.proofs.Filling.{changes_by, changes_liked, changes_maybe, changes_same, synced_liked, widens_maybe}
use Rattle.vs_backup.proofs.Following.{narrowed_now, narrowed_runs}
use Rattle.vs_backup.proofs.Frames.{created_leads, either, spared}
use Rattle.vs_backup.proofs.Returning.{widens_same}

-- ---- the mode under a name
mode_at : (old new : Disk) (at : Option ℕ) → ((number : ℕ) → at ≡ Some number → new.modes number ≡ old.modes number) → option_map new.modes at ≡ option_map old.modes at
mode_at old new None same = refl
mode_at old new (Some number) same = ap (λ (m : Mode). Some m) (same number refl)

pub mode_spared : (on : Name → Type 0) (name : Name) (old new : Disk) → (on name → ⊥) → Spares on old new → mode_in new name ≡ mode_in old name
mode_spared on name old new not spares =
    let same = spared on name old new not spares in
    let now : names_of new name ≡ names_of old name = same.now name (itself name) in
    ap (λ (at : Option ℕ). option_map new.modes at) now ∙ mode_at old new (names_of old name) (λ number leads. same.modes 0 name number (itself name) (now ∙ leads))

by_names : (old new : Disk) (at_old at_new : Option ℕ) → at_new ≡ at_old → new.modes ≡ old.modes → option_map new.modes at_new ≡ option_map old.modes at_old
by_names old new at_old at_new names modes = ap (λ (at : Option ℕ). option_map new.modes at) names ∙ ap (λ (f : ℕ → Mode). option_map f at_old) modes

pub mode_file : (name other : Name) (step : File → File → Type 0) (old new : Disk) → ChangesFile name step old new → mode_in new other ≡ mode_in old other
mode_file name other step old new changes = by_names old new (names_of old other) (names_of new other) (same_at name step old new changes 0 other) changes.modes

pub mode_narrowed : (name : Name) (old new : Disk) → Narrowed old new → mode_in new name ≡ mode_in old name
mode_narrowed name old new narrowed = by_names old new (names_of old name) (names_of new name) (narrowed.now name) narrowed.modes

pub mode_synced : (name : Name) (old new : Disk) → SyncsNames old new → mode_in new name ≡ mode_in old name
mode_synced name old new syncs = by_names old new (names_of old name) (names_of new name) (settled old new syncs 0 name) syncs.modes

pub mode_same : (name : Name) (old new : Disk) → new ≡ old → mode_in new name ≡ mode_in old name
mode_same name old new same = ap (λ (d : Disk). mode_in d name) same

pub mode_renamed : (from to : Name) (old new : Disk) → ChangesNames (Renames from to) old new → mode_in new to ≡ mode_in old from
mode_renamed from to old new renames = by_names old new (names_of old from) (names_of new to)
    (at_name (names_of new) (changed_names (Renames from to) (names_of old)) to (newest_names (Renames from to) old new renames.synced renames.pending)
    ∙ cond-true (bytes_eq to to) (names_of old from) _ (itself to)) renames.modes

-- a file that takes the mode of another one
liked_at : (modes : ℕ → Mode) (from to : Option ℕ) (m n : ℕ) → from ≡ Some m → to ≡ Some n → option_map (modes_like from to modes) to ≡ option_map modes from
liked_at modes None to m n is there = cc
liked_at modes (Some a) None m n is there = cc
liked_at modes (Some a) (Some b) m n is there = ap (λ (x : Mode). Some x) (cond-true (nat_eq b b) (modes a) (modes b) (eq-eqb b b refl))

pub takes_liked : (told : Bool) (model name : Name) (before after : Scene) → (IsTrue told → IsSome (content_of before name)) → (IsTrue told → ChangesFile name Syncs (like model name before.folder) after.folder)
    → TakesMode told model name before after
takes_liked told model name before after there changes = record {
  same = λ is model_there.
      let disk = before.folder in
      let one = some_content disk model model_there in
      let other = some_content disk name (there is) in
      let from = file_of_content disk model one.0 one.1 in
      let to = file_of_content disk name other.0 other.1 in
      mode_file name name Syncs (like model name disk) after.folder (changes is) ∙ liked_at disk.modes (names_of disk model) (names_of disk name) from.number to.number from.leads to.leads;
}

pub takes_still : (told : Bool) (name : Name) (before after : Scene) → (IsTrue told → mode_in after.folder name ≡ mode_in before.folder name) → TakesMode told name name before after
takes_still told name before after same = record { same = λ is there. same is }

-- ---- the modes of a set
mode_given : (allowed : Mode → Bool) (name : Name) (disk : Disk) → IfSome (mode_in disk name) (IsOf allowed) → HasMode allowed name disk
mode_given allowed name disk may number leads = subst (λ (at : Option ℕ). IfSome (option_map disk.modes at) (IsOf allowed)) leads may

given_at : (allowed : Mode → Bool) (disk : Disk) (at : Option ℕ) → ((number : ℕ) → at ≡ Some number → IsOf allowed (disk.modes number)) → IfSome (option_map disk.modes at) (IsOf allowed)
given_at allowed disk None has = tt
given_at allowed disk (Some number) has = has number refl

pub makes_like : (tells : Tells) (name : Name) (old new : Scene) → Makes tells.folder (mode_in old.folder name) old new → MakesLike tells name old new
makes_like tells name old new makes told allowed owner has =
    makes.runs told allowed owner (given_at allowed old.folder (names_of old.folder name) (λ number leads. has 0 number leads))

-- ---- calls one after another
pub makes_then : {told : Bool} {given : Option Mode} {s0 s1 s2 : Scene} → ChangesFolder s0 s1 → Makes told given s0 s1 → Makes told given s1 s2 → Makes told given s0 s2
makes_then {told} {given} {s0} {s1} {s2} frame first second = record {
  runs = λ is allowed owner may. runs_on (KeepsModes allowed) (modes_then allowed) s0 s1 s2 frame (first.runs is allowed owner may) (second.runs is allowed owner may);
}

pub makes_any : {told : Bool} {s0 s1 : Scene} (given : Option Mode) → Makes told None s0 s1 → Makes told given s0 s1
makes_any given makes = record { runs = λ is allowed owner may. makes.runs is allowed owner tt }

pub makes_as : {told : Bool} {s0 s1 : Scene} (one other : Option Mode) → (IsTrue told → one ≡ other) → Makes told one s0 s1 → Makes told other s0 s1
makes_as one other same makes = record {
  runs = λ is allowed owner may. makes.runs is allowed owner (subst (λ (m : Option Mode). IfSome m (IsOf allowed)) (sym (same is)) may);
}

pub makes_looks : (told : Bool) (given : Option Mode) (s0 s1 : Scene) → (IsTrue told → Looks s0 s1) → Makes told given s0 s1
makes_looks told given s0 s1 looks = record {
  runs = λ is allowed owner may. runs_as (λ a b. b ≡ a) (KeepsModes allowed) s0 s1
      (λ d same. subst (λ (x : Disk). KeepsModes allowed s0.folder x) (sym same) (modes_none allowed s0.folder)) (looks is);
}

pub makes_fills : (told : Bool) (name : Name) (given : Option Mode) (s0 s1 : Scene) → (IsTrue told → Runs (Fills name) s0 s1) → Makes told given s0 s1
makes_fills told name given s0 s1 fills = record {
  runs = λ is allowed owner may. runs_as (Fills name) (KeepsModes allowed) s0 s1 (λ d changes. modes_file allowed name KeepsImages s0.folder d changes) (fills is);
}

pub makes_syncs : (told : Bool) (given : Option Mode) (s0 s1 : Scene) → (IsTrue told → Runs SyncsNames s0 s1) → Makes told given s0 s1
makes_syncs told given s0 s1 syncs = record {
  runs = λ is allowed owner may. runs_as SyncsNames (KeepsModes allowed) s0 s1 (λ d step. modes_synced allowed s0.folder d step) (syncs is);
}

modes_narrowed : (allowed : Mode → Bool) (old new : Disk) → Narrowed old new → KeepsModes allowed old new
modes_narrowed allowed old new narrowed = record {
  each = λ lost number name leads.
      let at = narrowed.back lost in
      inr (record { lost = at.0; leads = sym (at.1 name) ∙ leads; has = sym (ap (λ (f : ℕ → Mode). f number) narrowed.modes) });
}

pub makes_narrowed : (told : Bool) (given : Option Mode) (s0 s1 : Scene) → (IsTrue told → Steps Narrowed s0 s1) → Makes told given s0 s1
makes_narrowed told given s0 s1 steps = record {
  runs = λ is allowed owner may. runs_as Narrowed (KeepsModes allowed) s0 s1 (λ d narrowed. modes_narrowed allowed s0.folder d narrowed) (narrowed_runs s0 s1 (steps is));
}

-- ---- one call
module _ (told : Bool) (given : Option Mode) (kind : Kind) (names : List Name) {T E : Type 0} (result : Result T E) (s0 s1 : Scene) (frame : ChangesFolder s0 s1)
    (is_told : IsTrue told → IsTold kind names result s0 s1) where
  by_call : (IsTrue told → (allowed : Mode → Bool) → IsOf allowed owner_mode → IfSome given (IsOf allowed) → KeepsModes allowed s0.folder s1.folder) → Makes told given s0 s1
  by_call here = record {
    runs = λ is allowed owner may. one_call (KeepsModes allowed) kind names result s0 s1 frame (is_told is) (here is allowed owner may);
  }

  modes_same : (allowed : Mode → Bool) → s1.folder ≡ s0.folder → KeepsModes allowed s0.folder s1.folder
  modes_same allowed same = subst (λ (d : Disk). KeepsModes allowed s0.folder d) (sym same) (modes_none allowed s0.folder)

  -- either answer
  by_answer : (Done Failed : Type 0) → OnOk result (IsTrue told → Done) → OnErr result Failed
      → (IsTrue told → (allowed : Mode → Bool) → IsOf allowed owner_mode → IfSome given (IsOf allowed) → Done → KeepsModes allowed s0.folder s1.folder)
      → (IsTrue told → (allowed : Mode → Bool) → IsOf allowed owner_mode → IfSome given (IsOf allowed) → Failed → KeepsModes allowed s0.folder s1.folder) → Makes told given s0 s1
  by_answer Done Failed ok err done failed = by_call (λ is allowed owner may.
      either (IsTrue told → Done) Failed (KeepsModes allowed s0.folder s1.folder) result ok err (λ d. done is allowed owner may (d is)) (λ f. failed is allowed owner may f))

  pub makes_file : (name : Name) (step : File → File → Type 0) → OnOk result (IsTrue told → ChangesFile name step s0.folder s1.folder) → OnErr result (s1.folder ≡ s0.folder) → Makes told given s0 s1
  makes_file name step ok err = by_answer (ChangesFile name step s0.folder s1.folder) (s1.folder ≡ s0.folder) ok err
      (λ is allowed owner may changes. modes_file allowed name step s0.folder s1.folder changes) (λ is allowed owner may same. modes_same allowed same)

  pub makes_synced : OnOk result (IsTrue told → SyncsNames s0.folder s1.folder) → OnErr result (s1.folder ≡ s0.folder) → Makes told given s0 s1
  makes_synced ok err = by_answer (SyncsNames s0.folder s1.folder) (s1.folder ≡ s0.folder) ok err
      (λ is allowed owner may syncs. modes_synced allowed s0.folder s1.folder syncs) (λ is allowed owner may same. modes_same allowed same)

  pub makes_removed : (name : Name) → OnOk result (IsTrue told → ChangesNames (Removes name) s0.folder s1.folder) → OnErr result (s1.folder ≡ s0.folder) → Makes told given s0 s1
  makes_removed name ok err = by_answer (ChangesNames (Removes name) s0.folder s1.folder) (s1.folder ≡ s0.folder) ok err
      (λ is allowed owner may removes. modes_removed allowed name s0.folder s1.folder removes) (λ is allowed owner may same. modes_same allowed same)

  pub makes_none : s1.folder ≡ s0.folder → Makes told given s0 s1
  makes_none same = by_call (λ is allowed owner may. modes_same allowed same)

  pub makes_private : (name : Name) → OnOk result (IsTrue told → CreatesFile name s0.folder s1.folder) → OnOk result (IsTrue told → mode_in s1.folder name ≡ Some owner_mode)
      → OnErr result (s1.folder ≡ s0.folder) → Makes told given s0 s1
  makes_private name ok mode err = by_answer (CreatesFile name s0.folder s1.folder × (mode_in s1.folder name ≡ Some owner_mode)) (s1.folder ≡ s0.folder)
      (both result ok mode) err
      (λ is allowed owner may done. modes_created allowed name owner_mode s0.folder s1.folder owner done.0 done.1) (λ is allowed owner may same. modes_same allowed same)
    where
      both : (r : Result T E) → OnOk r (IsTrue told → CreatesFile name s0.folder s1.folder) → OnOk r (IsTrue told → mode_in s1.folder name ≡ Some owner_mode)
          → OnOk r (IsTrue told → CreatesFile name s0.folder s1.folder × (mode_in s1.folder name ≡ Some owner_mode))
      both (Ok v) creates is = λ told. (creates told, is told)
      both (Err e) creates is = tt

-- a file whose mode is given takes a name, or hands its mode on
module _ (told : Bool) (kind : Kind) (names : List Name) {T E : Type 0} (result : Result T E) (s0 s1 : Scene) (frame : ChangesFolder s0 s1)
    (is_told : IsTrue told → IsTold kind names result s0 s1) where
  pub makes_renamed : (from to : Name) → OnOk result (IsTrue told → ChangesNames (Renames from to) s0.folder s1.folder) → OnErr result (s1.folder ≡ s0.folder)
      → Makes told (mode_in s0.folder from) s0 s1
  makes_renamed from to ok err = by_answer told (mode_in s0.folder from) kind names result s0 s1 frame is_told (ChangesNames (Renames from to) s0.folder s1.folder) (s1.folder ≡ s0.folder) ok err
      (λ is allowed owner may renames. modes_renamed allowed from to s0.folder s1.folder (mode_given allowed from s0.folder may) renames)
      (λ is allowed owner may same. modes_same told (mode_in s0.folder from) kind names result s0 s1 frame is_told allowed same)

  pub makes_liked : (model name : Name) → OnOk result (IsTrue told → ChangesFile name Syncs (like model name s0.folder) s1.folder) → OnErr result (MayBeLike model name s0.folder s1.folder)
      → Makes told (mode_in s0.folder model) s0 s1
  makes_liked model name ok err = by_answer told (mode_in s0.folder model) kind names result s0 s1 frame is_told (ChangesFile name Syncs (like model name s0.folder) s1.folder)
      (MayBeLike model name s0.folder s1.folder) ok err
      (λ is allowed owner may changes. modes_then allowed s0.folder (like model name s0.folder) s1.folder (given allowed may) (modes_file allowed name Syncs (like model name s0.folder) s1.folder changes))
      (λ is allowed owner may maybe. elim maybe [
        | inl same ↦ modes_same told (mode_in s0.folder model) kind names result s0 s1 frame is_told allowed same
        | inr liked ↦ subst (λ (d : Disk). KeepsModes allowed s0.folder d) (sym liked) (given allowed may)
      ])
    where
      given : (allowed : Mode → Bool) → IfSome (mode_in s0.folder model) (IsOf allowed) → KeepsModes allowed s0.folder (like model name s0.folder)
      given allowed may = modes_liked allowed model name s0.folder (mode_given allowed model s0.folder may)

  -- the system gives a mode to a new file
  pub makes_usual : (name : Name) → OnOk result (IsTrue told → CreatesFile name s0.folder s1.folder) → OnErr result (s1.folder ≡ s0.folder) → MakesUsual told s0 s1
  makes_usual name ok err = of (mode_in s1.folder name) refl
    where
      by : (mode : Mode) → (CreatesFile name s0.folder s1.folder → mode_in s1.folder name ≡ Some mode) → Makes told (Some mode) s0 s1
      by mode has = by_answer told (Some mode) kind names result s0 s1 frame is_told (CreatesFile name s0.folder s1.folder) (s1.folder ≡ s0.folder) ok err
          (λ is allowed owner may creates. modes_created allowed name mode s0.folder s1.folder may creates (has creates))
          (λ is allowed owner may same. modes_same told (Some mode) kind names result s0 s1 frame is_told allowed same)

      made : (creates : CreatesFile name s0.folder s1.folder) → mode_in s1.folder name ≡ Some (s1.folder.modes creates.number)
      made creates = ap (λ (at : Option ℕ). option_map s1.folder.modes at) (created_leads name s0.folder s1.folder creates)

      none_made : (X : Type 0) → (creates : CreatesFile name s0.folder s1.folder) → mode_in s1.folder name ≡ None → X
      none_made X creates none = let clash : None ≡ Some (s1.folder.modes creates.number) = sym none ∙ made creates in cc

      of : (mode : Option Mode) → mode_in s1.folder name ≡ mode → MakesUsual told s0 s1
      of None is = record { given = owner_mode; makes = by owner_mode (λ creates. none_made _ creates is) }
      of (Some mode) is = record { given = mode; makes = by mode (λ creates. is) }

-- ---- files for these readers
pub usual_any : {told : Bool} {s0 s1 : Scene} → Makes told None s0 s1 → MakesUsual told s0 s1
usual_any makes = record { given = owner_mode; makes = makes_any (Some owner_mode) makes }

-- private files before, or after
pub usual_after : {told : Bool} {s0 s1 s2 : Scene} → ChangesFolder s0 s1 → Makes told None s0 s1 → MakesUsual told s1 s2 → MakesUsual told s0 s2
usual_after frame first second = record { given = second.given; makes = makes_then frame (makes_any (Some second.given) first) second.makes }

pub usual_then : {told : Bool} {s0 s1 s2 : Scene} → ChangesFolder s0 s1 → MakesUsual told s0 s1 → Makes told None s1 s2 → MakesUsual told s0 s2
usual_then frame first second = record { given = first.given; makes = makes_then frame first.makes (makes_any (Some first.given) second) }

-- the file that was made, and no other one, takes a name
pub usual_renamed : (told : Bool) (made : Name) (s0 s1 s2 : Scene) → ChangesFolder s0 s1 → MakesUsual told s0 s1 → (IsTrue told → HasNew made s0.folder s1.folder) → Makes told (mode_in s1.folder made) s1 s2
    → MakesUsual told s0 s2
usual_renamed told made s0 s1 s2 frame first new second = record {
  given = first.given;
  makes = record {
    runs = λ is allowed owner may.
        let before = first.makes.runs is allowed owner may in
        runs_on (KeepsModes allowed) (modes_then allowed) s0 s1 s2 frame before (second.runs is allowed owner (given_at allowed s1.folder (names_of s1.folder made) (has is allowed before.now)));
  };
}
  where
    has : IsTrue told → (allowed : Mode → Bool) → KeepsModes allowed s0.folder s1.folder → (number : ℕ) → names_of s1.folder made ≡ Some number → IsOf allowed (s1.folder.modes number)
    has is allowed keeps number leads = elim (keeps.each 0 number made leads) [
      | inl may ↦ may
      | inr stood ↦ absurd (new is number leads stood.lost made stood.leads)
    ]

pub for_any : (readers : Readers) (told : Bool) (s0 s1 : Scene) → Makes told None s0 s1 → MakesFor readers told s0 s1
for_any Usual told s0 s1 makes = usual_any makes
for_any Owner told s0 s1 makes = makes

pub for_after : (readers : Readers) (told : Bool) (s0 s1 s2 : Scene) → ChangesFolder s0 s1 → Makes told None s0 s1 → MakesFor readers told s1 s2 → MakesFor readers told s0 s2
for_after Usual told s0 s1 s2 frame first second = usual_after frame first second
for_after Owner told s0 s1 s2 frame first second = makes_then frame first second

-- ---- where a model may be named
pub match_is : {A : Type 0} (model : Option A) (P : Type 0) (R : A → Type 0) → P → ((a : A) → R a) → MatchOption model P R
match_is None P R none some = none
match_is (Some a) P R none some = some a

pub match_as : {A : Type 0} (model : Option A) (P Q : Type 0) (R S : A → Type 0) → (P → Q) → ((a : A) → R a → S a) → MatchOption model P R → MatchOption model Q S
match_as None P Q R S none some is = none is
match_as (Some a) P Q R S none some is = some a is

-- ---- a mode that is taken after the file was filled, before the names are synced
there_at : (old new : Disk) (at : Option ℕ) → IsSome (read_under old at) → IsSome (read_under new at)
there_at old new None there = there
there_at old new (Some number) there = refl

pub there_filled : (name other : Name) (old new : Disk) → Fills name old new → IsSome (content_in old other) → IsSome (content_in new other)
there_filled name other old new fills there =
    subst (λ (at : Option ℕ). IsSome (read_under new at)) (sym (same_at name KeepsImages old new fills 0 other)) (there_at old new (names_of old other) there)

pub takes_filled : (told : Bool) (filled model name : Name) (s0 s1 s2 : Scene) → (IsTrue told → Runs (Fills filled) s0 s1) → TakesMode told model name s1 s2 → TakesMode told model name s0 s2
takes_filled told filled model name s0 s1 s2 fills takes = record {
  same = λ is there.
      let changes = (fills is).now in
      takes.same is (there_filled filled model s0.folder s1.folder changes there) ∙ mode_file filled model KeepsImages s0.folder s1.folder changes;
}

pub makes_filled : (told : Bool) (filled model : Name) (s0 s1 s2 : Scene) → ChangesFolder s0 s1 → (IsTrue told → Runs (Fills filled) s0 s1) → Makes told (mode_in s1.folder model) s1 s2 → Makes told (mode_in s0.folder model) s0 s2
makes_filled told filled model s0 s1 s2 frame fills makes = makes_then frame (makes_fills told filled (mode_in s0.folder model) s0 s1 fills)
    (makes_as (mode_in s1.folder model) (mode_in s0.folder model) (λ is. mode_file filled model KeepsImages s0.folder s1.folder (fills is).now) makes)

match_leads : {A : Type 0} (model : Option A) (P : Type 0) (R : A → Type 0) (X : Type 0) → (P → X) → ((a : A) → R a → X) → MatchOption model P R → X
match_leads None P R X none some is = none is
match_leads (Some a) P R X none some is = some a is

pub match_some : {A : Type 0} (model : Option A) (a : A) (P : Type 0) (R : A → Type 0) → model ≡ Some a → R a → MatchOption model P R
match_some {A} model a P R is here = subst (λ (m : Option A). MatchOption m P R) (sym is) here

pub match_none : {A : Type 0} (model : Option A) (P : Type 0) (R : A → Type 0) → model ≡ None → P → MatchOption model P R
match_none {A} model P R is here = subst (λ (m : Option A). MatchOption m P R) (sym is) here

-- a file is synced, and takes the mode of the model, if one is named
abbrev pub DoneLike : Option (Bor Name) → Name → Disk → Disk → Type 0
DoneLike model name old new = MatchOption model (ChangesFile name Syncs old new) (λ m. ChangesFile name Syncs (like m.now name old) new)

abbrev pub FailedLike : Option (Bor Name) → Name → Disk → Disk → Type 0
FailedLike model name old new = MatchOption model (new ≡ old) (λ m. MayBeLike m.now name old new)

pub synced_done : (told : Bool) (model : Option (Bor Name)) (name : Name) (s0 s1 : Scene) → (IsTrue told → DoneLike model name s0.folder s1.folder) → SyncsBytes told name s0 s1
synced_done told model name s0 s1 done = record {
  synced = λ is bytes content. match_leads model _ _ (IsSynced name bytes s1.folder) (λ changes. synced_content name bytes s0.folder s1.folder changes content)
      (λ m changes. synced_liked m.now name bytes s0.folder s1.folder changes content) (done is);
}

pub widens_failed : (model : Option (Bor Name)) (name other : Name) (old new : Disk) → FailedLike model name old new → Widens other old new
widens_failed model name other old new failed = match_leads model _ _ (Widens other old new) (λ same. widens_same other old new same) (λ m maybe. widens_maybe m.now name other old new maybe) failed

pub takes_done : (told : Bool) (model : Option (Bor Name)) (name : Name) (s0 s1 : Scene) → (IsTrue told → IsSome (content_of s0 name)) → (IsTrue told → DoneLike model name s0.folder s1.folder)
    → MatchOption model (TakesMode told name name s0 s1) (λ m. TakesMode told m.now name s0 s1)
takes_done told None name s0 s1 there done = takes_still told name s0 s1 (λ is. mode_file name name Syncs s0.folder s1.folder (done is))
takes_done told (Some m) name s0 s1 there done = takes_liked told m.now name s0 s1 there done

module _ (told : Bool) (name : Name) {T E : Type 0} (result : Result T E) (s0 s1 : Scene) (frame : ChangesFolder s0 s1) (is_told : IsTrue told → IsTold Synced (name ∷ []) result s0 s1) where
  pub changes_answered : (model : Option (Bor Name)) → OnOk result (IsTrue told → DoneLike model name s0.folder s1.folder) → OnErr result (FailedLike model name s0.folder s1.folder)
      → IsTrue told → Runs (ChangesOne name) s0 s1
  changes_answered model ok err is = one_call (ChangesOne name) Synced (name ∷ []) result s0 s1 frame (is_told is)
      (either (IsTrue told → DoneLike model name s0.folder s1.folder) (FailedLike model name s0.folder s1.folder) (ChangesOne name s0.folder s1.folder) result ok err
      (λ done. match_leads model _ _ (ChangesOne name s0.folder s1.folder) (λ changes. changes_by name Syncs s0.folder s1.folder changes) (λ m changes. changes_liked m.now name s0.folder s1.folder changes) (done is))
      (λ failed. match_leads model _ _ (ChangesOne name s0.folder s1.folder) (λ same. changes_same name s0.folder s1.folder same) (λ m maybe. changes_maybe m.now name s0.folder s1.folder maybe) failed))

  pub makes_answered : (model : Option (Bor Name)) → OnOk result (IsTrue told → DoneLike model name s0.folder s1.folder) → OnErr result (FailedLike model name s0.folder s1.folder)
      → MatchOption model (Makes told None s0 s1) (λ m. Makes told (mode_in s0.folder m.now) s0 s1)
  makes_answered None ok err = makes_file told None Synced (name ∷ []) result s0 s1 frame is_told name Syncs ok err
  makes_answered (Some m) ok err = makes_liked told Synced (name ∷ []) result s0 s1 frame is_told m.now name ok err

-- ---- a mode that others leave alone
pub makes_spared : (told : Bool) (on : Name → Type 0) (name : Name) (s0 s1 s2 : Scene) → (on name → ⊥) → ChangesFolder s0 s1 → Makes told (mode_in s0.folder name) s0 s1 → (IsTrue told → Runs (Spares on) s0 s1)
    → Makes told (mode_in s1.folder name) s1 s2 → Makes told (mode_in s0.folder name) s0 s2
makes_spared told on name s0 s1 s2 not frame first spares second =
    makes_then frame first (makes_as (mode_in s1.folder name) (mode_in s0.folder name) (λ is. mode_spared on name s0.folder s1.folder not (spares is).now) second)

pub makes_starts : (told : Bool) (given : Option Mode) (s0 : Scene) → Makes told given s0 s0
makes_starts told given s0 = makes_looks told given s0 s0 (λ is. starts (λ a b. b ≡ a) s0 refl)

pub makes_looked : (told : Bool) (name : Name) (s0 s1 s2 : Scene) → ChangesFolder s0 s1 → (IsTrue told → Looks s0 s1) → Makes told (mode_in s1.folder name) s1 s2 → Makes told (mode_in s0.folder name) s0 s2
makes_looked told name s0 s1 s2 frame looks second = makes_then frame (makes_looks told (mode_in s0.folder name) s0 s1 looks)
    (makes_as (mode_in s1.folder name) (mode_in s0.folder name) (λ is. mode_same name s0.folder s1.folder (looks is).now) second)

pub makes_settled : (told : Bool) (name : Name) (s0 s1 s2 : Scene) → ChangesFolder s0 s1 → (IsTrue told → Steps Narrowed s0 s1) → Makes told (mode_in s1.folder name) s1 s2 → Makes told (mode_in s0.folder name) s0 s2
makes_settled told name s0 s1 s2 frame steps second = makes_then frame (makes_narrowed told (mode_in s0.folder name) s0 s1 steps)
    (makes_as (mode_in s1.folder name) (mode_in s0.folder name) (λ is. mode_narrowed name s0.folder s1.folder (narrowed_now s0 s1 (steps is))) second)

pub copies_filled : (told : Bool) (name backup : Name) (s0 s1 s2 : Scene) → CopiesMode told name backup s0 s1 → (IsTrue told → Runs (Fills name) s1 s2) → CopiesMode told name backup s0 s2
copies_filled told name backup s0 s1 s2 copies fills = record {
  file = λ is. mode_file name name KeepsImages s1.folder s2.folder (fills is).now ∙ copies.file is;
  copy = λ is. mode_file name backup KeepsImages s1.folder s2.folder (fills is).now ∙ copies.copy is;
}
