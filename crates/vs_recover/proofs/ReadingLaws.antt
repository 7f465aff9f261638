-- How reading goes on: after a part in which no call failed, one part more.
use Rattle.std.proofs.Common.{◌≡◌, ◌≤◌, ◌+◌, ◌-◌, ◌/◌, length, Err, Ok, ℕ, List, Option, Some, None, Result, IsTrue, IsSome, is_some, true, refl, sym, ◌∙◌, ap, subst, arith}
use Rattle.std.specs.Prelude.{IsErr, IsErrAnd, IsErrOf, IsSomeAnd, IfSome}
use Rattle.vs_text.specs.Documents.{Document}
use Rattle.vs_faults.specs.Faults.{HasCause}
use Rattle.vs_faults.proofs.Causes.{HasCause-then, HasCause-weaker, cause_none}
use Rattle.vs_host.specs.Disk.{Name}
use Rattle.vs_host.specs.Trace.{Kind}
use Rattle.vs_host.specs.World.{Tells, Scene, IsTold, ReadsFolder, content_of}
use Rattle.vs_disk.specs.Runs.{NoneFails}
use Rattle.vs_disk.proofs.Quiet.{calls_none, calls_one, calls_then, last_then, none_call, none_fails, none_then}
use Rattle.vs_disk.proofs.Runs.{reads_change, starts, one_look, looks_on, fails_none, fails_call}
use Rattle.vs_recover.specs.declared.error.Fault.{Fault}
use Rattle.vs_recover.specs.declared.error.Fault.TheVariants as fault
use Rattle.vs_recover.specs.declared.error.RecErr.{RecErr}
use Rattle.vs_recover.specs.declared.error.RecErr.TheVariants as error
use Rattle.vs_recover.specs.declared.image.Opening.{Opening}
use Rattle.vs_recover.specs.Choices.{IsOpening, IsStanding, Recovers, root_of}
use Rattle.vs_recover.specs.Faults.{error_of}
use Rattle.vs_recover.specs.Files.{IsFile}
use Rattle.vs_recover.specs.Reading.{IsThere, ReadsAtMost, UnlessErrOf, blocks_at, blocks_of}

-- ---- answers that fail alike

-- what holds unless one error is the answer holds unless another is, where the answers fail alike
unless_as : {T U E D : Type 0} (P : Type 0) (found : Result T E) (result : Result U D) (e : E) (d : D) → (IsErrOf found e → IsErrOf result d) → UnlessErrOf found e P → UnlessErrOf result d P
unless_as P (Ok x) (Ok y) e d so holds = holds
unless_as P (Ok x) (Err why) e d so holds = λ not. holds
unless_as P (Err why) (Ok y) e d so holds = holds (λ is. let same : Ok y ≡ Err d = so (ap (λ w. Err w) is) in cc)
unless_as P (Err why) (Err other) e d so holds = λ not. holds (λ is. let same : Err other ≡ Err d = so (ap (λ w. Err w) is) in not (cc))

unless_leads : {T E : Type 0} (P Q : Type 0) (result : Result T E) (e : E) → (P → Q) → UnlessErrOf result e P → UnlessErrOf result e Q
unless_leads P Q (Ok x) e leads holds = leads holds
unless_leads P Q (Err why) e leads holds = λ not. leads (holds not)

always : {T E : Type 0} (P : Type 0) (result : Result T E) (e : E) → P → UnlessErrOf result e P
always P (Ok x) e holds = holds
always P (Err why) e holds = λ not. holds

never : {T E : Type 0} (P : Type 0) (result : Result T E) (e : E) → IsErrAnd result (λ why. why ≡ e) → UnlessErrOf result e P
never P (Ok x) e is = absurd is
never P (Err why) e is = λ not. absurd (not is)

-- the answer fails where the one that was found does, and nowhere else
pub reads_as : {T U E D : Type 0} {found : Result T E} {result : Result U D} {e : E} {d : D} {tells : Tells} {old new : Scene} {most : ℕ} → (IsErrOf found e → IsErrOf result d) → (IsErrOf result d → IsErrOf found e)
    → ReadsAtMost tells found e old new most → ReadsAtMost tells result d old new most
reads_as {found} {result} {e} {d} {tells} {old} {new} so back reads = record {
  frame = reads.frame;
  looks = reads.looks;
  last = reads.last;
  none = unless_as (NoneFails tells old new) found result e d so reads.none;
  cause = HasCause-weaker reads.cause back;
  calls = reads.calls;
}

pub reads_within : {T E : Type 0} {result : Result T E} {failed : E} {tells : Tells} {old new : Scene} {count most : ℕ} → (IsTrue tells.folder → count ≤ most) → ReadsAtMost tells result failed old new count → ReadsAtMost tells result failed old new most
reads_within within reads = record {
  frame = reads.frame;
  looks = reads.looks;
  last = reads.last;
  none = reads.none;
  cause = reads.cause;
  calls = record { calls = λ told. omega (arith, reads.calls.calls told, within told) };
}

-- ---- no call, and one call

pub reads_none : {T E : Type 0} {result : Result T E} {failed : E} {scene : Scene} {most : ℕ} (tells : Tells) → (IsErrOf result failed → ⊥) → ReadsAtMost tells result failed scene scene most
reads_none {result} {failed} {scene} {most} tells other = record {
  frame = refl;
  looks = λ told. starts (λ a b. b ≡ a) scene refl;
  last = λ told. fails_none scene;
  none = always (NoneFails tells scene scene) result failed (none_fails tells scene);
  cause = cause_none other;
  calls = calls_none tells scene most;
}

module _ (tells : Tells) (kind : Kind) (names : List Name) {T D : Type 0} (call : Result T D) (old new : Scene) (frame : ReadsFolder old new) (told : IsTrue tells.folder → IsTold kind names call old new) where
  reads_call : {U E : Type 0} (result : Result U E) (failed : E) → UnlessErrOf result failed (NoneFails tells old new) → HasCause old.folder_faults new.folder_faults (IsErrOf result failed) → ReadsAtMost tells result failed old new 1
  reads_call result failed none cause = record {
    frame = frame;
    looks = λ tells_it. one_look kind names call old new frame (told tells_it);
    last = λ tells_it. fails_call kind names call old new (told tells_it);
    none = none;
    cause = cause;
    calls = calls_one tells kind names call old new told;
  }

  -- the call did not fail
  pub reads_called : {U E : Type 0} {x : U} {failed : E} → new.folder_faults ≡ old.folder_faults → ReadsAtMost tells {T = U} {E = E} (Ok x) failed old new 1
  reads_called {x} {failed} same = reads_call (Ok x) failed (none_call tells kind names call old new (reads_change old new frame) told same) (record { later = omega (arith, same); risen = λ is. absurd (cc) })

  -- it failed
  pub reads_failed : {U E : Type 0} {result : Result U E} {failed : E} {why : D} → HasCause old.folder_faults new.folder_faults (IsErr call) → call ≡ Err why → IsErrAnd result (λ e. e ≡ failed) → ReadsAtMost tells result failed old new 1
  reads_failed {result} {failed} cause was is = reads_call result failed (never (NoneFails tells old new) result failed is) (HasCause-weaker cause (λ same. rw was refl))

-- ---- after a part in which no call failed

frame_then : (a b c : Scene) → ReadsFolder a b → ReadsFolder b c → ReadsFolder a c
frame_then a b c first second = second ∙ ap (λ (s : Scene). record s { folder_faults = c.folder_faults; trace = c.trace }) first

-- one part more
pub reads_then : {T E U D : Type 0} {x : T} {e : E} {found : Result U D} {d : D} {tells : Tells} {old mid new : Scene} {a b : ℕ} → ReadsAtMost tells {T = T} {E = E} (Ok x) e old mid a → ReadsAtMost tells found d mid new b
    → ReadsAtMost tells found d old new (a + b)
reads_then {found} {d} {tells} {old} {mid} {new} {a} {b} first second = record {
  frame = frame_then old mid new first.frame second.frame;
  looks = λ told. looks_on old mid new (reads_change old mid first.frame) (first.looks told) (second.looks told);
  last = λ told. last_then old mid new (first.none.quiet told) (second.last told);
  none = unless_leads (NoneFails tells mid new) (NoneFails tells old new) found d (λ none. none_then tells old mid new first.none none) second.none;
  cause = HasCause-then first.cause second.cause;
  calls = calls_then tells old mid new a b (a + b) (omega arith) first.calls second.calls;
}

-- the answer is not that a call failed
pub reads_ended : {T U E D : Type 0} {x : T} {result : Result U D} {e : E} {d : D} {tells : Tells} {old new : Scene} {count most : ℕ} → (IsErrOf result d → ⊥) → count ≤ most
    → ReadsAtMost tells {T = T} {E = E} (Ok x) e old new count → ReadsAtMost tells result d old new most
reads_ended other within reads = reads_within (λ told. within) (reads_as (λ is. absurd (cc)) (λ is. absurd (other is)) reads)

pub reads_ok : {T U E D : Type 0} {x : T} {y : U} {e : E} {d : D} {tells : Tells} {old new : Scene} {count most : ℕ} → count ≤ most → ReadsAtMost tells {T = T} {E = E} (Ok x) e old new count → ReadsAtMost tells {T = U} {E = D} (Ok y) d old new most
reads_ok within reads = reads_ended (λ is. cc) within reads

-- ---- an error is handed on

pub err_is : {T E : Type 0} {why : E} (result : Result T E) → IsErrAnd result (λ e. e ≡ why) → result ≡ Err why
err_is (Ok x) is = absurd is
err_is (Err e) is = ap (λ w. Err w) is

pub reads_passed : {T U E : Type 0} {found : Result T E} {result : Result U E} {why e : E} {tells : Tells} {old new : Scene} {count most : ℕ} → found ≡ Err why → IsErrAnd result (λ x. x ≡ why) → count ≤ most
    → ReadsAtMost tells found e old new count → ReadsAtMost tells result e old new most
reads_passed {found} {result} was is within reads = let same = err_is result is in reads_within (λ told. within) (reads_as (λ failed. cc) (λ failed. cc) reads)

-- there was no memory
pub no_memory : {T : Type 0} (result : Result T Fault) → IsErrAnd result (λ e. e ≡ fault.NoMemory) → IsErrOf result fault.Failed → ⊥
no_memory result is failed = let same = err_is result is in cc

pub fault_failed : (f : Fault) → error_of f ≡ error.Failed → f ≡ fault.Failed
fault_failed fault.Failed is = refl
fault_failed fault.NoMemory is = absurd (cc)

pub reads_refused : {T U : Type 0} {found : Result T Fault} {f : Fault} {why : RecErr} {tells : Tells} {old new : Scene} {count most : ℕ} → found ≡ Err f → why ≡ error_of f → count ≤ most
    → ReadsAtMost tells found fault.Failed old new count → ReadsAtMost tells {T = U} {E = RecErr} (Err why) error.Failed old new most
reads_refused {f} was is within reads =
    reads_within (λ told. within) (reads_as (λ failed. let same : f ≡ fault.Failed = cc in ap (λ w. Err w) (is ∙ ap error_of same)) (λ failed. was ∙ ap (λ w. Err w) (fault_failed f (cc))) reads)

-- ---- the file that is read

there_at : (P : List ℕ → Type 0) (o : Option (List ℕ)) (file : List ℕ) → o ≡ Some file → IsSomeAnd o P → P file
there_at P None file is has = absurd (cc)
there_at P (Some bytes) file is has = let e : bytes ≡ file = cc in subst P e has

-- what is said of the file that is there is said of this file
pub file_has : (tells : Tells) (scene : Scene) (name file : List ℕ) (P : List ℕ → Type 0) → IsThere tells scene name P → IsFile tells scene name file → P file
file_has tells scene name file P there is = there_at P (content_of scene name) file is.there (there is.told)

some_as : (o : Option (List ℕ)) (P Q : List ℕ → Type 0) → ((file : List ℕ) → P file → Q file) → IsSomeAnd o P → IsSomeAnd o Q
some_as None P Q leads has = absurd has
some_as (Some file) P Q leads has = leads file has

pub there_as : (tells : Tells) (scene : Scene) (name : List ℕ) (P Q : List ℕ → Type 0) → ((file : List ℕ) → P file → Q file) → IsThere tells scene name P → IsThere tells scene name Q
there_as tells scene name P Q leads there = λ told. some_as (content_of scene name) P Q leads (there told)

some_found : (o : Option (List ℕ)) (P Q : List ℕ → Type 0) → ((file : List ℕ) → o ≡ Some file → Q file) → IsSomeAnd o P → IsSomeAnd o Q
some_found None P Q leads has = absurd has
some_found (Some file) P Q leads has = leads file refl

-- what holds of this file is said of the file that is there
pub there_by : (tells : Tells) (scene : Scene) (name : List ℕ) (P Q : List ℕ → Type 0) → ((file : List ℕ) → IsFile tells scene name file → Q file) → IsThere tells scene name P → IsThere tells scene name Q
there_by tells scene name P Q leads there = λ told. some_found (content_of scene name) P Q (λ file is. leads file (record { told = told; there = is })) (there told)

if_there : (o : Option (List ℕ)) (P : List ℕ → Type 0) → IsSome o → IfSome o P → IsSomeAnd o P
if_there None P some has = absurd (cc)
if_there (Some file) P some has = has

pub measured : (tells : Tells) (scene : Scene) (name : List ℕ) (P : List ℕ → Type 0) → (IsTrue tells.folder → IsSome (content_of scene name)) → (IsTrue tells.folder → IfSome (content_of scene name) P) → IsThere tells scene name P
measured tells scene name P some has = λ told. if_there (content_of scene name) P (some told) (has told)

-- ---- how many pages follow page 0

blocks_by : (o : Option (List ℕ)) (len : ℕ) → IsSomeAnd o (λ file. len ≡ length file) → len / 4096 - 1 ≡ blocks_of o
blocks_by None len has = absurd has
blocks_by (Some file) len has = ap (λ n. n / 4096 - 1) has

-- by the length that was read
pub reads_blocks : {T E : Type 0} {result : Result T E} {failed : E} {tells : Tells} {old new : Scene} (name : Name) (len : ℕ) → IsThere tells old name (λ file. len ≡ length file)
    → ReadsAtMost tells result failed old new (len / 4096 - 1) → ReadsAtMost tells result failed old new (blocks_at old name)
reads_blocks {old} name len there reads = reads_within (λ told. omega (arith, blocks_by (content_of old name) len (there told))) reads

-- ---- a call that reads the folder leaves it

module _ {T E : Type 0} {result : Result T E} {failed : E} {tells : Tells} {old new : Scene} {most : ℕ} (reads : ReadsAtMost tells result failed old new most) where
  pub still : (name : Name) → content_of new name ≡ content_of old name
  still name = ap (λ (s : Scene). content_of s name) reads.frame

  pub file_stays : {name file : List ℕ} → IsFile tells old name file → IsFile tells new name file
  file_stays {name} is = record { told = is.told; there = still name ∙ is.there }

  pub file_was : {name file : List ℕ} → IsFile tells new name file → IsFile tells old name file
  file_was {name} is = record { told = is.told; there = sym (still name) ∙ is.there }

  pub there_stays : (name : Name) (P : List ℕ → Type 0) → IsThere tells old name P → IsThere tells new name P
  there_stays name P there told = subst (λ (o : Option (List ℕ)). IsSomeAnd o P) (sym (still name)) (there told)

  pub there_was : (name : Name) (P : List ℕ → Type 0) → IsThere tells new name P → IsThere tells old name P
  there_was name P there told = subst (λ (o : Option (List ℕ)). IsSomeAnd o P) (still name) (there told)

  -- a file that was found is there
  pub there_found : (name : Name) → (IsTrue tells.folder → true ≡ is_some (content_of old name)) → IsTrue tells.folder → IsSome (content_of new name)
  there_found name is told = subst (λ (o : Option (List ℕ)). IsSome o) (sym (still name)) (sym (is told))

  pub opening_stays : (name : Name) (found : Option Opening) → (IsTrue tells.folder → IsOpening (content_of old name) found) → IsTrue tells.folder → IsOpening (content_of new name) found
  opening_stays name found opening told = subst (λ (o : Option (List ℕ)). IsOpening o found) (sym (still name)) (opening told)

  pub standing_was : (name : Name) (found : Option Document) → IsStanding (content_of new name) found → IsStanding (content_of old name) found
  standing_was name found is = subst (λ (o : Option (List ℕ)). IsStanding o found) (still name) is

  pub recovers_was : (swp swo : Name) (found : Option Document) → Recovers (content_of new swp) (content_of new swo) found → Recovers (content_of old swp) (content_of old swo) found
  recovers_was swp swo found is = subst (λ (s : Scene). Recovers (content_of s swp) (content_of s swo) found) reads.frame is

  pub root_was : (name : Name) → root_of (content_of new name) ≡ root_of (content_of old name)
  root_was name = ap (λ (o : Option (List ℕ)). root_of o) (still name)

  pub blocks_stay : (name : Name) → blocks_at new name ≡ blocks_at old name
  blocks_stay name = ap (λ (o : Option (List ℕ)). blocks_of o) (still name)
