-- Calls that only read, and how many calls of each kind are made.
use Rattle.std.proofs.Common.{◌≡◌, inl, inr, ℕ, ◌+◌, ◌*◌, ◌≤◌, List, [], ◌∷◌, ◌++◌, length, length-append, take, length-take, false, Result, Ok, Err, OnOk, IsErr, IsTrue, refl, sym, ◌∙◌, ap, subst, arith}
use Rattle.std.proofs.lemmas.Bool.{true≢false}
use Rattle.std.specs.Result.{is_err}
use Rattle.std.specs.Prelude.{IsErrAnd, IsErrOf}
use Rattle.vs_pages.specs.declared.pages.PageErr.{PageErr}
use Rattle.vs_pages.specs.declared.pages.PageErr.TheVariants.{NoMemory, Failed}
use Rattle.vs_faults.specs.Faults.{HasCause, HasRisen}
use Rattle.vs_host.specs.File.{File}
use Rattle.vs_host.specs.Disk.{Disk, Name, ChangesFile}
use Rattle.vs_host.specs.Trace.{Kind, Snapshot, Each, GoesOn, Read}
use Rattle.vs_host.specs.World.{Tells, Scene, IsTold, ReadsFolder}
use Rattle.vs_disk.specs.Faults.{NeverFalls}
use Rattle.vs_disk.specs.Runs.{NoneFails}
use Rattle.vs_disk.proofs.Faults.{never_none, never_then}
use Rattle.vs_pages.specs.Maps.{Map}
use Rattle.vs_pair.specs.Acts.{Acts, JustReads, OnlyRead, WorksAtMost, one_read, reads_in}
use Rattle.vs_pair.specs.LentLaws.{reads_then}
use Rattle.vs_pair.specs.Writes.{HasRun}
use Rattle.vs_pair.proofs.Acts.{acts_none, acts_on, acts_then}
use Rattle.vs_pair.proofs.Calls.{look_acts}
use Rattle.vs_pair.proofs.PageWrites.{run_cut}

-- ---- how many calls

pub works_none : (tells : Tells) (scene : Scene) (calls reads : ℕ) → WorksAtMost tells scene scene calls reads
works_none tells scene calls reads = record { calls = λ told. omega arith; reads = λ told. omega arith }

one_longer : {T E : Type 0} (kind : Kind) (names : List Name) (n r : ℕ) → one_read kind ≡ r → n + r ≡ 1 → (result : Result T E) (old new : Scene) → IsTold kind names result old new
    → (length new.trace + reads_in old.trace ≤ length old.trace + reads_in new.trace + n) × (reads_in new.trace ≤ reads_in old.trace + r)
one_longer kind names n r is one result old new (inl told) = (omega (arith, is, one, ap length told, ap reads_in told), omega (arith, is, ap reads_in told))
one_longer kind names n r is one result old new (inr left) = (omega (arith, ap length left.1.trace, ap reads_in left.1.trace), omega (arith, ap reads_in left.1.trace))

-- one call: a read, or another
pub works_one : (tells : Tells) (kind : Kind) (names : List Name) (n r : ℕ) → one_read kind ≡ r → n + r ≡ 1 → {T E : Type 0} (result : Result T E) (old new : Scene) → (IsTrue tells.folder → IsTold kind names result old new)
    → WorksAtMost tells old new n r
works_one tells kind names n r is one result old new told = record {
  calls = λ tells_it. (one_longer kind names n r is one result old new (told tells_it)).0;
  reads = λ tells_it. (one_longer kind names n r is one result old new (told tells_it)).1;
}

pub works_then : (tells : Tells) (old mid new : Scene) (a b most c d reads : ℕ) → a + b ≤ most → c + d ≤ reads → WorksAtMost tells old mid a c → WorksAtMost tells mid new b d → WorksAtMost tells old new most reads
works_then tells old mid new a b most c d reads le few first second = record {
  calls = λ told. omega (arith, first.calls told, second.calls told, le);
  reads = λ told. omega (arith, first.reads told, second.reads told, few);
}

pub works_within : (tells : Tells) (old new : Scene) (a most c reads : ℕ) → a ≤ most → c ≤ reads → WorksAtMost tells old new a c → WorksAtMost tells old new most reads
works_within tells old new a most c reads le few within = record { calls = λ told. omega (arith, within.calls told, le); reads = λ told. omega (arith, within.reads told, few) }

-- ---- calls of which each reads

reads_more : (moments older : List Snapshot) → reads_in (moments ++ older) ≡ reads_in moments + reads_in older
reads_more [] older = omega arith
reads_more (m ∷ ms) older = omega (arith, reads_more ms older)

one_few : (kind : Kind) → one_read kind ≤ 1
one_few Read = omega arith
one_few kind = omega arith

is_read : (kind : Kind) → 1 ≤ one_read kind → kind ≡ Read
is_read Read one = refl
is_read kind one = absurd (omega (arith, one))

reads_few : (moments : List Snapshot) → reads_in moments ≤ length moments
reads_few [] = omega arith
reads_few (m ∷ ms) = omega (arith, one_few m.kind, reads_few ms)

all_read : (moments : List Snapshot) → length moments ≤ reads_in moments → Each (λ m. m.kind ≡ Read) moments
all_read [] least = tt
all_read (m ∷ ms) least = (is_read m.kind (omega (arith, least, reads_few ms)), all_read ms (omega (arith, least, one_few m.kind)))

-- as many reads as calls
pub just_reads : {P : Snapshot → Type 0} (old new : Scene) → GoesOn P old.trace new.trace → length new.trace + reads_in old.trace ≤ length old.trace + reads_in new.trace + 0 → JustReads old new
just_reads old new goes counts = record {
  added = goes.added;
  is = goes.is;
  each = all_read goes.added (omega (arith, counts, ap length goes.is, ap reads_in goes.is, length-append goes.added old.trace, reads_more goes.added old.trace));
}

-- ---- calls that only read

pub only_none : (tells : Tells) (Fault : Type 0) (scene : Scene) (most : ℕ) → (Fault → ⊥) → OnlyRead tells Fault scene scene most
only_none tells Fault scene most never = record {
  frame = refl;
  cause = record { later = omega arith; risen = λ failed. absurd (never failed) };
  acts = acts_none tells (λ a b. b ≡ a) scene refl;
  counts = λ told. never_none scene;
  works = works_none tells scene 0 most;
}

counts_one : {T E : Type 0} (kind : Kind) (names : List Name) (result : Result T E) (old new : Scene) → ReadsFolder old new → old.folder_faults ≤ new.folder_faults → IsTold kind names result old new → NeverFalls old new
counts_one kind names result old new frame later (inl told) = record {
  later = later;
  moments = record {
    added = _ ∷ [];
    is = told;
    each = (record { script = ap (λ (s : Scene). s.script_faults) frame; out = ap (λ (s : Scene). s.out_faults) frame; least = later; most = omega arith }, tt);
  };
}
counts_one kind names result old new frame later (inr left) = record { later = later; moments = record { added = []; is = left.1.trace; each = tt } }

pub only_call : (tells : Tells) (names : List Name) {T E : Type 0} (result : Result T E) (old new : Scene) → ReadsFolder old new → HasCause old.folder_faults new.folder_faults (IsErr result)
    → (IsTrue tells.folder → IsTold Read names result old new) → OnlyRead tells (IsErr result) old new 1
only_call tells names result old new frame cause told = record {
  frame = frame;
  cause = cause;
  acts = look_acts tells (λ a b. b ≡ a) Read names result old new frame cause told (λ tells_it. refl);
  counts = λ tells_it. counts_one Read names result old new frame cause.later (told tells_it);
  works = works_one tells Read names 0 1 refl refl result old new told;
}

pub only_as : (tells : Tells) (A B : Type 0) (old new : Scene) (a most : ℕ) → a ≤ most → (B → A) → OnlyRead tells A old new a → OnlyRead tells B old new most
only_as tells A B old new a most le leads reads = record {
  frame = reads.frame;
  cause = record { later = reads.cause.later; risen = λ b. reads.cause.risen (leads b) };
  acts = reads.acts;
  counts = reads.counts;
  works = works_within tells old new 0 0 a most (omega arith) le reads.works;
}

risen_then : (a b c : ℕ) → a ≤ b → HasRisen b c → HasRisen a c
risen_then a b c le (inl less) = inl (omega (arith, le, less))
risen_then a b c le (inr full) = inr full

-- reads after others of which none failed
pub only_then : (tells : Tells) (A B : Type 0) (old mid new : Scene) (a b most : ℕ) → a + b ≤ most → NoneFails tells old mid → OnlyRead tells A old mid a → OnlyRead tells B mid new b → OnlyRead tells B old new most
only_then tells A B old mid new a b most le none first second = record {
  frame = reads_then old mid new first.frame second.frame;
  cause = record { later = omega (arith, first.cause.later, second.cause.later); risen = λ b. risen_then old.folder_faults mid.folder_faults new.folder_faults first.cause.later (second.cause.risen b) };
  acts = acts_on tells (λ a b. b ≡ a) (λ a b c one two. two ∙ one) old mid new none first.acts second.acts;
  counts = λ told. never_then old mid new first.frame (first.counts told) (second.counts told);
  works = works_then tells old mid new 0 0 0 a b most (omega arith) le first.works second.works;
}

pub only_folder : (tells : Tells) (A : Type 0) (old new : Scene) (most : ℕ) → OnlyRead tells A old new most → new.folder ≡ old.folder
only_folder tells A old new most reads = ap (λ (s : Scene). s.folder) reads.frame

-- reads after work on a file
pub acts_reads : (tells : Tells) (name : Name) (S : File → File → Type 0) (A : Type 0) (old mid new : Scene) (most : ℕ) → NoneFails tells old mid → Acts tells (ChangesFile name S) old mid → OnlyRead tells A mid new most
    → Acts tells (ChangesFile name S) old new
acts_reads tells name S A old mid new most none first reads =
    acts_then tells (ChangesFile name S) (λ a b. b ≡ a) (ChangesFile name S) old mid new (λ told d s. s) (λ told here d same. subst (λ (e : Disk). ChangesFile name S old.folder e) (sym same) here) none first reads.acts

-- ---- a run that is written

pub run_size : (count size : ℕ) (run : List ℕ) → size ≡ count * 4096 → 4096 * count ≤ length run → length (take size run) ≡ 4096 * count
run_size count size run is room = omega (arith, length-take size run, is, room)

pub run_piece : (map : Map) (at count size : ℕ) (run : List ℕ) → size ≡ count * 4096 → 4096 * count ≤ length run → HasRun map at count run → HasRun map at count (take size run)
run_piece map at count size run is room has = run_cut map at count size run (omega (arith, is)) (omega (arith, is, room)) has

-- ---- what is answered

pub is_failed : {T E : Type 0} (r : Result T E) (e : E) → r ≡ Err e → IsErr r
is_failed (Ok done) e is = absurd (cc)
is_failed (Err failed) e is = refl

pub ok_of : {T E : Type 0} (r : Result T E) (A : Type 0) → is_err r ≡ false → OnOk r A → A
ok_of (Ok done) A is a = a
ok_of (Err failed) A is a = absurd (true≢false is)

pub not_failed : {T : Type 0} (r : Result T PageErr) → IsErrAnd r (λ e. e ≡ NoMemory) → IsErrOf r Failed → ⊥
not_failed (Ok done) is of = cc of
not_failed (Err e) is of = let same : e ≡ Failed = cc in let clash : NoMemory ≡ Failed = sym is ∙ same in cc clash

pub same_failed : {T S : Type 0} (r : Result T PageErr) (s : Result S PageErr) (e : PageErr) → s ≡ Err e → IsErrAnd r (λ x. x ≡ e) → IsErrOf r Failed → IsErrOf s Failed
same_failed (Ok done) s e was is of = absurd (cc of)
same_failed (Err x) s e was is of = let same : x ≡ Failed = cc in was ∙ ap (λ (y : PageErr). Err y) (sym is ∙ same)

pub failed_same : {T S : Type 0} (r : Result T PageErr) (s : Result S PageErr) (e : PageErr) → s ≡ Err e → IsErrAnd r (λ x. x ≡ e) → IsErrOf s Failed → IsErrOf r Failed
failed_same (Ok done) s e was is of = absurd is
failed_same (Err x) s e was is of = let same : e ≡ Failed = let clash : Err e ≡ Err Failed = sym was ∙ of in cc in ap (λ (y : PageErr). Err y) (is ∙ same)

pub not_ok_failed : {T : Type 0} (r : Result T PageErr) (x : T) → r ≡ Ok x → IsErrOf r Failed → ⊥
not_ok_failed (Ok done) x is of = cc of
not_ok_failed (Err e) x is of = absurd (cc)
