-- One look at the folder after another, and what an opening makes of it.
use Rattle.std.proofs.Common.{◌≡◌, inl, inr, ℕ, List, Option, Some, None, Result, Ok, Err, IsErr, IsErrAnd, IsErrOf, IfSome, IsSome, IsTrue, OnOk, refl, sym, ◌∙◌, subst}
use Rattle.vs_faults.specs.Faults.{HasCause}
use Rattle.vs_faults.proofs.Causes.{HasCause-trans}
use Rattle.vs_host.specs.Disk.{Disk, Name, IsImage, IsImageOf, content_in}
use Rattle.vs_host.specs.Trace.{Kind}
use Rattle.vs_host.specs.Names.{names_of_file}
use Rattle.vs_host.specs.World.{Tells, Scene, IsTold, ReadsFolder}
use Rattle.vs_host.specs.declared.names.Names.{Names}
use Rattle.vs_disk.proofs.Others.{same_none}
use Rattle.vs_disk.specs.Runs.{NoneFails}
use Rattle.vs_pair.specs.Acts.{Acts}
use Rattle.vs_pair.specs.Pair.{Image, NoneThere, is_foreign}
use Rattle.vs_pair.specs.Steps.{IsAbsent, IsFresh}
use Rattle.vs_pair.proofs.Calls.{look_acts, look_none}
use Rattle.vs_disk.proofs.Quiet.{none_fails, none_then}
use Rattle.vs_pair.proofs.Acts.{acts_none, acts_as, acts_on, acts_then}
use Rattle.vs_text.specs.Documents.{document_of}
use Rattle.vs_text.specs.Limits.{IsWithinLimits}
use Rattle.vs_paged.specs.Fits.{Starting}
use Rattle.vs_paged.proofs.SyncLemmas.{on_ok_as}
use Rattle.vs_session.specs.Open.{IsLook, IsReading, IsTooLarge, KeepsToLimits, OnlyLooks}
use Rattle.vs_session.specs.declared.open.OpenErr.{OpenErr}
use Rattle.vs_session.specs.declared.open.OpenErr.TheVariants as opening
use Rattle.vs_text.specs.Documents.{Document}
use Rattle.vs_session.specs.Opened.{document_of_file}
use Rattle.vs_session.specs.Fits.{HasSwap, IsSettled, Opens}
use Rattle.vs_session.proofs.OpenLemmas.{ReadsFolder-trans, err_is, handed_back, handed_on, never_other}

pub looks_none : (tells : Tells) (scene : Scene) → OnlyLooks tells scene scene
looks_none tells scene = acts_none tells (λ a b. b ≡ a) scene refl

pub looks_then : (tells : Tells) (old mid new : Scene) → NoneFails tells old mid → OnlyLooks tells old mid → OnlyLooks tells mid new → OnlyLooks tells old new
looks_then tells old mid new none first second = acts_on tells (λ a b. b ≡ a) (λ a b c one two. two ∙ one) old mid new none first second

on_ok_all : {T E A : Type 0} (result : Result T E) → A → OnOk result A
on_ok_all (Ok x) a = a
on_ok_all (Err e) a = tt

-- an error is no value
on_ok_never : {T : Type 0} (A : Type 0) (result : Result T OpenErr) (error : OpenErr) → IsErrAnd result (λ e. e ≡ error) → OnOk result A
on_ok_never A (Ok x) error is = absurd is
on_ok_never A (Err e) error is = tt

-- one call
pub is_look : {T E : Type 0} (tells : Tells) (kind : Kind) (names : List Name) (result : Result T E) (old new : Scene) → ReadsFolder old new → HasCause old.folder_faults new.folder_faults (IsErr result)
    → (IsTrue tells.folder → IsTold kind names result old new) → OnOk result (new.folder_faults ≡ old.folder_faults) → IsLook tells result (IsErr result) old new
is_look tells kind names result old new frame cause told quiet = record {
  frame = frame;
  looks = look_acts tells (λ a b. b ≡ a) kind names result old new frame cause told (λ tells_it. refl);
  none = on_ok_as result (new.folder_faults ≡ old.folder_faults) (NoneFails tells old new) (λ same. look_none tells kind names result old new frame told same) quiet;
  cause = cause;
}

-- after calls none of which failed
pub IsLook-loop : {T E F : Type 0} (tells : Tells) (result : Result T E) (old new : Scene) → ReadsFolder old new → OnlyLooks tells old new → NoneFails tells old new → (F → ⊥) → IsLook tells result F old new
IsLook-loop tells result old new frame looks none never = record { frame = frame; looks = looks; none = on_ok_all result none; cause = record { later = looks.later; risen = λ failed. absurd (never failed) } }

pub IsLook-ended : (tells : Tells) (old new : Scene) → ReadsFolder old new → OnlyLooks tells old new → NoneFails tells old new → IsLook {T = Unit {0}} {E = Unit {0}} tells (Ok tt) ⊥ old new
IsLook-ended tells old new frame looks none = IsLook-loop tells (Ok tt) old new frame looks none (λ never. never)

-- a look after one that succeeded
pub IsLook-then : {T E F U V G W X H : Type 0} {x : T} {second : Result U V} {old mid new : Scene} (tells : Tells) (result : Result W X) → IsLook {T = T} {E = E} tells (Ok x) F old mid → IsLook tells second G mid new
    → (OnOk second (NoneFails tells mid new) → OnOk result (NoneFails tells mid new)) → (H → G) → IsLook tells result H old new
IsLook-then {old} {mid} {new} tells result first next carry so = record {
  frame = ReadsFolder-trans old mid new first.frame next.frame;
  looks = looks_then tells old mid new first.none first.looks next.looks;
  none = on_ok_as result (NoneFails tells mid new) (NoneFails tells old new) (λ quiet. none_then tells old mid new first.none quiet) (carry next.none);
  cause = HasCause-trans first.cause next.cause (λ failed. inr (so failed));
}

-- the same, where what was looked at is refused
pub IsLook-refused : {T E F U V G W H : Type 0} {x : T} {second : Result U V} {old mid new : Scene} (tells : Tells) (result : Result W OpenErr) (error : OpenErr) → IsLook {T = T} {E = E} tells (Ok x) F old mid → IsLook tells second G mid new
    → IsErrAnd result (λ e. e ≡ error) → (H → G) → IsLook tells result H old new
IsLook-refused {mid} {new} tells result error first next is so = IsLook-then tells result first next (λ none. on_ok_never (NoneFails tells mid new) result error is) so

-- two looks that succeeded
pub IsLook-both : {T E U V F G : Type 0} {x : T} {y : U} {old mid new : Scene} (tells : Tells) → IsLook {T = T} {E = E} tells (Ok x) F old mid → IsLook {T = U} {E = V} tells (Ok y) G mid new → IsLook {T = U} {E = V} tells (Ok y) G old new
IsLook-both {y} tells first next = IsLook-then tells (Ok y) first next (λ none. none) (λ failed. failed)

-- ---- reading

-- where no call failed
pub IsReading-calm : {T : Type 0} (tells : Tells) (result : Result T OpenErr) (old new : Scene) → ReadsFolder old new → OnlyLooks tells old new → NoneFails tells old new → (IsErrOf result opening.Failed → ⊥) → IsReading tells result old new
IsReading-calm tells result old new frame looks none never = record { look = IsLook-loop tells result old new frame looks none never; quiet = λ other. none.faults }

pub IsReading-none : {T : Type 0} (tells : Tells) (result : Result T OpenErr) (scene : Scene) → (IsErrOf result opening.Failed → ⊥) → IsReading tells result scene scene
IsReading-none tells result scene never = IsReading-calm tells result scene scene refl (looks_none tells scene) (none_fails tells scene) never

-- a call that failed, after looks that did not
pub IsReading-failed : {T E F U V W G : Type 0} {x : T} {second : Result U V} {old mid new : Scene} (tells : Tells) (result : Result W OpenErr) → IsLook {T = T} {E = E} tells (Ok x) F old mid → IsLook tells second G mid new → G
    → IsErrAnd result (λ e. e ≡ opening.Failed) → IsReading tells result old new
IsReading-failed tells result first next failed is = record {
  look = IsLook-refused tells result opening.Failed first next is (λ same. failed);
  quiet = λ other. absurd (other (handed_on result opening.Failed opening.Failed is refl));
}

-- the first call failed
pub IsReading-first : {U V W G : Type 0} {first : Result U V} {old new : Scene} (tells : Tells) (result : Result W OpenErr) → IsLook tells first G old new → G → IsErrAnd result (λ e. e ≡ opening.Failed) → IsReading tells result old new
IsReading-first {old} tells result first failed is = IsReading-failed tells result (IsLook-ended tells old old refl (looks_none tells old) (none_fails tells old)) first failed is

-- reading that was refused, after looks that did not fail
pub IsReading-refused : {T E F U W : Type 0} {x : T} {second : Result U OpenErr} {old mid new : Scene} (tells : Tells) (result : Result W OpenErr) (error : OpenErr) → IsLook {T = T} {E = E} tells (Ok x) F old mid → IsReading tells second mid new
    → IsErrAnd result (λ e. e ≡ error) → (IsErrOf result opening.Failed → IsErrOf second opening.Failed) → (IsErrOf second opening.Failed → IsErrOf result opening.Failed) → IsReading tells result old new
IsReading-refused tells result error first next is so back = record {
  look = IsLook-refused tells result error first next.look is so;
  quiet = λ other. next.quiet (λ failed. other (back failed)) ∙ first.none.faults;
}

-- reading that was refused is refused so where the error is handed on
pub IsReading-handed : {U W : Type 0} {e : OpenErr} {old new : Scene} (tells : Tells) (result : Result W OpenErr) → IsReading {T = U} tells (Err e) old new → IsErrAnd result (λ x. x ≡ e) → IsReading tells result old new
IsReading-handed {e} {old} tells result reads is =
    IsReading-refused tells result e (IsLook-ended tells old old refl (looks_none tells old) (none_fails tells old)) reads is (handed_back result e opening.Failed is) (λ of. handed_on result e opening.Failed is (err_is of))

-- ---- limits

pub KeepsToLimits-refused : {T : Type 0} (tells : Tells) (result : Result T OpenErr) (file : Option (List ℕ)) (error : OpenErr) → IsErrAnd result (λ e. e ≡ error)
    → ((size : ℕ) → IsErrOf result (opening.TextLimit size) → IsTooLarge tells size file) → KeepsToLimits tells result file
KeepsToLimits-refused tells result file error is limit = record { within = on_ok_never (IsTrue tells.folder → IfSome file (λ bytes. IsWithinLimits ((document_of bytes).text))) result error is; limit = limit }

-- refused for something else
pub KeepsToLimits-other : {T : Type 0} (tells : Tells) (result : Result T OpenErr) (file : Option (List ℕ)) (error : OpenErr) → IsErrAnd result (λ e. e ≡ error) → ((size : ℕ) → error ≡ opening.TextLimit size → ⊥) → KeepsToLimits tells result file
KeepsToLimits-other tells result file error is differ = KeepsToLimits-refused tells result file error is (λ size of. absurd (never_other result error (opening.TextLimit size) is (differ size) of))

-- ---- a folder without swap files

none_of : (found : Option (List ℕ)) → (IsSome found → ⊥) → found ≡ None
none_of None none = refl
none_of (Some bytes) none = absurd (none refl)

pub is_fresh : (names : Names) (disk : Disk) → IsSettled names disk → (HasSwap names disk → ⊥) → IsFresh names disk
is_fresh names disk settled none = record {
  no_swp = settled.swp (none_of (content_in disk names.swp) (λ some. none (inl some)));
  no_swo = settled.swo (none_of (content_in disk names.swo) (λ some. none (inr some)));
}

absent_in : (disk : Disk) (name : List ℕ) → IsAbsent name disk → (image : Image) → IsImage disk image → image name ≡ None
absent_in disk name absent image whole = subst (λ (o : Option ℕ). IsImageOf disk o (image name)) (absent whole.0) (whole.1 name)

none_there : (names : Names) (disk : Disk) → IsFresh names disk → (image : Image) → IsImage disk image → NoneThere names image
none_there names disk fresh image whole = (absent_in disk names.swp fresh.no_swp image whole, absent_in disk names.swo fresh.no_swo image whole)

-- ---- the opening

opens_same : (name : List ℕ) (disk d : Disk) → IsSettled (names_of_file name) disk → d ≡ disk → Opens name disk d
opens_same name disk d settled same = subst (λ (e : Disk). Opens name disk e) (sym same) (record {
  spared = same_none (is_foreign (names_of_file name)) disk;
  safe = λ none image whole. inl (none_there (names_of_file name) disk (is_fresh (names_of_file name) disk settled none) image whole);
})

opens_start : (name : List ℕ) (disk mid d : Disk) (document : Document) → mid ≡ disk → document ≡ document_of_file (content_in disk name) → Starting (names_of_file name) document mid d → Opens name disk d
opens_start name disk mid d document same is starting =
    let now : Starting (names_of_file name) document disk d = subst (λ (e : Disk). Starting (names_of_file name) document e d) same starting in
    let own : Starting (names_of_file name) (document_of_file (content_in disk name)) disk d = subst (λ (x : Document). Starting (names_of_file name) x disk d) is now in
    record { spared = own.spared; safe = λ none. own.safe }

pub opens_looks : (tells : Tells) (name : List ℕ) (old new : Scene) → (IsTrue tells.folder → IsSettled (names_of_file name) old.folder) → OnlyLooks tells old new → Acts tells (Opens name) old new
opens_looks tells name old new settled looks = acts_as tells (λ a b. b ≡ a) (Opens name) old new (λ told d same. opens_same name old.folder d (settled told) same) looks

pub opens_then : (tells : Tells) (name : List ℕ) (document : Document) (old mid new : Scene) → (IsTrue tells.folder → IsSettled (names_of_file name) old.folder) → (IsTrue tells.folder → document ≡ document_of_file (content_in old.folder name)) → NoneFails tells old mid
    → OnlyLooks tells old mid → Acts tells (Starting (names_of_file name) document) mid new → Acts tells (Opens name) old new
opens_then tells name document old mid new settled is none looks starts =
    acts_then tells (λ a b. b ≡ a) (Starting (names_of_file name) document) (Opens name) old mid new (λ told d same. opens_same name old.folder d (settled told) same)
    (λ told same d starting. opens_start name old.folder mid.folder d document same (is told) starting) none looks starts
