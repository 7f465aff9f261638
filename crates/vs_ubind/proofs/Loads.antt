-- What is read of a file is its first bytes, or all of them.
use Rattle.std.proofs.Common.{◌≡◌, ℕ, min, List, length, take, Option, Some, None, Result, Ok, Err, IfSome, IsErrAnd, inl, inr, refl, sym, ap, subst, ◌∙◌, arith}
use Rattle.std.specs.Prelude.{IsErrOf, IsSomeAnd}
use Rattle.std.proofs.lemmas.Bool.{cases_lt}
use Rattle.std.proofs.lemmas.List.{take_all}
use Rattle.vs_ufile.specs.declared.error.UfErr.{UfErr}
use Rattle.vs_ufile.specs.declared.error.UfKind.{UfKind}
use Rattle.vs_ufile.specs.declared.error.UfKind.TheVariants as kind
use Rattle.vs_ufile.specs.Decode.{Answers, no_memory}
use Rattle.vs_ufile.specs.Signature.{IsUnreadable}
use Rattle.vs_ubind.specs.declared.loading.LoadErr.{LoadErr}
use Rattle.vs_ubind.specs.declared.loading.LoadErr.TheVariants.{Failed, Unreadable}
use Rattle.vs_ubind.specs.declared.fetching.FetchErr.{FetchErr}
use Rattle.vs_ubind.specs.declared.fetching.FetchErr.TheVariants as fetched
use Rattle.vs_ubind.specs.Loading.{undecoded, undecoded_by, unfetched}

-- ---- the bytes

-- the first eleven bytes of a file, or all where it has fewer
pub first_of : (found : Option (List ℕ)) (size count : ℕ) (first : List ℕ) (P : List ℕ → Type 0) → IsSomeAnd found (λ bytes. size ≡ length bytes) → IfSome found (λ bytes. first ≡ take count bytes)
    → count ≡ min size 11 → ((bytes : List ℕ) → first ≡ take 11 bytes → P bytes) → IsSomeAnd found P
first_of None size count first P there part few leads = there
first_of (Some bytes) size count first P there part few leads = elim (cases_lt 11 size) [
  | inl more ↦ let all : count ≡ 11 = omega (arith, few, more) in leads bytes (part ∙ ap (λ n. take n bytes) all)
  | inr less ↦
      let whole : take count bytes ≡ bytes = take_all count bytes (omega (arith, there, few, less)) in
      leads bytes (part ∙ whole ∙ sym (take_all 11 bytes (omega (arith, there, less))))
]

-- all bytes of a file
pub all_of : (found : Option (List ℕ)) (size : ℕ) (read : List ℕ) (P : List ℕ → Type 0) → IsSomeAnd found (λ bytes. size ≡ length bytes) → IfSome found (λ bytes. read ≡ take size bytes) → P read → IsSomeAnd found P
all_of None size read P there part holds = there
all_of (Some bytes) size read P there part holds = subst P (part ∙ take_all size bytes (omega (arith, there))) holds

-- ---- an error that is handed on

pub just_handed : {T E : Type 0} (result : Result T E) (e : E) → IsErrAnd result (λ x. x ≡ e) → IsErrOf result e
just_handed (Ok value) e is = absurd is
just_handed (Err x) e is = ap (λ (y : _). Err y) is

pub same_handed : {T U E : Type 0} (result : Result T E) (e error : E) → IsErrAnd result (λ x. x ≡ e) → IsErrOf {T = U} (Err e) error → IsErrOf result error
same_handed (Ok value) e error is of = absurd is
same_handed (Err x) e error is of = let one : e ≡ error = cc in ap (λ (y : _). Err y) (is ∙ one)

-- a call failed where the file was looked for
pub fetch_failed : {T U : Type 0} (result : Result T LoadErr) (e : FetchErr) → IsErrAnd result (λ x. x ≡ unfetched e) → IsErrOf {T = U} (Err e) fetched.Failed → IsErrOf result Failed
fetch_failed (Ok value) e is of = absurd is
fetch_failed (Err x) e is of = let one : e ≡ fetched.Failed = cc in ap (λ (y : LoadErr). Err y) (is ∙ ap unfetched one)

-- ---- the refusal

same_by : (k : UfKind) (e error : UfErr) → undecoded_by k e ≡ Unreadable error → e ≡ error
same_by kind.NoMemory e error is = absurd (cc)
same_by k e error is = cc

-- the error that was handed on
pub same_error : {T : Type 0} (result : Result T LoadErr) (x : LoadErr) (e error : UfErr) → result ≡ Err x → x ≡ undecoded e → IsErrOf result (Unreadable error) → e ≡ error
same_error result x e error made from is = let same : x ≡ Unreadable error = cc in same_by e.kind e error (sym from ∙ same)

known_by : (k : UfKind) (e error : UfErr) → e.kind ≡ k → undecoded_by k e ≡ Unreadable error → e ≡ no_memory → ⊥
known_by kind.NoMemory e error at is none = absurd (cc)
known_by k e error at is none = let same : k ≡ kind.NoMemory = sym at ∙ ap (λ (f : UfErr). f.kind) none in absurd (cc)

-- an error of `decode` that is not want of memory is the first fault of the bytes
pub decode_error : {T : Type 0} (result : Result T LoadErr) (x : LoadErr) (e error : UfErr) (bytes : List ℕ) → result ≡ Err x → x ≡ undecoded e → IsErrOf result (Unreadable error)
    → Answers bytes (Err e) → IsUnreadable error bytes
decode_error result x e error bytes made from is (inl none) = let same : x ≡ Unreadable error = cc in absurd (known_by e.kind e error refl (sym from ∙ same) none)
decode_error result x e error bytes made from is (inr refused) = subst (λ f. IsUnreadable f bytes) (same_error result x e error made from is) refused
