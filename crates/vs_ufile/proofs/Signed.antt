-- A file is refused as its signature is: the bytes that follow the signature move the place of a fault by as many as they are.
use Rattle.std.proofs.Common.{◌≡◌, ◌⊎◌, ℕ, ◌+◌, ◌-◌, Bool, true, false, cond, ltb, List, ◌++◌, length, take, drop, Option, Some, None, Result, Ok, Err, refl, sym, ap, subst, ◌∙◌, inl, inr, arith}
use Rattle.std.specs.Prelude.{nat_eq}
use Rattle.std.specs.List.{starts_with}
use Rattle.std.proofs.lemmas.List.{length-append, length-drop, length-take-le, take-append-drop, take-append-le, drop-append-le, take_all}
use Rattle.std.proofs.lemmas.Bool.{cases_lt, le-ltb}
use Rattle.vs_bytes.specs.Fields.{Big, number_of}
use Rattle.vs_ufile.specs.declared.error.UfKind.{UfKind}
use Rattle.vs_ufile.specs.declared.error.UfKind.TheVariants.{NotUndo}
use Rattle.vs_ufile.specs.declared.fault.Fault.{Fault}
use Rattle.vs_ufile.specs.declared.fault.Stop.{Stop}
use Rattle.vs_ufile.specs.declared.fault.Stop.TheVariants as stops
use Rattle.vs_ufile.specs.Decode.{error_of, with_links}
use Rattle.vs_ufile.specs.Reading.{Fails, Read, allowed, carry, file, front, start, start_bytes, version, version_kind}
use Rattle.vs_ufile.specs.Signature.{IsUnreadable, signature}

-- ---- a file begins with its signature

both_fail : {A B C : Type 0} (q : Result (A × List ℕ) Fault) (f : A → Read B) (g : A → Read C) (fault : Fault)
    → ((x : A) (rest : List ℕ) → f x rest ≡ Err fault → g x rest ≡ Err fault) → carry q f ≡ Err fault → carry q g ≡ Err fault
both_fail (Ok x) f g fault leads e = leads x.0 x.1 e
both_fail (Err d) f g fault leads e = cc

goes_on : {A C : Type 0} (r : Read A) (g : A → Read C) (fault : Fault) (rest : List ℕ) → r rest ≡ Err fault → carry (r rest) g ≡ Err fault
goes_on r g fault rest e = ap (λ q. carry q g) e

front_fails : (bytes : List ℕ) (fault : Fault) → signature bytes ≡ Err fault → front bytes ≡ Err fault
unfolding front signature
front_fails bytes fault e = both_fail (start bytes) (λ _. version) _ fault (λ x rest v. goes_on version _ fault rest v) e

file_fails : (bytes : List ℕ) (fault : Fault) → signature bytes ≡ Err fault → file bytes ≡ Err fault
unfolding file
file_fails bytes fault e = goes_on front _ fault bytes (front_fails bytes fault e)

-- ---- what follows the signature

abbrev moved : ℕ → Fault → Fault
moved more fault = record fault { left = fault.left + more }

-- it fails with more after it as it fails without
abbrev FailsAlike : {A : Type 0} → List ℕ → Result A Fault → Result A Fault → Type 0
FailsAlike {A = A} more alone all = (fault : Fault) → alone ≡ Err fault → all ≡ Err (moved (length more) fault)

fails_kind : (kind : Option UfKind) (n : ℕ) (bytes more a b : List ℕ) → FailsAlike more (allowed (length bytes) n kind a) (allowed (length (bytes ++ more)) n kind b)
fails_kind None n bytes more a b fault e = absurd cc
fails_kind (Some kind) n bytes more a b fault e =
    let same : record { kind = kind; left = length bytes; found = n } ≡ fault = cc in
    subst (λ (f : Fault). allowed (length (bytes ++ more)) n (Some kind) b ≡ Err (moved (length more) f)) same (rw (length-append bytes more) refl)

version_alike : (bytes more : List ℕ) → length bytes ≡ 2 → FailsAlike more (version bytes) (version (bytes ++ more))
version_alike bytes more wide fault e =
    let n = number_of Big 2 (take 2 bytes) in
    let alone : ltb (length bytes) 2 ≡ false = le-ltb _ _ (omega (arith, wide)) in
    let all : ltb (length (bytes ++ more)) 2 ≡ false = le-ltb _ _ (omega (arith, wide, length-append bytes more)) in
    let same : take 2 (bytes ++ more) ≡ take 2 bytes = take-append-le 2 bytes more (omega (arith, wide)) in
    let one : allowed (length bytes) n (version_kind n) (drop 2 bytes) ≡ Err fault = rw alone at e in
    rw (all, same) (fails_kind (version_kind n) n bytes more (drop 2 bytes) (drop 2 (bytes ++ more)) fault one)

abbrev started : Bool → List ℕ → Result (List ℕ × List ℕ) Fault
started is bytes = cond is (Ok (start_bytes, drop 9 bytes)) (Err (record { kind = NotUndo; left = length bytes; found = 0 }))

signed_alike : (is : Bool) (bytes more : List ℕ) → length bytes ≡ 11
    → FailsAlike more (carry (started is bytes) (λ _. version)) (carry (started is (bytes ++ more)) (λ _. version))
signed_alike true bytes more wide fault e =
    let tail : length (drop 9 bytes) ≡ 2 = omega (arith, wide, length-drop 9 bytes) in
    rw (drop-append-le 9 bytes more (omega (arith, wide))) (version_alike (drop 9 bytes) more tail fault e)
signed_alike false bytes more wide fault e =
    let same : record { kind = NotUndo; left = length bytes; found = 0 } ≡ fault = cc in
    subst (λ (f : Fault). carry (started false (bytes ++ more)) (λ _. version) ≡ Err (moved (length more) f)) same (rw (length-append bytes more) refl)

signature_alike : (bytes more : List ℕ) → length bytes ≡ 11 → FailsAlike more (signature bytes) (signature (bytes ++ more))
unfolding signature start
signature_alike bytes more wide fault e =
    rw (take-append-le 9 bytes more (omega (arith, wide))) (signed_alike (starts_with nat_eq bytes start_bytes) bytes more wide fault e)

-- ---- the first bytes decide

-- Bytes are their first eleven alone, or those and more after them.
first_or_all : (bytes : List ℕ) → (take 11 bytes ≡ bytes) ⊎ (length (take 11 bytes) ≡ 11)
first_or_all bytes = elim (cases_lt (length bytes) 11) [ inl few ↦ inl (take_all 11 bytes (omega (arith, few))) | inr many ↦ inr (length-take-le 11 bytes many) ]

fails_of : (bytes : List ℕ) (fault : Fault) → signature (take 11 bytes) ≡ Err fault
    → (full : Fault) × (signature bytes ≡ Err full) × (error_of (length (take 11 bytes)) (stops.At fault) ≡ error_of (length bytes) (stops.At full))
fails_of bytes fault e = elim (first_or_all bytes) [
  | inl all ↦ (fault, ap signature (sym all) ∙ e, ap (λ (b : List ℕ). error_of (length b) (stops.At fault)) all)
  | inr eleven ↦
      let first : List ℕ = take 11 bytes in
      let more : List ℕ = drop 11 bytes in
      let whole : first ++ more ≡ bytes = take-append-drop 11 bytes in
      let place : length first - fault.left ≡ length bytes - (fault.left + length more) = omega (arith, ap length whole, length-append first more) in
      (moved (length more) fault, ap signature (sym whole) ∙ signature_alike first more eleven fault e, ap (λ (at : ℕ). record { kind = fault.kind; at = at; found = fault.found }) place)
]

pub signed_decides : (stop : Stop) (first : List ℕ) → Fails stop (signature first) → (stop ≡ stops.Memory → ⊥) → (bytes : List ℕ) → first ≡ take 11 bytes → IsUnreadable (error_of (length first) stop) bytes
signed_decides stops.Memory first fails some bytes same = absurd (some refl)
signed_decides (stops.At fault) first fails some bytes same =
    let found = fails_of bytes fault (ap signature (sym same) ∙ fails) in
    (found.0, inl (ap with_links (file_fails bytes found.0 found.1)), ap (λ (b : List ℕ). error_of (length b) (stops.At fault)) same ∙ found.2)
