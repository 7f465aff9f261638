-- A refusal of `decode` by the parts of the format.
use Rattle.std.proofs.Common.{◌≡◌, ◌<◌, ◌≤◌, ℕ, List, length, map, get_or, Option, Some, None, Result, Ok, Err, inl, inr, refl, sym, ap, subst, ◌∙◌, arith}
use Rattle.std.specs.Prelude.{Contains, IfErr, MatchResult}
use Rattle.std.proofs.lemmas.Bool.{cases_eq, cases_lt}
use Rattle.std.proofs.lemmas.List.{get_or_default, length-map}
use Rattle.vs_ufile.specs.declared.error.UfKind.TheVariants.{NotATree}
use Rattle.vs_ufile.specs.declared.error.UfErr.{UfErr}
use Rattle.vs_ufile.specs.declared.fault.Fault.{Fault}
use Rattle.vs_ufile.specs.declared.fault.Stop.TheVariants.{At}
use Rattle.vs_ufile.specs.declared.history.FileHistory.{FileHistory}
use Rattle.vs_ufile.specs.Decode.{Answers, IsRefused, error_of, first_unknown, with_links}
use Rattle.vs_ufile.specs.Failing.{AreNumbers, IsTreeFault}
use Rattle.vs_ufile.specs.Reading.{File, Placed, file, numbers_of}
use Rattle.vs_ufile.specs.Refusals.{IsFault, SameFormat, Tells, TellsOne, file_part}
use Rattle.vs_ufile.specs.Tree.{IsTree}
use Rattle.vs_ufile.proofs.Answered.{linked_form, not_both, read_linked}
use Rattle.vs_ufile.proofs.File.{is_read, read_is}
use Rattle.vs_ufile.proofs.Laws.{ok_is}
use Rattle.vs_ufile.proofs.Obeys.{front_past, past_of}
use Rattle.vs_ufile.proofs.Refused.{obeys_file}
use Rattle.vs_ufile.proofs.Rules.{number_of_place, numbers_from}

unlinked_by : (o : Option Fault) (f : File) (fault : Fault) → (elim o as (λ _. Result File Fault) [ None ↦ Ok f | Some fault ↦ Err fault ]) ≡ Err fault → o ≡ Some fault
unlinked_by None f fault e = absurd cc
unlinked_by (Some found) f fault e = cc

fault_by : (bytes : List ℕ) (q : Result (File × List ℕ) Fault) (fault : Fault) → file bytes ≡ q → with_links q ≡ Err fault → IsFault bytes fault
fault_by bytes (Ok x) fault is e = inr (inl (x.0, read_is bytes x.0 x.1 is, unlinked_by (first_unknown x.0) x.0 fault e))
fault_by bytes (Err found) fault is e = let same : found ≡ fault = cc in inl (obeys_file.refuses bytes fault (is ∙ ap Err same))

fault_of : (bytes : List ℕ) (fault : Fault) → IsRefused bytes fault → IsFault bytes fault
fault_of bytes fault (inl e) = fault_by bytes (file bytes) fault refl e
fault_of bytes fault (inr w) = let l = linked_form bytes w.0 w.1 in inr (inr (w.0, l.0, l.1, w.2))

-- an error tells a fault of the bytes
pub tells_one : (bytes : List ℕ) (r : Result FileHistory UfErr) → Answers bytes r → IfErr r (TellsOne bytes)
tells_one bytes (Ok h) a = tt
tells_one bytes (Err e) (inl none) = inr none
tells_one bytes (Err e) (inr refused) = inl (refused.0, fault_of bytes refused.0 refused.1, refused.2)

-- ---- bytes have one fault at most

refused_of : (bytes : List ℕ) (fault : Fault) → IsFault bytes fault → IsRefused bytes fault
refused_of bytes fault (inl form) = inl (ap with_links (obeys_file.faults bytes fault form))
refused_of bytes fault (inr (inl w)) =
    inl (ap with_links (is_read bytes w.0 w.1) ∙ ap (λ (o : Option Fault). elim o as (λ _. Result File Fault) [ None ↦ Ok w.0 | Some found ↦ Err found ]) w.2)
refused_of bytes fault (inr (inr w)) = inr (w.0, read_linked bytes w.0 w.1 w.2, w.3)

-- a change with a smaller place has another number
other_number : (placed : List Placed) → AreNumbers (numbers_of placed) → (p q : Placed) (a : Contains placed p) (b : Contains placed q) → a.0 < b.0 → p.change.number ≡ q.change.number → ⊥
other_number placed numbers p q a b lt e =
    let within : b.0 < length (numbers_of placed) = omega (arith, b.1, length-map placed (λ (p : Placed). p.change.number)) in
    numbers.distinct a.0 b.0 0 lt within (number_of_place placed a.0 p a.1 a.2 ∙ e ∙ sym (number_of_place placed b.0 q b.1 b.2))

one_change : (placed : List Placed) → AreNumbers (numbers_of placed) → (p q : Placed) → Contains placed p → Contains placed q → p.change.number ≡ q.change.number → p ≡ q
one_change placed numbers p q a b e = elim (cases_eq a.0 b.0) [
  | inl same ↦ sym a.2 ∙ get_or_default placed a.0 p q a.1 ∙ ap (λ (i : ℕ). get_or placed i q) same ∙ b.2
  | inr differ ↦ elim (cases_lt a.0 b.0) [
    | inl lt ↦ absurd (other_number placed numbers p q a b lt e)
    | inr le ↦ absurd (other_number placed numbers q p b a (omega (arith, le, differ)) (sym e))
  ]
]

one_tree_fault : (placed : List Placed) (a b : Fault) → AreNumbers (numbers_of placed) → IsTreeFault placed (Some a) → IsTreeFault placed (Some b) → a ≡ b
one_tree_fault placed a b numbers p q =
    let le : p.0.change.number ≤ q.0.change.number = p.2.least q.0.change.number q.2.fails in
    let ge : q.0.change.number ≤ p.0.change.number = q.2.least p.0.change.number p.2.fails in
    let same : p.0 ≡ q.0 = one_change placed numbers p.0 q.0 p.1 q.1 (omega (arith, le, ge)) in
    p.3 ∙ ap (λ (x : Placed). record { kind = NotATree; left = x.left; found = x.change.number }) same ∙ sym q.3

err_is : (q : Result File Fault) (a b : Fault) → q ≡ Err a → q ≡ Err b → a ≡ b
err_is q a b e d = cc

one_fault : (bytes : List ℕ) (a b : Fault) → IsRefused bytes a → IsRefused bytes b → a ≡ b
one_fault bytes a b (inl e) (inl d) = err_is (with_links (file bytes)) a b e d
one_fault bytes a b (inl e) (inr w) = absurd (not_both (with_links (file bytes)) w.0 a w.1 e)
one_fault bytes a b (inr v) (inl d) = absurd (not_both (with_links (file bytes)) v.0 b v.1 d)
one_fault bytes a b (inr v) (inr w) =
    let same : w.0 ≡ v.0 = ok_is w.0 v.0 (sym w.1 ∙ v.1) in
    let form = (linked_form bytes v.0 v.1).0 in
    one_tree_fault v.0.placed a b (numbers_from v.0.numbers.heads v.0.placed form.numbers) v.2 (subst (λ (f : File). IsTreeFault f.placed (Some b)) same w.2)

never_read : (bytes : List ℕ) (f : File) (fault : Fault) → with_links (file bytes) ≡ Ok f → IsTree (map (λ p. p.change) f.placed) → ¬ IsRefused bytes fault
never_read bytes f fault e tree (inl d) = not_both (with_links (file bytes)) f fault e d
never_read bytes f fault e tree (inr w) =
    let same : w.0 ≡ f = ok_is w.0 f (sym w.1 ∙ e) in
    let p = subst (λ (g : File). IsTreeFault g.placed (Some fault)) same w.2 in
    tree p.0.change.number p.2.fails

-- a fault that the bytes have is told
pub tells : (bytes : List ℕ) (r : Result FileHistory UfErr) → Answers bytes r → (fault : Fault) → IsFault bytes fault → MatchResult r (λ _. ⊥) (Tells bytes fault)
tells bytes (Ok h) a fault is = never_read bytes a.0 fault a.1.0 a.1.1 (refused_of bytes fault is)
tells bytes (Err e) (inl none) fault is = inr none
tells bytes (Err e) (inr found) fault is =
    let same : found.0 ≡ fault = one_fault bytes found.0 fault found.1 (refused_of bytes fault is) in
    inl (found.2 ∙ ap (λ (f : Fault). error_of (length bytes) (At f)) same)

-- ---- the parts are the rows

pub same_format : SameFormat
same_format bytes = (
  λ p. let f = obeys_file.reads bytes p.1 (front_past file_part.row (λ _. Unit {0}) bytes p) in (f.0, read_is bytes f.0 p.1 f.1),
  λ f.
      let rest : List ℕ = f.1.rest in
      past_of file_part.row (λ _. Unit {0}) bytes rest (obeys_file.takes bytes f.0 rest (is_read bytes f.0 f.1)) tt,
)
