-- Fewer changes than there are numbers leave a number for one more.
use Rattle.std.proofs.Common.{◌≡◌, ℕ, zero, suc, ◌+◌, ◌*◌, ◌<◌, ◌≤◌, ◌^◌, ◌⊎◌, inl, inr, Bool, true, false, List, [], ◌∷◌, length, Option, Some, None, refl, sym, ap, ◌∙◌, arith}
use Rattle.std.specs.Prelude.{unwrap_or}
use Rattle.std.specs.Option.{is_some}
use Rattle.std.proofs.lemmas.Bool.{cases_lt}
use Rattle.std.proofs.lemmas.List.{length-append, length-map}
use Rattle.vs_ufile.specs.Format.{Each, change_rows}
use Rattle.vs_ufile.specs.Reading.{Placed, change_number_kind, index_of, numbers_of}
use Rattle.vs_ufile.specs.Walks.{at}
use Rattle.vs_ufile.proofs.Bounded.{least_change}
use Rattle.vs_ufile.proofs.Completed.{most}
use Rattle.vs_ufile.proofs.Linked.{index_at}
use Rattle.vs_ufile.proofs.Pigeons.{pigeons}
use Rattle.vs_ufile.proofs.Rules.{kind_none}

-- each change has at least so many bytes
bytes_of_changes : (placed : List Placed) (part : List ℕ) (following : ℕ) → Each change_rows placed part following → 395 * length placed ≤ length part
bytes_of_changes [] part following is = omega arith
bytes_of_changes (p ∷ ps) part following is =
    let one : 395 ≤ length is.0 = omega (arith, (least_change p).sizes is.0 (length is.1 + following) is.3) in
    omega (arith, one, bytes_of_changes ps is.1 following is.4, ap length is.2, length-append is.0 is.1)

pub few_changes : (placed : List Placed) (part : List ℕ) (following : ℕ) → Each change_rows placed part following → length part < most → length placed < 2147483647
unfolding most
few_changes placed part following is few = omega (arith, few, bytes_of_changes placed part following is)

-- ---- a number that is not in the list

record Absent (numbers : List ℕ) (most : ℕ) : Type 0 where
  number : ℕ
  some : 0 < number
  within : number ≤ most
  absent : is_some (index_of number numbers) ≡ false

absent_by : (numbers : List ℕ) (k : ℕ) (b : Bool) → is_some (index_of (suc k) numbers) ≡ b → ((n : ℕ) → 0 < n → n ≤ k → is_some (index_of n numbers) ≡ true)
    → Absent numbers (suc k) ⊎ ((n : ℕ) → 0 < n → n ≤ suc k → is_some (index_of n numbers) ≡ true)
absent_by numbers k false e all = inl (record { number = suc k; some = omega arith; within = omega arith; absent = e })
absent_by numbers k true e all = inr (λ n pos le. elim (cases_lt n (suc k)) [
  | inl lt ↦ all n pos (omega (arith, lt))
  | inr ge ↦ let same : n ≡ suc k = omega (arith, le, ge) in ap (λ (m : ℕ). is_some (index_of m numbers)) same ∙ e
])

absent_or : (numbers : List ℕ) (k : ℕ) → Absent numbers k ⊎ ((n : ℕ) → 0 < n → n ≤ k → is_some (index_of n numbers) ≡ true)
absent_or numbers zero = inr (λ n pos le. absurd (omega (arith, pos, le)))
absent_or numbers (suc k) = elim (absent_or numbers k) [
  | inl a ↦ inl (record { number = a.number; some = a.some; within = omega (arith, a.within); absent = a.absent })
  | inr all ↦ absent_by numbers k (is_some (index_of (suc k) numbers)) refl all
]

found_by : (numbers : List ℕ) (n : ℕ) (o : Option ℕ) → index_of n numbers ≡ o → is_some o ≡ true → (unwrap_or o 0 < length numbers) × (at numbers (unwrap_or o 0) ≡ n)
found_by numbers n (Some i) e k = index_at n numbers i e
found_by numbers n None e k = absurd cc

some_absent : (numbers : List ℕ) → Absent numbers (length numbers + 1)
some_absent numbers = elim (absent_or numbers (length numbers + 1)) [
  | inl a ↦ a
  | inr all ↦
      let g : ℕ → ℕ = λ i. unwrap_or (index_of (i + 1) numbers) 0 in
      let found : (i : ℕ) → i ≤ length numbers → (g i < length numbers) × (at numbers (g i) ≡ i + 1) =
      λ i le. found_by numbers (i + 1) (index_of (i + 1) numbers) refl (all (i + 1) (omega arith) (omega (arith, le))) in
      let t = pigeons (length numbers) g (λ i le. (found i le).0) in
      let first = (found t.a (omega (arith, t.order, t.within))).1 in
      let second = (found t.b t.within).1 in
      let same : t.a + 1 ≡ t.b + 1 = sym first ∙ ap (λ (i : ℕ). at numbers i) t.same ∙ second in
      absurd (omega (arith, same, t.order))
]

pub record Unused (before : List Placed) : Type 0 where
  pub number : ℕ
  pub fits : number < 256 ^ 4
  pub allowed : change_number_kind (numbers_of before) number ≡ None

pub unused : (before : List Placed) → length before < 2147483647 → Unused before
unused before few =
    let a = some_absent (numbers_of before) in
    let small : a.number ≤ 2147483647 = omega (arith, a.within, few, length-map before (λ p. p.change.number)) in
    record { number = a.number; fits = omega (arith, small); allowed = kind_none a.number (numbers_of before) a.some small a.absent }
