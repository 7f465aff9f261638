-- A count that rose during some of the steps of a call rose during the call.
use Rattle.std.proofs.Common.{ℕ, ◌≤◌, ◌⊎◌, inl, inr, arith}
use Rattle.vs_faults.specs.Faults.{HasRisen, HasCause}

pub risen_before : {a b c : ℕ} → HasRisen a b → b ≤ c → HasRisen a c
risen_before (inl lt) le = inl (omega arith)
risen_before (inr most) le = inr (omega arith)

pub risen_after : {a b c : ℕ} → a ≤ b → HasRisen b c → HasRisen a c
risen_after le (inl lt) = inl (omega arith)
risen_after le (inr most) = inr most

-- no step
pub cause_none : {a : ℕ} {F : Type 0} → (F → ⊥) → HasCause a a F
cause_none never = record { later = omega arith; risen = λ failed. absurd (never failed) }

-- a call that fails only where one of its two steps failed
pub HasCause-trans : {a b c : ℕ} {F G H : Type 0} → HasCause a b F → HasCause b c G → (H → F ⊎ G) → HasCause a c H
HasCause-trans first second either = record {
  later = omega (arith, first.later, second.later);
  risen = λ failed. elim (either failed) [
    | inl at_first ↦ risen_before (first.risen at_first) second.later
    | inr at_second ↦ risen_after first.later (second.risen at_second)
  ];
}

-- a call that fails only where its second step failed
pub HasCause-then : {a b c : ℕ} {F G : Type 0} → HasCause a b F → HasCause b c G → HasCause a c G
HasCause-then first second = HasCause-trans first second (λ failed. inr failed)

-- a call that fails only where its one step failed
pub HasCause-weaker : {a b : ℕ} {F G : Type 0} → HasCause a b F → (G → F) → HasCause a b G
HasCause-weaker is so = record { later = is.later; risen = λ failed. is.risen (so failed) }
