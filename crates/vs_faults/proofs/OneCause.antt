-- How a call stops at the first call below it that fails: those before it did not fail.
use Rattle.std.proofs.Common.{ℕ, ◌≡◌, ◌∙◌, sym, subst, arith}
use Rattle.vs_faults.specs.Faults.{HasRisen}
use Rattle.vs_faults.specs.OneCause.{HasOneCause}
use Rattle.vs_faults.proofs.Causes.{risen_after}

-- a call after steps of which none failed
pub one_then : {a b c d e : ℕ} {F G : Type 0} → HasOneCause a b d F → ¬ F → HasOneCause b c e G → HasOneCause a c e G
one_then first calm second = record {
  later = omega (arith, first.later, second.later);
  risen = λ failed. risen_after first.later (second.risen failed);
  none = λ clean. second.none clean ∙ first.none calm;
  last = λ failed. omega (arith, second.last failed, first.none calm);
}

-- an answer in other words
pub one_as : {a b e : ℕ} {F G : Type 0} → HasOneCause a b e F → (G → F) → (F → G) → HasOneCause a b e G
one_as is on back = record {
  later = is.later;
  risen = λ failed. is.risen (on failed);
  none = λ calm. is.none (λ failed. calm (back failed));
  last = λ failed. is.last (on failed);
}

-- a call after which the counts stay
pub one_back : {a b c d e : ℕ} {F : Type 0} → HasOneCause a b d F → c ≡ b → e ≡ d → HasOneCause a c e F
one_back {a} is same last = record {
  later = omega (arith, is.later, same);
  risen = λ failed. subst (λ (n : ℕ). HasRisen a n) (sym same) (is.risen failed);
  none = λ calm. same ∙ is.none calm;
  last = λ failed. omega (arith, is.last failed, last);
}
