-- Twice as many steps.
use Rattle.std.proofs.Common.{◌≡◌, ℕ, ◌+◌, ◌*◌, ◌<◌, List, get_or, length, sym, ap, ◌∙◌, arith}
use Rattle.std.specs.Prelude.{All}
use Rattle.std.proofs.lemmas.List.{get_or_default}
use Rattle.vs_ufile.specs.Walks.{LeadsFar, walk}
use Rattle.vs_ufile.proofs.Pigeons.{walk-add}

pub record Doubled (far new : List ℕ) : Type 0 where
  pub size : length new ≡ length far
  pub each : (i : ℕ) → i < length far → get_or new i 0 ≡ get_or far (get_or far i 0) 0

pub twice_far : (links far new : List ℕ) (steps : ℕ) → LeadsFar links steps far → All (λ x. x < length links) far → Doubled far new → LeadsFar links (steps * 2) new
twice_far links far new steps h within d = (
  d.size ∙ h.0,
  λ i lt.
      let f = λ (j : ℕ). get_or links j 0 in
      let here : i < length far = omega (arith, lt, h.0) in
      let inside : get_or far i 0 < length links = within i 0 here in
      let two : steps * 2 ≡ steps + steps = omega arith in
      d.each i here ∙ h.1 (get_or far i 0) inside ∙ ap (walk f steps) (h.1 i lt) ∙ sym (walk-add f steps steps i) ∙ ap (λ (k : ℕ). walk f k i) (sym two),
)

pub twice_within : (n : ℕ) (far new : List ℕ) → length far ≡ n → All (λ x. x < n) far → Doubled far new → All (λ x. x < n) new
twice_within n far new size within d = λ i e lt.
    let here : i < length far = omega (arith, lt, d.size) in
    let inside : get_or far i 0 < n = within i 0 here in
    let there : get_or far (get_or far i 0) 0 < n = within (get_or far i 0) 0 (omega (arith, inside, size)) in
    let same : get_or new i e ≡ get_or new i 0 = get_or_default new i e 0 lt in
    omega (arith, same, d.each i here, there)
