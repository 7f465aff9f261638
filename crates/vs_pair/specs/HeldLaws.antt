-- What a pair holds goes on from call to call.
use Rattle.std.proofs.Common.{inl, inr, refl, ◌∙◌, arith}
use Rattle.vs_pair.specs.Held.{Held, KeepsHeld}

pub held_none : (held : Held) → KeepsHeld held held
held_none held = record { later = omega arith; each = λ k. inr (omega arith, refl); reach = λ commit end le reach. reach }

pub held_then : (a b c : Held) → KeepsHeld a b → KeepsHeld b c → KeepsHeld a c
held_then a b c first second = record {
  later = omega (arith, first.later, second.later);
  each = λ k. elim (second.each k) [
    | inl changed ↦ inl (omega (arith, changed, first.later))
    | inr same ↦ elim (first.each k) [
      | inl changed ↦ inl (omega (arith, changed, same.0))
      | inr both ↦ inr (omega (arith, both.0, same.0), same.1 ∙ both.1)
    ]
  ];
  reach = λ commit end le reach. second.reach commit end (omega (arith, le, first.later)) (first.reach commit end le reach);
}
