-- The places where many steps lead are those on cycles.
use Rattle.std.proofs.Common.{◌≡◌, ℕ, suc, ◌<◌, ◌≤◌, ◌⊎◌, inl, inr, Bool, false, List, get_or, length, sym, subst, ◌∙◌, arith}
use Rattle.std.specs.Prelude.{All, IsTrue, ◌↔◌, replicate}
use Rattle.std.proofs.lemmas.Bool.{cases_lt, false≢true}
use Rattle.std.proofs.lemmas.List.{get_or_default, get_or-replicate, get_or_past, length-replicate}
use Rattle.vs_ufile.specs.Walks.{AreOnCycles, LeadsFar, at, walk}
use Rattle.vs_ufile.proofs.Pigeons.{cycle_at, cycle_from, walk-below}

stays : (links : List ℕ) → All (λ x. x < length links) links → (i : ℕ) → i < length links → at links i < length links
stays links within i lt = within i 0 lt

pub far_within : (links far : List ℕ) (steps n : ℕ) → All (λ x. x < length links) links → LeadsFar links steps far → n ≡ length links → All (λ x. x < n) far
far_within links far steps n within h size = λ k d lt.
    let here : k < length links = omega (arith, lt, h.0) in
    let same : get_or far k d ≡ get_or far k 0 = get_or_default far k d 0 lt in
    omega (arith, same, h.1 k here, walk-below (at links) (length links) steps k (stays links within) here, size)

pub marks_are : (links far : List ℕ) (old marks : List Bool) (steps : ℕ) → All (λ x. x < length links) links → length links ≤ steps → LeadsFar links steps far
    → length marks ≡ length links → ((i : ℕ) → get_or old i false ≡ false)
    → ((i : ℕ) → IsTrue (get_or marks i false) ↔ (IsTrue (get_or old i false) ⊎ ((x : ℕ) × (x < length far) × (get_or far x 0 ≡ i))))
    → AreOnCycles links marks
marks_are links far old marks steps within long h size none marked = (
  size,
  λ i lt. (
    (λ t. elim ((marked i).0 t) [
      | inl was ↦ absurd (false≢true (sym (none i) ∙ was))
      | inr w ↦
          let here : w.0 < length links = omega (arith, w.1, h.0) in
          let c = cycle_at (at links) (length links) steps w.0 (stays links within) here long in
          let there : walk (at links) steps w.0 ≡ i = sym (h.1 w.0 here) ∙ w.2 in
          (c.0, subst (λ (y : ℕ). walk (at links) (suc c.0) y ≡ y) there c.1)
    ]),
    (λ m.
        let x = cycle_from (at links) (length links) steps i m.0 (stays links within) lt m.1 in
        (marked i).1 (inr (x.0, omega (arith, x.1, h.0), h.1 x.0 x.1 ∙ x.2))),
  ),
)

pub no_mark : (n : ℕ) (old : List Bool) → old ≡ replicate n false → (i : ℕ) → get_or old i false ≡ false
no_mark n old e i = rw e (elim (cases_lt i n) [
  | inl lt ↦ get_or-replicate n i false false lt
  | inr le ↦ get_or_past (replicate n false) i false (omega (arith, le, length-replicate n false))
])
