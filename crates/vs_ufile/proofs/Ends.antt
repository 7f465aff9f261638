-- Where no place fails in its chain, each way back along a chain ends.
use Rattle.std.proofs.Common.{◌≡◌, ◌≢◌, ℕ, zero, suc, ◌+◌, ◌-◌, ◌<◌, inl, inr, refl, sym, ap, ◌∙◌, arith}
use Rattle.std.proofs.lemmas.Bool.{cases_eq}
use Rattle.vs_ufile.specs.Walks.{walk}
use Rattle.vs_ufile.proofs.Pigeons.{pigeons, walk-add, walk-below, walk-none}

-- the place after the one before a place is the place itself, and no place lies on a cycle
pub record NoneFails (after before : ℕ → ℕ) (size : ℕ) : Type 0 where
  pub back : (p : ℕ) → 0 < p → p < size → before p ≢ 0 → after (before p) ≡ p
  pub no_cycle : (p m : ℕ) → 0 < p → p < size → walk after (suc m) p ≡ p → ⊥
  pub stays : (p : ℕ) → p < size → before p < size
  pub none : before 0 ≡ 0

undone : (after before : ℕ → ℕ) (size : ℕ) → NoneFails after before size → (m p : ℕ) → p < size → walk before m p ≢ 0 → walk after m (walk before m p) ≡ p
undone after before size h zero p lt ne = refl
undone after before size h (suc m) p lt ne =
    let later : before p ≢ 0 = λ e. ne (ap (walk before m) e ∙ walk-none before m h.none) in
    let there : p ≢ 0 = λ e. later (ap before e ∙ h.none) in
    let ih = undone after before size h m (before p) (h.stays p lt) ne in
    let one : m + 1 ≡ suc m = omega arith in
    let split : walk after (suc m) (walk before m (before p)) ≡ after (walk after m (walk before m (before p))) =
    sym (ap (λ (i : ℕ). walk after i (walk before m (before p))) one) ∙ walk-add after m 1 (walk before m (before p)) in
    split ∙ ap after ih ∙ h.back p (omega (arith, there)) lt later

-- a way back is at 0 after as many steps as there are places
pub back_ends : (after before : ℕ → ℕ) (size : ℕ) → NoneFails after before size → (p : ℕ) → p < size → walk before size p ≡ 0
back_ends after before size h p lt =
    let t = pigeons size (λ m. walk before m p) (λ k le. walk-below before size k p h.stays lt) in
    elim (cases_eq (walk before size p) 0) [
      | inl e ↦ e
      | inr ne ↦
          let m : ℕ = t.b - (t.a + 1) in
          let q : ℕ = walk before t.a p in
          let whole : t.a + suc m ≡ t.b = omega (arith, t.order) in
          let rest : t.b + (size - t.b) ≡ size = omega (arith, t.within) in
          let round : walk before (suc m) q ≡ q = sym (walk-add before t.a (suc m) p) ∙ ap (λ (i : ℕ). walk before i p) whole ∙ sym t.same in
          let more : q ≢ 0 = λ e. ne (sym (ap (λ (i : ℕ). walk before i p) rest) ∙ walk-add before t.b (size - t.b) p ∙ ap (walk before (size - t.b)) (sym t.same ∙ e) ∙ walk-none before (size - t.b) h.none) in
          let inside : q < size = walk-below before size t.a p h.stays lt in
          let back = undone after before size h (suc m) q inside (λ e. more (sym round ∙ e)) in
          let cycle : walk after (suc m) q ≡ q = ap (walk after (suc m)) (sym round) ∙ back in
          absurd (h.no_cycle q m (omega (arith, more)) inside cycle)
    ]
