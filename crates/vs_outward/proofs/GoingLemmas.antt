-- A store that went on over some calls and then over one more went on over all of them, whatever the whole answers.
use Rattle.std.proofs.Common.{◌≡◌, ℕ, Result, Ok, Err, sym, ap, subst, arith}
use Rattle.vs_faults.proofs.OneCause.{one_as, one_then}
use Rattle.vs_faults.specs.OneCause.{HasOneCause}
use Rattle.vs_edit.specs.Calls.{Continues}
use Rattle.vs_edit.specs.declared.store.LineStore.{Ghosts}
use Rattle.vs_edit.specs.declared.store.StoreErr.{StoreErr}
use Rattle.vs_edit.specs.declared.store.StoreErr.TheVariants.{Failed, NoMemory}
use Rattle.vs_edit.proofs.Steps.{Continues-trans}
use Rattle.vs_outward.specs.Calls.{GoesOn}

-- there was no memory after the calls
pub out_of_memory : {S Y : Type 0} {g : Ghosts S} {a b : S} (answer : Result Y StoreErr) → answer ≡ Err NoMemory → Continues g a b → (g.shows b).faults ≡ (g.shows a).faults → GoesOn g a b answer
out_of_memory {g = g} {a = a} {b = b} answer is kept same =
    subst (GoesOn g a b) (sym is) (record { kept = kept; cause = record { later = omega (arith, same); risen = λ failed. absurd (cc); none = λ calm. same; last = λ failed. absurd (cc) } })

-- the calls so far did not fail
so_far : (a b : ℕ) → b ≡ a → HasOneCause a b 0 ⊥
so_far a b same = record { later = omega (arith, same); risen = λ failed. absurd failed; none = λ calm. same; last = λ failed. absurd failed }

module _ {S : Type 0} {g : Ghosts S} {a b c : S} (on : (p q r : S) → g.stays p q → g.stays q r → g.stays p r) (kept : Continues g a b) (same : (g.shows b).faults ≡ (g.shows a).faults) where
  pub after : {X : Type 0} {result : Result X StoreErr} → GoesOn g b c result → GoesOn g a c result
  after last = record { kept = Continues-trans on kept last.kept; cause = one_then (so_far (g.shows a).faults (g.shows b).faults same) (λ failed. failed) last.cause }

  -- the last call succeeded
  pub ended : {X Y : Type 0} {x : X} {y : Y} → GoesOn {X = X} g b c (Ok x) → GoesOn {X = Y} g a c (Ok y)
  ended last = record {
    kept = Continues-trans on kept last.kept;
    cause = one_as (one_then (so_far (g.shows a).faults (g.shows b).faults same) (λ failed. failed) last.cause) (λ failed. absurd (cc)) (λ failed. absurd (cc));
  }

  -- it failed
  pub stopped : {X Y : Type 0} {e : StoreErr} (answer : Result Y StoreErr) → answer ≡ Err e → GoesOn {X = X} g b c (Err e) → GoesOn {X = Y} g a c answer
  stopped {e = e} answer is last =
      subst (GoesOn g a c) (sym is) (record {
        kept = Continues-trans on kept last.kept;
        cause = one_as (one_then (so_far (g.shows a).faults (g.shows b).faults same) (λ failed. failed) last.cause) (λ failed. let this : e ≡ Failed = cc in ap Err this) (λ failed. let this : e ≡ Failed = cc in ap Err this);
      })
