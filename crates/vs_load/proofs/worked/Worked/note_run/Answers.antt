-- A page before the last one was counted, and it stays so.
use Rattle.std.proofs.Common.{◌≡◌, ◌∙◌, ℕ, Contains, subst, arith, inl, inr}
use Rattle.std.proofs.lemmas.Bool.{cases_lt}
use Rattle.vs_load.proofs.worked.Worked.note_run.Goals as goal

pub loop-number-preserved : goal.loop-number-preserved
loop-number-preserved c =
    let now = c.loop-number.number in
    record {
      counted = λ k low high room. elim (cases_lt k now) [
        | inl before ↦ c.note.ensures.kept k (c.loop-number.invariant.counted k low before (omega (arith, room, c.note.ensures.grown)))
        | inr past ↦
            let same : now ≡ k = omega (arith, high, past) in
            subst (λ (n : ℕ). Contains c.note.new.self.numbers.items n) same (c.note.ensures.counted room)
      ];
      before = c.note.ensures.before ∙ c.loop-number.invariant.before;
    }
