use Rattle.std.proofs.Common.{◌≡◌, ℕ, ◌+◌, List, ◌∷◌, [], ap, sym, subst, refl, ◌∙◌, arith}
use Rattle.vs_ufile.specs.Decode.{Answers}
use Rattle.vs_mutate.specs.Tallies.{IsTally, answers, counted}
use Rattle.vs_mutate.proofs.Counted.{answers-counted}
use Rattle.vs_mutate.proofs.reading.read_all.Goals as goal

pub loop-number-init : goal.loop-number-init
loop-number-init c = record {
  count = ap answers c.none-tally.ensures;
  told = record { readings = []; number = refl; answers = record {}; counts = c.none-tally.ensures };
}

pub count-requires : goal.count-requires
count-requires c = omega (arith, c.loop-number.invariant.count)

pub loop-number-preserved : goal.loop-number-preserved
loop-number-preserved c =
    let bytes = c.deref-in-loop-number.result.now in
    let answer = c.decode-answer.result in
    let before = c.loop-number.invariant.told in
    let same : c.deref.result.now ≡ bytes = c.deref.ensures.value ∙ sym c.deref-in-loop-number.ensures.value in
    let exact : Answers bytes answer = subst (λ (b : List ℕ). Answers b answer) same c.decode-answer.ensures.exact in
    record {
      count = ap answers c.count.ensures ∙ (answers-counted bytes answer c.loop-number.tally ∙ ap (λ (n : ℕ). n + 1) c.loop-number.invariant.count);
      told = record {
        readings = record { bytes = bytes; answer = answer } ∷ before.readings;
        number = omega (arith, before.number);
        answers = (exact, before.answers);
        counts = c.count.ensures ∙ ap (counted bytes answer) before.counts;
      };
    }

pub returns-clause-count : goal.returns-clause-count
returns-clause-count c = omega (arith, c.loop-number.invariant.count)

pub returns-clause-told : goal.returns-clause-told
returns-clause-told c =
    let all : c.loop-number.number ≡ c.args.job.files = omega arith in
    subst (λ (n : ℕ). IsTally n c.loop-number.tally) all c.loop-number.invariant.told
