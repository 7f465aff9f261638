-- Each turn takes the first line that is left.
use Rattle.std.proofs.Common.{◌∙◌, ◌++◌, ℕ, List, Option, ap, arith, drop, length, length-drop, sym}
use Rattle.std.proofs.lemmas.List.{drop-drop}
use Rattle.std.specs.Prelude.{option_to_list}
use Rattle.vs_gap.proofs.GapLemmas.{next-bytes}
use Rattle.vs_gap.proofs.gap.take_away.Goals as goal
use Rattle.vs_gap.proofs.gap.take_away.Goals.{in-Some, in_default}

pub loop-preserved : goal.loop-preserved
loop-preserved c =
    let all = c.args.lines.now.items in
    let now = c.pop_front.new.self.items in
    record {
      rest = c.pop_front.ensures.rest ∙ ap (λ (xs : List (List ℕ)). drop 1 xs) c.loop.invariant.rest ∙ drop-drop 1 c.loop.counter all;
      bytes = elim c.match-pop_front.branch [
        | in-Some w ↦
            let first = sym c.loop.invariant.rest ∙ c.pop_front.ensures.items ∙ ap (λ (o : Option (List ℕ)). option_to_list o ++ now) w.in-Some.is in
            omega (arith, w.bytes-is, w.saturating_add-bytes.ensures, c.loop.invariant.bytes, next-bytes all now w.in-Some.line c.loop.counter first, ap length w.bytes.ensures.bytes)
        | in_default w ↦
            let none = c.pop_front.ensures.items ∙ ap (λ (o : Option (List ℕ)). option_to_list o ++ now) w.in_default.is in
            absurd (omega (
              arith,
              ap (λ (xs : List (List ℕ)). length xs) none,
              ap (λ (xs : List (List ℕ)). length xs) c.pop_front.ensures.rest,
              length-drop 1 c.loop.lines.items,
              ap (λ (xs : List (List ℕ)). length xs) c.loop.invariant.rest,
              length-drop c.loop.counter all,
              c.requires,
              c.loop-test.true,
            ))
      ];
    }
