use Rattle.std.proofs.Common.{◌≡◌, Err, ◌+◌, ◌++◌, ◌∷◌, [], map, get_or, take, drop, sym, ap, ◌∙◌, arith}
use Rattle.std.proofs.lemmas.Bool.Decides.{nat_tests}
use Rattle.std.proofs.lemmas.List.{map-append, take_more}
use Rattle.std.proofs.lemmas.Result.{err_from_is_err_and}
use Rattle.vs_edit.proofs.Steps.{Continues-trans}
use Rattle.vs_outward.specs.declared.trail.Step.{Step}
use Rattle.vs_outward.proofs.GoingLemmas.{ended, stopped}
use Rattle.vs_outward.proofs.LedLemmas.{cut_path}
use Rattle.vs_outward.proofs.trail.go_out.Goals as goal

pub returns-then-not-branch-clause-barred : goal.returns-then-not-branch-clause-barred
returns-then-not-branch-clause-barred g c =
    let path = c.args.path.now in
    let k = c.loop-k.k in
    let same = c.in_ok-step_out.ensures.same (grind (arith, nat_tests)) in
    let crossed : take k path ≡ map (λ (step : Step). step.number) c.step_out.new.trail.items = sym c.loop-k.invariant.begun ∙ ap (map (λ (step : Step). step.number)) (sym same) in
    (drop (k + 1) path, cut_path path k (omega arith) ∙ ap (λ xs. xs ++ get_or path k 0 ∷ drop (k + 1) path) crossed)

pub returns-then-not-branch-clause-goes_on : goal.returns-then-not-branch-clause-goes_on
returns-then-not-branch-clause-goes_on g c = let inv = c.loop-k.invariant in ended g.met.S.LineStore.stays_on inv.kept inv.faults c.in_ok-step_out.ensures.goes_on

pub loop-k-preserved : goal.loop-k-preserved
loop-k-preserved g c =
    let path = c.args.path.now in
    let k = c.loop-k.k in
    let inv = c.loop-k.invariant in
    let out = c.in_ok-step_out.ensures in
    let crossed = out.crossed (grind (arith, nat_tests)) in
    let number = λ (step : Step). step.number in
    record {
      on = λ first was. out.on first (inv.on first was);
      begun = ap (map number) crossed.1.0 ∙ (map-append number c.loop-k.trail.items (crossed.0 ∷ []) ∙ (ap (λ xs. xs ++ crossed.0.number ∷ []) inv.begun
          ∙ (ap (λ n. take k path ++ n ∷ []) crossed.1.1 ∙ sym (take_more path k 0 (omega arith)))));
      valid = out.goes_on.kept.valid;
      kept = Continues-trans g.met.S.LineStore.stays_on inv.kept out.goes_on.kept;
      faults = out.goes_on.cause.none (λ failed. absurd (cc)) ∙ inv.faults;
    }

pub returns-in_err-step_out-clause-goes_on : goal.returns-in_err-step_out-clause-goes_on
returns-in_err-step_out-clause-goes_on g c =
    let inv = c.loop-k.invariant in
    let p = err_from_is_err_and c.from_residual.result c.from_residual.ensures.1 in
    stopped g.met.S.LineStore.stays_on inv.kept inv.faults c.from_residual.result (p.1 ∙ ap Err p.2) c.in_err-step_out.ensures.goes_on
