use Rattle.std.proofs.Common.{◌∙◌, Err, ap}
use Rattle.std.proofs.lemmas.Result.{err_from_is_err_and}
use Rattle.vs_edit.proofs.Steps.{Continues-trans}
use Rattle.vs_outward.proofs.GoingLemmas.{stopped}
use Rattle.vs_outward.proofs.LedLemmas.{take_less}
use Rattle.vs_outward.proofs.trail.go_in.Goals as goal

pub loop-preserved : goal.loop-preserved
loop-preserved g c =
    let inv = c.loop.invariant in
    let out = c.in_ok-step_in.ensures in
    record {
      on = λ first was. out.on first (inv.on first was);
      less = out.less ∙ take_less c.args.trail.now.items c.loop.trail.items c.loop.counter inv.less;
      valid = out.goes_on.kept.valid;
      kept = Continues-trans g.met.S.LineStore.stays_on inv.kept out.goes_on.kept;
      faults = out.goes_on.cause.none (λ failed. absurd (cc)) ∙ inv.faults;
    }

pub returns-in_err-step_in-clause-goes_on : goal.returns-in_err-step_in-clause-goes_on
returns-in_err-step_in-clause-goes_on g c =
    let inv = c.loop.invariant in
    let p = err_from_is_err_and c.from_residual.result c.from_residual.ensures.1 in
    stopped g.met.S.LineStore.stays_on inv.kept inv.faults c.from_residual.result (p.1 ∙ ap Err p.2) c.in_err-step_in.ensures.goes_on
