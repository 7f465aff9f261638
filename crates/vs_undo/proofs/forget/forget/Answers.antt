-- Each step is one of those that are left, and no step is left where no more changes are kept.
use Rattle.std.proofs.Common.{◌<◌, ◌≤◌, length, sym, ap, ◌∙◌, arith}
use Rattle.vs_undo.proofs.ForgetLemmas.{none_left, step_left, step_settled}
use Rattle.vs_undo.proofs.forget.forget.Goals as goal

pub forget-smaller : goal.forget-smaller
forget-smaller c =
    let more : c.args.levels < length c.forget.parts.nodes = omega (arith, c.forget-test.true, ap length c.nodes.ensures) in
    (step_left c.args.levels (record { tree = c.forget.parts; root = c.forget.root }) (record { tree = c.forget_once-root.new.parts; root = c.forget_once-root.result })
    c.requires.some c.forget.invariant.fresh more c.forget_once-root.ensures.left).0.1

pub forget-preserved : goal.forget-preserved
forget-preserved c =
    let more : c.args.levels < length c.forget.parts.nodes = omega (arith, c.forget-test.true, ap length c.nodes.ensures) in
    let step = step_left c.args.levels (record { tree = c.forget.parts; root = c.forget.root }) (record { tree = c.forget_once-root.new.parts; root = c.forget_once-root.result })
    c.requires.some c.forget.invariant.fresh more c.forget_once-root.ensures.left in
    record {
      fresh = step.0.0;
      settled = λ is. step_settled (record { tree = c.forget.parts; root = c.forget.root }) (record { tree = c.forget_once-root.new.parts; root = c.forget_once-root.result }) c.forget.invariant.fresh
          (omega (arith, more, c.requires.some)) c.forget_once-root.ensures.left (c.forget.invariant.settled is);
      straight = c.forget_once-root.ensures.straight;
      left = step.1 ∙ c.forget.invariant.left;
    }

pub returns-clause-left : goal.returns-clause-left
returns-clause-left c =
    let fits : length c.forget.parts.nodes ≤ c.args.levels = omega (arith, c.forget-test.false, ap length c.nodes.ensures) in
    sym c.forget.invariant.left ∙ none_left (length c.forget.parts.nodes) c.args.levels (record { tree = c.forget.parts; root = c.forget.root }) fits
