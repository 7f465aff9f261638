use Rattle.std.proofs.Common.{◌+◌, ◌*◌, ◌-◌, refl, rules, arith}
use Rattle.std.proofs.lemmas.Result.{on_ok_weaker}
use Rattle.vs_pages.proofs.Steps.{Continues-trans}
use Rattle.vs_tree_shape.specs.Keeps.{IsReady, IsThick}
use Rattle.vs_tree_shape.proofs.Steps.{above_down}
use Rattle.vs_tree_shape.proofs.Downs.{deep_two, keeps_level, keeps_same}
use Rattle.vs_tree_shape.proofs.Towards.{ready_low}
use Rattle.vs_tree_blocks.specs.Blocks.{tree_format}
use Rattle.vs_merge.proofs.Tidying.{least_deep, still_there}
use Rattle.vs_merge.proofs.Working.{beside_down, beside_most, beside_none}
use Rattle.vs_merge.proofs.below.+tidy_below.Goals as goal

pub returns-then-depth-le1-clause-tidies : goal.returns-then-depth-le1-clause-tidies
returns-then-depth-le1-clause-tidies g t c = λ told need some.
    keeps_same tree_format _ _ c.args.top c.args.depth c.args.at (λ u. IsReady need c.args.depth u c.args.at) (λ u. IsThick need c.args.depth u) refl (λ a f. ready_low need c.args.depth a.tree c.args.at (omega (arith, c.if-depth-le1.true)) f)

pub returns-then-depth-le1-clause-works : goal.returns-then-depth-le1-clause-works
returns-then-depth-le1-clause-works g t c = λ told. beside_none _ _ _ _ refl

pub step_down-requires-clause-there : goal.step_down-requires-clause-there
step_down-requires-clause-there g t c = λ told. deep_two tree_format _ c.args.top c.args.depth c.args.at (omega (arith, c.if-depth-le1.false)) (c.requires.there told)

pub tidy_below-requires : goal.tidy_below-requires
tidy_below-requires g t c = λ κs within.
    let place = c.in_ok-place.place in (
      omega (arith, c.if-depth-le1.false),
      (
        search rules,
        (
          c.step_down.ensures.kept.valid,
          (
            c.in_ok-place.ensures.within,
            (
              omega (arith, c.in_ok-place.ensures.inside, c.requires.small),
              λ told.
                  let of = c.in_ok-place.ensures.place told in
                  above_down tree_format _ c.args.top c.args.depth c.args.at of.entries place (λ z. omega (arith, z, c.if-depth-le1.false)) of.reads of.is
                  (still_there _ _ c.args.top c.args.depth c.args.at c.least_below.result (omega (arith, c.if-depth-le1.false)) c.least_below.ensures (c.in_ok-place.ensures.thickens told) (c.requires.there told)),
            ),
          ),
        ),
      ),
    )

pub returns-clause-tidies : goal.returns-clause-tidies
returns-clause-tidies g t c = on_ok_weaker c.tidy_below.result
    (λ tidies told need some.
    let of = c.in_ok-place.ensures.place told in
    keeps_level tree_format _ _ _ need c.args.top c.args.depth c.args.at of.entries c.in_ok-place.place (omega (arith, c.if-depth-le1.false)) of.reads of.is
    (λ e is. c.in_ok-place.ensures.thickens told e need some (least_deep c.args.depth e c.least_below.result c.least_below.ensures is)) (tidies told 32 (omega arith)))
    c.tidy_below.ensures.tidies

pub returns-clause-works : goal.returns-clause-works
returns-clause-works g t c = on_ok_weaker c.tidy_below.result
    (λ works told.
    let step = c.in_ok-place.ensures.works in
    beside_most _ _ _ (2 * (c.args.depth - 1 - 1) + 2) (2 * (c.args.depth - 1)) (omega (arith, c.if-depth-le1.false)) (beside_down _ _ _ c.args.top.block c.in_ok-place.place.entry.block step.0 (2 * (c.args.depth - 1 - 1)) (step.1 told) (works told)))
    c.tidy_below.ensures.works

pub returns-clause-kept : goal.returns-clause-kept
returns-clause-kept g t c = Continues-trans g.met.P.Pages.stays_on c.step_down.ensures.kept c.tidy_below.ensures.kept
