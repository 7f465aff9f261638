use Rattle.std.proofs.Common.{ℕ, ◌-◌, rules, refl, arith}
use Rattle.std.proofs.lemmas.Result.{IfOk-weaker}
use Rattle.vs_pages.proofs.Steps.{Continues-trans}
use Rattle.vs_tree_blocks.proofs.Outcomes.{if_ok_both}
use Rattle.vs_merge.specs.Tidies.{WorksBeside}
use Rattle.vs_merge.proofs.Lowering.{deep_below, deep_e, lowers_flat, lowers_not, lowers_on, took_true, took_false, works_true, works_false}
use Rattle.vs_merge.proofs.Working.{beside_both, beside_most, beside_none}
use Rattle.vs_merge.proofs.root.+lower_root.Goals as goal

pub returns-then-height-lt2-clause-lowers : goal.returns-then-height-lt2-clause-lowers
returns-then-height-lt2-clause-lowers g t c = λ told lines has. lowers_flat _ _ c.args.height lines has (omega (arith, c.if-height-lt2.true)) refl

pub returns-then-height-lt2-clause-works : goal.returns-then-height-lt2-clause-works
returns-then-height-lt2-clause-works g t c = λ told. beside_none _ _ _ _ refl

pub take_over-requires-clause-there : goal.take_over-requires-clause-there
take_over-requires-clause-there g t c = λ told. deep_e _ c.args.height c.args.lines (omega (arith, c.if-height-lt2.false)) (c.requires.there told)

pub returns-then-not-took-clause-lowers : goal.returns-then-not-took-clause-lowers
returns-then-not-took-clause-lowers g t c = λ told lines has.
    lowers_not _ _ c.args.height lines has (omega (arith, c.if-height-lt2.false)) (λ e had. took_false _ _ e lines had c.in_ok-took.took c.if-not-took.true (c.in_ok-took.ensures.takes told e lines had))

pub returns-then-not-took-clause-works : goal.returns-then-not-took-clause-works
returns-then-not-took-clause-works g t c = λ told.
    let w : WorksBeside (g.P.Pages.shows c.args.pages.now).worked (g.P.Pages.shows c.take_over.new.pages).worked 1 0 = works_false _ _ c.in_ok-took.took c.if-not-took.true (c.in_ok-took.ensures.works told) in
    beside_most _ _ 1 0 (c.args.height - c.args.height) (omega arith) w

pub lower_root-requires : goal.lower_root-requires
lower_root-requires g t c = λ κs within. (
  omega (arith, c.if-height-lt2.false),
  (
    search rules,
    (
      c.take_over.ensures.kept.valid,
      λ told. deep_below _ _ c.args.height c.args.lines (omega (arith, c.if-height-lt2.false)) (c.requires.there told) (λ e list had. took_true _ _ e list had c.in_ok-took.took c.if-not-took.false (c.in_ok-took.ensures.takes told e list had)),
    ),
  ),
)

pub returns-clause-lowers : goal.returns-clause-lowers
returns-clause-lowers g t c = IfOk-weaker c.lower_root.result _ _ (λ (now : ℕ) lowers told lines has.
    lowers_on _ _ _ c.args.height now lines has (omega (arith, c.if-height-lt2.false)) (λ e had. took_true _ _ e lines had c.in_ok-took.took c.if-not-took.false (c.in_ok-took.ensures.takes told e lines had)) (λ low. lowers told lines low)) c.lower_root.ensures.lowers

pub returns-clause-lower : goal.returns-clause-lower
returns-clause-lower g t c = IfOk-weaker c.lower_root.result _ _ (λ (now : ℕ) lower. omega (arith, lower)) c.lower_root.ensures.lower

pub returns-clause-works : goal.returns-clause-works
returns-clause-works g t c = if_ok_both c.lower_root.result _ _ _ (λ (now : ℕ) works lower told.
    beside_both _ _ _ 1 1 (c.args.height - 1 - now) (c.args.height - now) (omega (arith, c.if-height-lt2.false, lower)) (works_true _ _ c.in_ok-took.took c.if-not-took.false (c.in_ok-took.ensures.works told)) (works told)) c.lower_root.ensures.works c.lower_root.ensures.lower

pub returns-clause-kept : goal.returns-clause-kept
returns-clause-kept g t c = Continues-trans g.met.P.Pages.stays_on c.take_over.ensures.kept c.lower_root.ensures.kept
