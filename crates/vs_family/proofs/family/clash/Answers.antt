use Rattle.std.proofs.Common.{sym, ◌∙◌, arith, true, false}
use Rattle.vs_family.specs.Family.{is_of_family, lasting_names, with_temporary}
use Rattle.vs_family.proofs.Families.{clash_as}
use Rattle.vs_family.proofs.Listed.{none_passes, one_more, one_passes, within_all, within_count}
use Rattle.vs_family.proofs.family.clash.Goals as goal

pub returns-then-shares_name : goal.returns-then-shares_name
returns-then-shares_name c =
    clash_as c.args.one.now c.as_bytes-one.result.now c.args.two.now c.as_bytes-two.result.now true c.as_bytes-one.ensures.value c.as_bytes-two.ensures.value
    (sym (one_passes (with_temporary (is_of_family c.as_bytes-two.result.now)) (lasting_names c.as_bytes-one.result.now) c.loop-number.number
    (within_all c.as_bytes-one.result.now c.loop-number.number (omega (arith, c.loop-number-test.true))) (sym c.shares_name.ensures ∙ c.if-shares_name.true)))

pub loop-number-preserved : goal.loop-number-preserved
loop-number-preserved c = record {
  none = one_more (with_temporary (is_of_family c.as_bytes-two.result.now)) (lasting_names c.as_bytes-one.result.now) c.loop-number.number c.loop-number.invariant.none
      (sym c.shares_name.ensures ∙ c.if-shares_name.false);
}

pub returns : goal.returns
returns c =
    clash_as c.args.one.now c.as_bytes-one.result.now c.args.two.now c.as_bytes-two.result.now false c.as_bytes-one.ensures.value c.as_bytes-two.ensures.value
    (sym (none_passes (with_temporary (is_of_family c.as_bytes-two.result.now)) (lasting_names c.as_bytes-one.result.now)
    (λ k below. c.loop-number.invariant.none k (omega (arith, within_count c.as_bytes-one.result.now k below, c.loop-number-test.false)))))
