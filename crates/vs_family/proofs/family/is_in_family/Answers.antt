use Rattle.std.proofs.Common.{sym, ◌∙◌, arith}
use Rattle.std.specs.Str.{bytes_eq}
use Rattle.vs_family.specs.Family.{lasting_names, with_temporary}
use Rattle.vs_family.specs.Pieces.{spelled}
use Rattle.vs_family.proofs.Listed.{none_passes, one_more, one_passes, within_all, within_count}
use Rattle.vs_family.proofs.family.is_in_family.Goals as goal

pub returns-then-is_name_of : goal.returns-then-is_name_of
returns-then-is_name_of c =
    sym (one_passes (with_temporary (bytes_eq (spelled c.args.name))) (lasting_names c.args.file.now) c.loop-number.number
    (within_all c.args.file.now c.loop-number.number (omega (arith, c.loop-number-test.true))) (sym c.is_name_of.ensures ∙ c.if-is_name_of.true))

pub loop-number-preserved : goal.loop-number-preserved
loop-number-preserved c = record {
  none = one_more (with_temporary (bytes_eq (spelled c.args.name))) (lasting_names c.args.file.now) c.loop-number.number c.loop-number.invariant.none
      (sym c.is_name_of.ensures ∙ c.if-is_name_of.false);
}

pub returns : goal.returns
returns c =
    sym (none_passes (with_temporary (bytes_eq (spelled c.args.name))) (lasting_names c.args.file.now)
    (λ k below. c.loop-number.invariant.none k (omega (arith, within_count c.args.file.now k below, c.loop-number-test.false))))
