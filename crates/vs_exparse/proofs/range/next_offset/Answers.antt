use Rattle.std.proofs.Common.{◌≡◌, arith, rules, to_z, of_z, w64, ◌∙◌, sym}
use mir.Val.{SFits}
use Rattle.std.proofs.Math.Facts.{to_z-of_z}
use Rattle.vs_exparse.proofs.OffsetLemmas.{goes-on}
use Rattle.vs_exparse.proofs.range.next_offset.Goals as goal

pub returns-clause-some : goal.returns-clause-some
returns-clause-some c =
    let fits : SFits w64 c.offset-first.result = search rules in
    let same : to_z w64 (of_z w64 c.offset-first.result) ≡ c.offset-first.result = to_z-of_z fits in
    rw same (goes-on c.args.line.now c.split_digits.result.0.now c.split_digits.result.1.now c.offset-first.result
    (sym c.starts_signed.ensures ∙ c.if-not-starts_signed.false)
    (rw (← c.split_at.ensures.back) c.split_digits.ensures.digits)
    (rw (← c.split_at.ensures.back) c.split_digits.ensures.rest)
    c.offset-first.ensures.value
    c.offset-first.ensures.low c.offset-first.ensures.high
    (omega arith))
