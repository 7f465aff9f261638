-- The lowest bit of the comparison's mask is the first zero.
use Rattle.std.proofs.Common.{eqb, sym, ap, ◌∙◌, arith, w8}
use lib.Count.{count_trailing_zeros}
use lib.Lanes.{chunk}
use Rattle.std.proofs.lemmas.Simd.{length-chunk, bitmask_splat, leading_from_mask_l, trailing_mask_l}
use Rattle.vs_data.proofs.append.count_before_zero.Goals as goal

pub returns-then-zeros-eq0 : goal.returns-then-zeros-eq0
returns-then-zeros-eq0 c =
    let v = chunk c.args.at 16 c.args.bytes.now in
    let long = length-chunk c.args.at 16 c.args.bytes.now c.requires in
    let zeros = bitmask_splat w8 eqb v 16 0 long (omega arith) in
    sym (leading_from_mask_l (λ x. eqb x 0) v (sym zeros ∙ c.if-zeros-eq0.true) ∙ long)

pub returns-else-zeros-eq0 : goal.returns-else-zeros-eq0
returns-else-zeros-eq0 c =
    let v = chunk c.args.at 16 c.args.bytes.now in
    let long = length-chunk c.args.at 16 c.args.bytes.now c.requires in
    let zeros = bitmask_splat w8 eqb v 16 0 long (omega arith) in
    ap (count_trailing_zeros 64) zeros ∙ trailing_mask_l (λ x. eqb x 0) 64 v (omega arith) (omega arith)
