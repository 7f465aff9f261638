use Rattle.std.proofs.Common.{◌∙◌, arith}
use Rattle.std.proofs.lemmas.Int.{ints}
use Rattle.vs_exparse.proofs.range.read_offsets.Goals as goal

pub offsets-preserved : goal.offsets-preserved
offsets-preserved c =
    let on = c.in-Some.ensures.some in
    record {
      sum = omega (arith, ints, on.sum);
      rest = on.rest_is ∙ c.offsets.invariant.rest;
      shorter = omega (arith, on.shorter);
      low = omega (arith, ints, on.low, on.shorter);
      high = omega (arith, ints, on.high, on.shorter);
    }
