-- There are no more zeros than bytes.
use Rattle.std.proofs.Common.{arith}
use Rattle.vs_data.proofs.Counting.{zeros_before}
use Rattle.vs_data.proofs.bytes.count_few_zeros.Goals as goal

pub overflow_add-zeros : goal.overflow_add-zeros
overflow_add-zeros c =
    let few = zeros_before c.args.bytes.now c.bytes.byte-index in
    omega (arith, c.bytes.invariant, c.bytes-test.true, c.requires)
