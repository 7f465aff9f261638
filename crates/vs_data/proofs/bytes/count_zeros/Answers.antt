-- There are no more zeros than bytes, and the bytes of a slice can be counted.
use Rattle.std.proofs.Common.{rules, ◌≡◌, ◌+◌, ◌≤◌, ◌==◌, if◌then◌else◌, length, take, ap, ◌∙◌, arith}
use Rattle.std.proofs.lemmas.List.Sums.{sum_by-take-le}
use Rattle.vs_data.specs.Blocks.{zeros_in}
use Rattle.vs_data.proofs.Counting.{zeros_few}
use Rattle.vs_data.proofs.bytes.count_zeros.Goals as goal

pub overflow_add-zeros : goal.overflow_add-zeros
overflow_add-zeros c =
    let part : c.from-zeros.result ≡ zeros_in (take c.min.result c.parts.rest.now) = c.from-zeros.ensures ∙ c.count_few_zeros.ensures ∙ ap zeros_in c.split_at.ensures.front in
    let within = sum_by-take-le (λ byte. if byte == 0 then 1 else 0) c.parts.rest.now c.min.result in
    let few : c.parts.zeros + c.from-zeros.result ≤ length c.args.bytes.now = (let all = zeros_few c.args.bytes.now in omega (arith, part, within, c.parts.invariant)) in
    search rules
