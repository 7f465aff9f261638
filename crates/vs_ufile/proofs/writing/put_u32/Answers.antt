use Rattle.std.proofs.Common.{ℕ, List, ◌<◌, ◌^◌, ◌∙◌, ◌++◌, ap, refl, arith}
use Rattle.vs_ufile.proofs.Writes.{field_is, puts_number}
use Rattle.vs_ufile.proofs.writing.put_u32.Goals as goal

pub returns : goal.returns
returns c =
    let fits : c.args.n < 256 ^ 4 = omega (arith, c.ranges.n) in
    puts_number 4 c.args.n c.args.out.now.items _ fits
    (c.in_ok-extend_from_slice.ensures.items ∙ ap (λ (x : List ℕ). c.args.out.now.items ++ x) (c.put_be_u32.ensures ∙ field_is 4 c.args.n _ refl))
