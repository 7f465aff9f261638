use Rattle.std.proofs.Common.{ℕ, subst}
use Rattle.vs_ufile.specs.Format.{IsNumber}
use Rattle.vs_ufile.specs.Writing.{Puts}
use Rattle.vs_ufile.proofs.Writes.{puts_sized}
use Rattle.vs_ufile.proofs.writing.put_sized.Goals as goal

pub returns : goal.returns
returns c =
    let a = c.args.out.now.items in
    let b = c.put_u32.new.out.items in
    puts_sized c.args.bytes.now a b c.put.new.out.items (subst (λ (n : ℕ). Puts (IsNumber 4 n) a b) c.in_ok-size.ensures c.in_ok-put_u32.ensures) c.in_ok-put.ensures
