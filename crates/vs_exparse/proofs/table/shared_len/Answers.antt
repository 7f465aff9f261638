use Rattle.std.proofs.Common.{arith, nat_eq, drop, length, ◌≡◌, ap, []}
use Rattle.std.proofs.lemmas.List.{drop_all}
use Rattle.std.proofs.lemmas.List.Sums.{common_prefix_len-le}
use Rattle.vs_exparse.proofs.table.shared_len.Goals as goal

pub returns-else-count-b : goal.returns-else-count-b
returns-else-count-b c =
    let none : drop c.bytes.count c.args.b.now ≡ [] = drop_all c.bytes.count c.args.b.now c.if-count-b.false in
    let most : length (drop c.bytes.count c.args.b.now) ≡ 0 = ap length none in
    omega (arith, (common_prefix_len-le nat_eq (drop c.bytes.count c.args.a.now) (drop c.bytes.count c.args.b.now)).1)
