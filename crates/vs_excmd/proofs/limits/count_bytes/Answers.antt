use Rattle.std.proofs.Common.{◌≡◌, ap, drop, [], arith}
use Rattle.std.proofs.lemmas.List.{drop_all}
use Rattle.vs_text.specs.Text.{bytes_of}
use Rattle.vs_excmd.proofs.limits.count_bytes.Goals as goal

pub returns : goal.returns
returns c =
    let none : drop c.loop-line.line-index c.args.lines.now ≡ [] = drop_all c.loop-line.line-index c.args.lines.now (omega arith) in
    let nothing : bytes_of (drop c.loop-line.line-index c.args.lines.now) ≡ 0 = ap bytes_of none in
    omega (arith, c.loop-line.invariant.so_far)
