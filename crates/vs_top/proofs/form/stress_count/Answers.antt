use Rattle.std.proofs.Common.{rules, ◌≡◌, length, get_or, map, string_bytes, arith}
use Rattle.std.proofs.lemmas.Grind.{common_steps}
use Rattle.std.specs.Prelude.{codes}
use Rattle.vs_top.proofs.StressForms.{some_count}
use Rattle.vs_top.proofs.Words.{two_members}
use Rattle.vs_top.proofs.form.stress_count.Goals as goal

pub returns-clause-some : goal.returns-clause-some
returns-clause-some c =
    let first : c.as_str.result.now ≡ codes "stress" = search rules in
    let two : length (map string_bytes c.args.words.now) ≡ 2 = grind (arith, common_steps) in
    let one : c.as_str.result.now ≡ get_or (map string_bytes c.args.words.now) 0 c.as_str.result.now = grind (arith, common_steps) in
    let other : c.as_str-2.result.now ≡ get_or (map string_bytes c.args.words.now) 1 c.as_str-2.result.now = grind (arith, common_steps) in
    some_count (map string_bytes c.args.words.now) c.as_str.result.now c.as_str-2.result.now c.count_of.result first
    (two_members (map string_bytes c.args.words.now) c.as_str.result.now c.as_str-2.result.now two one other) c.count_of.ensures.some
