use Rattle.std.proofs.Common.{◌++◌, ◌∷◌, [], IsErr}
use Rattle.vs_host.specs.World.{Scene}
use Rattle.vs_tagged.proofs.Writes.{calm_by, failed_by, is_err_on, puts_cut, puts_one, puts_then}
use Rattle.vs_tagged.proofs.put.put_line.Goals as goal

pub returns-in_err-write : goal.returns-in_err-write
returns-in_err-write g c =
    let s0 : Scene = g.O.World.scene c.args.host.now in
    let s1 : Scene = g.O.World.scene c.write.new.self in
    let failed = failed_by c.write.result c.in_err-write.field-0.0 c.in_err-write.was in
    let one = puts_one g.O.World.tells c.args.tag.now s0 s1 c.write.ensures.frame c.write.result c.write.ensures.ok c.write.ensures.err c.write.ensures.cause c.write.ensures.quiet c.write.ensures.told in
    puts_cut g.O.World.tells c.args.tag.now (c.args.line.now ++ 10 ∷ []) (IsErr c.write.result) (IsErr c.from_residual.result) s0 s1 failed
    (is_err_on c.from_residual.result _ c.from_residual.ensures.1) one

pub returns-in_err-write-2 : goal.returns-in_err-write-2
returns-in_err-write-2 g c =
    let s0 : Scene = g.O.World.scene c.args.host.now in
    let s1 : Scene = g.O.World.scene c.write.new.self in
    let s2 : Scene = g.O.World.scene c.write-2.new.self in
    let failed = failed_by c.write-2.result c.in_err-write-2.field-0.0 c.in_err-write-2.was in
    let one = puts_one g.O.World.tells c.args.tag.now s0 s1 c.write.ensures.frame c.write.result c.write.ensures.ok c.write.ensures.err c.write.ensures.cause c.write.ensures.quiet c.write.ensures.told in
    let two = puts_one g.O.World.tells c.args.line.now s1 s2 c.write-2.ensures.frame c.write-2.result c.write-2.ensures.ok c.write-2.ensures.err c.write-2.ensures.cause c.write-2.ensures.quiet c.write-2.ensures.told in
    puts_then g.O.World.tells c.args.tag.now (c.args.line.now ++ 10 ∷ []) (IsErr c.write.result) (IsErr c.from_residual-in_err-write-2.result) s0 s1 s2 (calm_by c.write.result c.in_ok-write.field-0 c.in_ok-write.was) one
    (puts_cut g.O.World.tells c.args.line.now (10 ∷ []) (IsErr c.write-2.result) (IsErr c.from_residual-in_err-write-2.result) s1 s2 failed
    (is_err_on c.from_residual-in_err-write-2.result _ c.from_residual-in_err-write-2.ensures.1) two)

pub returns : goal.returns
returns g c =
    let s0 : Scene = g.O.World.scene c.args.host.now in
    let s1 : Scene = g.O.World.scene c.write.new.self in
    let s2 : Scene = g.O.World.scene c.write-2.new.self in
    let s3 : Scene = g.O.World.scene c.write-3.new.self in
    let one = puts_one g.O.World.tells c.args.tag.now s0 s1 c.write.ensures.frame c.write.result c.write.ensures.ok c.write.ensures.err c.write.ensures.cause c.write.ensures.quiet c.write.ensures.told in
    let two = puts_one g.O.World.tells c.args.line.now s1 s2 c.write-2.ensures.frame c.write-2.result c.write-2.ensures.ok c.write-2.ensures.err c.write-2.ensures.cause c.write-2.ensures.quiet c.write-2.ensures.told in
    let three = puts_one g.O.World.tells (10 ∷ []) s2 s3 c.write-3.ensures.frame c.write-3.result c.write-3.ensures.ok c.write-3.ensures.err c.write-3.ensures.cause c.write-3.ensures.quiet c.write-3.ensures.told in
    puts_then g.O.World.tells c.args.tag.now (c.args.line.now ++ 10 ∷ []) (IsErr c.write.result) (IsErr c.write-3.result) s0 s1 s3 (calm_by c.write.result c.in_ok-write.field-0 c.in_ok-write.was) one
    (puts_then g.O.World.tells c.args.line.now (10 ∷ []) (IsErr c.write-2.result) (IsErr c.write-3.result) s1 s2 s3 (calm_by c.write-2.result c.in_ok-write-2.field-0 c.in_ok-write-2.was) two three)
