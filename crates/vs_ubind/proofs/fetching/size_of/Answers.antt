use Rattle.std.proofs.Common.{[], ◌∷◌}
use Rattle.vs_host.specs.Trace.{Looked, Measured}
use Rattle.vs_host.specs.World.{Scene}
use Rattle.vs_disk.proofs.Quiet.{none_then}
use Rattle.vs_pair.proofs.Calls.{look_none}
use Rattle.vs_ubind.proofs.Calls.{looked_more, looked_once}
use Rattle.vs_ubind.proofs.Loads.{just_handed}
use Rattle.vs_ubind.proofs.fetching.size_of.Goals as goal

pub returns-in_err-has-clause-acts : goal.returns-in_err-has-clause-acts
returns-in_err-has-clause-acts g c =
    looked_once g.F.World.tells Looked (c.args.name.now ∷ []) c.has.result (g.F.World.scene c.args.host.now) (g.F.World.scene c.has.new.self) c.has.ensures.frame c.has.ensures.cause c.has.ensures.told

pub returns-then-not-branch-clause-acts : goal.returns-then-not-branch-clause-acts
returns-then-not-branch-clause-acts g c =
    looked_once g.F.World.tells Looked (c.args.name.now ∷ []) c.has.result (g.F.World.scene c.args.host.now) (g.F.World.scene c.has.new.self) c.has.ensures.frame c.has.ensures.cause c.has.ensures.told

pub returns-in_err-size-clause-acts : goal.returns-in_err-size-clause-acts
returns-in_err-size-clause-acts g c =
    let names = c.args.name.now ∷ [] in
    let s0 : Scene = g.F.World.scene c.args.host.now in
    let s1 : Scene = g.F.World.scene c.has.new.self in
    let s2 : Scene = g.F.World.scene c.len.new.self in
    looked_more g.F.World.tells Measured names c.len.result s0 s1 s2 (look_none g.F.World.tells Looked names c.has.result s0 s1 c.has.ensures.frame c.has.ensures.told c.in_ok-has.ensures.quiet)
    (looked_once g.F.World.tells Looked names c.has.result s0 s1 c.has.ensures.frame c.has.ensures.cause c.has.ensures.told) c.len.ensures.frame c.len.ensures.cause c.len.ensures.told

pub returns-clause-acts : goal.returns-clause-acts
returns-clause-acts g c =
    let names = c.args.name.now ∷ [] in
    let s0 : Scene = g.F.World.scene c.args.host.now in
    let s1 : Scene = g.F.World.scene c.has.new.self in
    let s2 : Scene = g.F.World.scene c.len.new.self in
    looked_more g.F.World.tells Measured names c.len.result s0 s1 s2 (look_none g.F.World.tells Looked names c.has.result s0 s1 c.has.ensures.frame c.has.ensures.told c.in_ok-has.ensures.quiet)
    (looked_once g.F.World.tells Looked names c.has.result s0 s1 c.has.ensures.frame c.has.ensures.cause c.has.ensures.told) c.len.ensures.frame c.len.ensures.cause c.len.ensures.told

pub returns-clause-none : goal.returns-clause-none
returns-clause-none g c calm =
    let names = c.args.name.now ∷ [] in
    let s0 : Scene = g.F.World.scene c.args.host.now in
    let s1 : Scene = g.F.World.scene c.has.new.self in
    let s2 : Scene = g.F.World.scene c.len.new.self in
    none_then g.F.World.tells s0 s1 s2 (look_none g.F.World.tells Looked names c.has.result s0 s1 c.has.ensures.frame c.has.ensures.told c.in_ok-has.ensures.quiet)
    (look_none g.F.World.tells Measured names c.len.result s1 s2 c.len.ensures.frame c.len.ensures.told c.in_ok-size.ensures.quiet)

pub returns-then-not-branch-clause-none : goal.returns-then-not-branch-clause-none
returns-then-not-branch-clause-none g c calm =
    look_none g.F.World.tells Looked (c.args.name.now ∷ []) c.has.result (g.F.World.scene c.args.host.now) (g.F.World.scene c.has.new.self) c.has.ensures.frame c.has.ensures.told c.in_ok-has.ensures.quiet

pub returns-in_err-has-clause-none : goal.returns-in_err-has-clause-none
returns-in_err-has-clause-none g c calm = absurd (calm (just_handed c.from_residual.result _ c.from_residual.ensures.1))

pub returns-in_err-size-clause-none : goal.returns-in_err-size-clause-none
returns-in_err-size-clause-none g c calm = absurd (calm (just_handed c.from_residual-in_err-size.result _ c.from_residual-in_err-size.ensures.1))
