use Rattle.std.proofs.Common.{[], ◌∷◌, refl}
use Rattle.std.proofs.lemmas.Result.{on_ok_weaker}
use Rattle.vs_host.specs.Disk.{CreatesFile}
use Rattle.vs_host.specs.Trace.{Created}
use Rattle.vs_host.specs.World.{Scene}
use Rattle.vs_disk.proofs.Quiet.{none_call, none_then}
use Rattle.vs_pair.proofs.Calls.{create_acts}
use Rattle.vs_backup.specs.Works.{one_name}
use Rattle.vs_backup.proofs.Frames.{spares_created, alone_created}
use Rattle.vs_ubind.proofs.Calls.{spares_acts, spares_of}
use Rattle.vs_ubind.proofs.Told.{calls_one, calls_then}
use Rattle.vs_ubind.proofs.storing.make_anew.Goals as goal

pub returns-clause-acts : goal.returns-clause-acts
returns-clause-acts g c =
    let on = one_name c.args.name.now in
    let s0 : Scene = g.F.World.scene c.args.host.now in
    let s1 : Scene = g.F.World.scene c.clear.new.host in
    let s2 : Scene = g.F.World.scene c.create_private.new.self in
    spares_acts g.F.World.tells on s0 s1 s2 c.in_ok-clear.ensures.none c.clear.ensures.acts
    (spares_of g.F.World.tells on (CreatesFile c.args.name.now) (spares_created c.args.name.now) s1 s2
    (create_acts g.F.World.tells c.args.name.now c.create_private.result s1 s2
    c.create_private.ensures.ok c.create_private.ensures.mode c.create_private.ensures.err c.create_private.ensures.cause c.create_private.ensures.told c.create_private.ensures.frame))

pub returns-clause-alone : goal.returns-clause-alone
returns-clause-alone g c =
    on_ok_weaker c.create_private.result
    (λ creates told. alone_created c.args.name.now (g.F.World.scene c.clear.new.host).folder (g.F.World.scene c.create_private.new.self).folder (creates told)) c.create_private.ensures.ok

pub returns-clause-none : goal.returns-clause-none
returns-clause-none g c =
    let s0 : Scene = g.F.World.scene c.args.host.now in
    let s1 : Scene = g.F.World.scene c.clear.new.host in
    let s2 : Scene = g.F.World.scene c.create_private.new.self in
    on_ok_weaker c.create_private.result
    (λ quiet. none_then g.F.World.tells s0 s1 s2 c.in_ok-clear.ensures.none
    (none_call g.F.World.tells Created (c.args.name.now ∷ []) c.create_private.result s1 s2 c.create_private.ensures.frame c.create_private.ensures.told quiet))
    c.create_private.ensures.quiet

pub returns-clause-calls : goal.returns-clause-calls
returns-clause-calls g c =
    let on = one_name c.args.name.now in
    let s0 : Scene = g.F.World.scene c.args.host.now in
    let s1 : Scene = g.F.World.scene c.clear.new.host in
    let s2 : Scene = g.F.World.scene c.create_private.new.self in
    calls_then g.F.World.tells on s0 s1 s2 c.clear.ensures.calls
    (calls_one g.F.World.tells on Created (c.args.name.now ∷ []) (refl, tt) (λ none. absurd (cc)) c.create_private.result s1 s2 c.create_private.ensures.told)
