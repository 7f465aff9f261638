use Rattle.vs_host.specs.World.{Scene}
use Rattle.vs_disk.proofs.Quiet.{none_then}
use Rattle.vs_ubind.proofs.Calls.{looked_then}
use Rattle.vs_ubind.proofs.Loads.{same_handed}
use Rattle.vs_ubind.proofs.fetching.fetch.Goals as goal

pub returns-in_err-bytes-clause-acts : goal.returns-in_err-bytes-clause-acts
returns-in_err-bytes-clause-acts g c =
    let s0 : Scene = g.F.World.scene c.args.host.now in
    looked_then g.F.World.tells s0 (g.F.World.scene c.size_of.new.host) (g.F.World.scene c.first_bytes.new.host) (c.in_ok-size.ensures.none (λ e. cc)) c.size_of.ensures.acts c.first_bytes.ensures.acts

pub returns-clause-acts : goal.returns-clause-acts
returns-clause-acts g c =
    let s0 : Scene = g.F.World.scene c.args.host.now in
    looked_then g.F.World.tells s0 (g.F.World.scene c.size_of.new.host) (g.F.World.scene c.first_bytes.new.host) (c.in_ok-size.ensures.none (λ e. cc)) c.size_of.ensures.acts c.first_bytes.ensures.acts

pub returns-clause-none : goal.returns-clause-none
returns-clause-none g c calm =
    let s0 : Scene = g.F.World.scene c.args.host.now in
    none_then g.F.World.tells s0 (g.F.World.scene c.size_of.new.host) (g.F.World.scene c.first_bytes.new.host) (c.in_ok-size.ensures.none (λ e. cc)) (c.in_ok-bytes.ensures.none (λ e. cc))

pub returns-in_err-size-clause-none : goal.returns-in_err-size-clause-none
returns-in_err-size-clause-none g c calm = c.in_err-size.ensures.none (λ failed. calm (same_handed c.from_residual.result _ _ c.from_residual.ensures.1 failed))

pub returns-in_err-bytes-clause-none : goal.returns-in_err-bytes-clause-none
returns-in_err-bytes-clause-none g c calm =
    let s0 : Scene = g.F.World.scene c.args.host.now in
    none_then g.F.World.tells s0 (g.F.World.scene c.size_of.new.host) (g.F.World.scene c.first_bytes.new.host) (c.in_ok-size.ensures.none (λ e. cc))
    (c.in_err-bytes.ensures.none (λ failed. calm (same_handed c.from_residual-in_err-bytes.result _ _ c.from_residual-in_err-bytes.ensures.1 failed)))
