use Rattle.std.proofs.Common.{refl, subst}
use Rattle.vs_host.specs.declared.names.Names.{Names}
use Rattle.vs_host.specs.Names.{names_of_file}
use Rattle.vs_host.specs.World.{Scene}
use Rattle.vs_modes.specs.declared.error.ModeErr.TheVariants as refusal
use Rattle.vs_modes.specs.Discard.{RunsDiscard}
use Rattle.vs_modes.specs.Modes.{Ended}
use Rattle.vs_modes.proofs.Phases.{failed_as, refused_as}
use Rattle.vs_modes.proofs.DiscardLaws.{discard_idle, discard_failed, discard_written}
use Rattle.vs_modes.proofs.discarding.discard.Goals as goal

pub returns-in_err-names : goal.returns-in_err-names
returns-in_err-names g c =
    let s0 : Scene = g.H.World.scene c.args.host.now in
    let names : Names = names_of_file c.args.name.now in
    subst (λ (r : Ended (Unit {0})). RunsDiscard g.H.World.tells names s0 s0 r) (refused_as c.from_residual.result refusal.NoMemory c.from_residual.ensures.1) (discard_idle g.H.World.tells names s0)

pub returns-in_err-found : goal.returns-in_err-found
returns-in_err-found g c =
    let s0 : Scene = g.H.World.scene c.args.host.now in
    let s1 : Scene = g.H.World.scene c.remove_both.new.host in
    let names : Names = names_of_file c.args.name.now in
    subst (λ (r : Ended (Unit {0})). RunsDiscard g.H.World.tells names s0 s1 r) (refused_as c.from_residual-in_err-found.result refusal.FolderFailed c.from_residual-in_err-found.ensures.1)
    (subst (λ (n : Names). RunsDiscard g.H.World.tells n s0 s1 (failed_as refusal.FolderFailed)) c.in_ok-names.ensures.names (discard_failed g.H.World.tells c.in_ok-names.names s0 s1 c.remove_both.ensures.acts c.remove_both.ensures.calls (c.in_err-found.ensures.cause.risen refl)))

pub returns : goal.returns
returns g c =
    let s0 : Scene = g.H.World.scene c.args.host.now in
    let s1 : Scene = g.H.World.scene c.remove_both.new.host in
    let s2 : Scene = g.H.World.scene c.write_bytes.new.out in
    subst (λ (n : Names). RunsDiscard g.H.World.tells n s0 s2 c.write_bytes.result) c.in_ok-names.ensures.names
    (discard_written g.H.World.tells c.in_ok-names.names s0 s1 s2 c.in_ok-found.found c.discard_line.result.now c.write_bytes.result c.in_ok-found.ensures.value c.discard_line.ensures c.remove_both.ensures.acts c.in_ok-found.ensures.none c.remove_both.ensures.calls c.in_ok-found.ensures.gone
    c.write_bytes.ensures.outputs c.write_bytes.ensures.calls c.write_bytes.ensures.cause c.write_bytes.ensures.none c.write_bytes.ensures.failed c.write_bytes.ensures.ok c.write_bytes.ensures.err)
