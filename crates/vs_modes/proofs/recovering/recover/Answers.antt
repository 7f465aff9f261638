use Rattle.std.proofs.Common.{◌≡◌, ◌+◌, Err, Ok, ap, sym, ◌∙◌, refl, subst}
use Rattle.vs_host.specs.declared.names.Names.{Names}
use Rattle.vs_host.specs.Names.{names_of_file}
use Rattle.vs_host.specs.World.{Scene}
use Rattle.vs_modes.specs.declared.error.ModeErr.{ModeErr}
use Rattle.vs_modes.specs.declared.error.ModeErr.TheVariants as refusal
use Rattle.vs_modes.specs.declared.recovering.Recovery.{Recovery}
use Rattle.vs_modes.specs.declared.recovering.Found.{Found}
use Rattle.vs_modes.specs.Recover.{IsRecovery, RefusesRecover, Remains, RunsRecover, found_recovery, most_reads, remains_in}
use Rattle.vs_modes.specs.Modes.{Ended}
use Rattle.vs_modes.specs.Moments.{IsSame}
use Rattle.vs_modes.proofs.Phases.{failed_as, refused_as, mode_cut, mode_idle, mode_wrote, reading_refused, reads_ready}
use Rattle.vs_modes.proofs.RecoverLaws.{found_is}
use Rattle.vs_modes.proofs.recovering.recover.Goals as goal

pub returns-in_err-names : goal.returns-in_err-names
returns-in_err-names g c =
    let s0 : Scene = g.H.World.scene c.args.host.now in
    let names : Names = names_of_file c.args.name.now in
    let remains : Remains = remains_in s0 names in
    subst (λ (r : Ended Recovery). RunsRecover g.H.World.tells names s0 s0 r) (refused_as c.from_residual.result refusal.NoMemory c.from_residual.ensures.1)
    (mode_idle IsSame (IsRecovery remains) (RefusesRecover remains) g.H.World.tells (most_reads remains + 1) s0 refl tt)

pub returns-in_err-found : goal.returns-in_err-found
returns-in_err-found g c =
    let s0 : Scene = g.H.World.scene c.args.host.now in
    let s1 : Scene = g.H.World.scene c.find.new.host in
    let names : Names = c.in_ok-names.names in
    let remains : Remains = remains_in s0 names in
    let why : ModeErr = c.in_err-found.field-0.0 in
    let is_err : c.find.result ≡ Err why = c.in_err-found.was in
    subst (λ (n : Names). RunsRecover g.H.World.tells n s0 s1 c.from_residual-in_err-found.result) c.in_ok-names.ensures.names
    (subst (λ (r : Ended Recovery). RunsRecover g.H.World.tells names s0 s1 r) (refused_as c.from_residual-in_err-found.result why c.from_residual-in_err-found.ensures.1)
    (reading_refused (IsRecovery remains) (RefusesRecover remains) g.H.World.tells s0 s1 why (λ is. c.find.ensures.output (is_err ∙ ap (λ (w : ModeErr). Err w) is)) c.in_err-found.ensures.reading c.in_err-found.ensures.refused))

pub returns-in_err-write_bytes : goal.returns-in_err-write_bytes
returns-in_err-write_bytes g c =
    let s0 : Scene = g.H.World.scene c.args.host.now in
    let s1 : Scene = g.H.World.scene c.find.new.host in
    let s2 : Scene = g.H.World.scene c.write_bytes.new.out in
    let names : Names = c.in_ok-names.names in
    let remains : Remains = remains_in s0 names in
    let found : Found = c.in_ok-found.found in
    let why : ModeErr = c.in_err-write_bytes.field-0.0 in
    subst (λ (n : Names). RunsRecover g.H.World.tells n s0 s2 c.from_residual-in_err-write_bytes.result) c.in_ok-names.ensures.names
    (subst (λ (r : Ended Recovery). RunsRecover g.H.World.tells names s0 s2 r) (ap (λ (w : ModeErr). failed_as w) (sym c.in_err-write_bytes.ensures.failed) ∙ refused_as c.from_residual-in_err-write_bytes.result why c.from_residual-in_err-write_bytes.ensures.1)
    (mode_cut IsSame (IsRecovery remains) (RefusesRecover remains) g.H.World.tells (most_reads remains) s0 s1 s2 (found_recovery found) c.bytes.result.now
    (λ told. subst (IsRecovery remains (found_recovery found)) (sym c.bytes.ensures) (found_is remains found (c.in_ok-found.ensures.found told)))
    (reads_ready s0 s1 c.in_ok-found.ensures.reading) c.write_bytes.ensures.outputs c.write_bytes.ensures.calls (c.in_err-write_bytes.ensures.cause.risen refl) c.in_err-write_bytes.ensures.err))

pub returns : goal.returns
returns g c =
    let s0 : Scene = g.H.World.scene c.args.host.now in
    let s1 : Scene = g.H.World.scene c.find.new.host in
    let s2 : Scene = g.H.World.scene c.write_bytes.new.out in
    let names : Names = c.in_ok-names.names in
    let remains : Remains = remains_in s0 names in
    let found : Found = c.in_ok-found.found in
    subst (λ (n : Names). RunsRecover g.H.World.tells n s0 s2 (Ok c.recovery.result)) c.in_ok-names.ensures.names
    (subst (λ (r : Recovery). RunsRecover g.H.World.tells names s0 s2 (Ok r)) (sym c.recovery.ensures)
    (mode_wrote IsSame (IsRecovery remains) (RefusesRecover remains) g.H.World.tells (most_reads remains) s0 s1 s2 (found_recovery found) c.bytes.result.now
    (λ told. subst (IsRecovery remains (found_recovery found)) (sym c.bytes.ensures) (found_is remains found (c.in_ok-found.ensures.found told)))
    (reads_ready s0 s1 c.in_ok-found.ensures.reading) c.write_bytes.ensures.outputs c.write_bytes.ensures.calls c.in_ok-write_bytes.ensures.none c.in_ok-write_bytes.ensures.ok))
