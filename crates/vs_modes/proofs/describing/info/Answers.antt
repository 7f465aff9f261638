use Rattle.std.proofs.Common.{◌+◌, refl, sym, subst}
use Rattle.vs_host.specs.declared.names.Names.{Names}
use Rattle.vs_host.specs.Names.{names_of_file}
use Rattle.vs_host.specs.World.{Scene, content_of}
use Rattle.vs_recover.specs.Reading.{blocks_at}
use Rattle.vs_recover.specs.declared.error.RecErr.{RecErr}
use Rattle.vs_modes.specs.Refusals.{refusal_of}
use Rattle.vs_modes.specs.declared.error.ModeErr.TheVariants as refusal
use Rattle.vs_modes.specs.Info.{AreInfos, RefusesInfo, RunsInfo}
use Rattle.vs_modes.specs.Modes.{Ended}
use Rattle.vs_modes.specs.Moments.{IsSame}
use Rattle.vs_modes.proofs.Phases.{failed_as, refused_as, mode_idle, mode_written, reading_refused, reads_ready}
use Rattle.vs_modes.proofs.RefusalLaws.{infos_refused, infos_are, not_output, reads_refused}
use Rattle.vs_modes.proofs.describing.info.Goals as goal

pub returns-in_err-names : goal.returns-in_err-names
returns-in_err-names g c =
    let s0 : Scene = g.H.World.scene c.args.host.now in
    let names : Names = names_of_file c.args.name.now in
    subst (λ (r : Ended (Unit {0})). RunsInfo g.H.World.tells names s0 s0 r) (refused_as c.from_residual.result refusal.NoMemory c.from_residual.ensures.1)
    (mode_idle IsSame (λ done. AreInfos (content_of s0 names.swp) (content_of s0 names.swo) names.swp names.swo) (RefusesInfo (content_of s0 names.swp) (content_of s0 names.swo)) g.H.World.tells (6 + blocks_at s0 names.swp + blocks_at s0 names.swo + 1) s0 refl tt)

pub returns-in_err-lines : goal.returns-in_err-lines
returns-in_err-lines g c =
    let s0 : Scene = g.H.World.scene c.args.host.now in
    let s1 : Scene = g.H.World.scene c.info.new.host in
    let names : Names = c.in_ok-names.names in
    let why : RecErr = c.in_err-lines.field-0.0 in
    subst (λ (n : Names). RunsInfo g.H.World.tells n s0 s1 c.from_residual-in_err-lines.result) c.in_ok-names.ensures.names
    (subst (λ (r : Ended (Unit {0})). RunsInfo g.H.World.tells names s0 s1 r) (refused_as c.from_residual-in_err-lines.result (refusal_of why) c.from_residual-in_err-lines.ensures.1)
    (reading_refused (λ done. AreInfos (content_of s0 names.swp) (content_of s0 names.swo) names.swp names.swo) (RefusesInfo (content_of s0 names.swp) (content_of s0 names.swo)) g.H.World.tells s0 s1 (refusal_of why) (not_output why)
    (reads_refused {U = Unit {0}} {result = failed_as (refusal_of why)} refl refl c.in_err-lines.ensures.reading) (λ told. infos_refused (content_of s0 names.swp) (content_of s0 names.swo) names.swp names.swo why (c.in_err-lines.ensures.answer told))))

pub returns : goal.returns
returns g c =
    let s0 : Scene = g.H.World.scene c.args.host.now in
    let s1 : Scene = g.H.World.scene c.info.new.host in
    let s2 : Scene = g.H.World.scene c.write_bytes.new.out in
    let names : Names = c.in_ok-names.names in
    subst (λ (n : Names). RunsInfo g.H.World.tells n s0 s2 c.write_bytes.result) c.in_ok-names.ensures.names
    (mode_written IsSame (λ done. AreInfos (content_of s0 names.swp) (content_of s0 names.swo) names.swp names.swo) (RefusesInfo (content_of s0 names.swp) (content_of s0 names.swo)) g.H.World.tells (6 + blocks_at s0 names.swp + blocks_at s0 names.swo) s0 s1 s2 c.deref.result.now c.write_bytes.result
    (λ told. subst (AreInfos (content_of s0 names.swp) (content_of s0 names.swo) names.swp names.swo) (sym c.deref.ensures.value) (infos_are (content_of s0 names.swp) (content_of s0 names.swo) names.swp names.swo c.in_ok-lines.lines (c.in_ok-lines.ensures.answer told)))
    (reads_ready s0 s1 c.in_ok-lines.ensures.reading) c.write_bytes.ensures.outputs c.write_bytes.ensures.calls c.write_bytes.ensures.cause c.write_bytes.ensures.none c.write_bytes.ensures.failed c.write_bytes.ensures.ok c.write_bytes.ensures.err)
