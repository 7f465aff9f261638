use Rattle.std.proofs.Common.{◌≡◌, inl, [], ◌∷◌, IsTrue, sym, subst}
use Rattle.vs_host.specs.Disk.{Disk, CreatesFile}
use Rattle.vs_host.specs.Trace.{Created}
use Rattle.vs_host.specs.World.{Scene}
use Rattle.vs_disk.proofs.Runs.{call_on, one_call, runs_then}
use Rattle.vs_backup.specs.Works.{HasNew, IsAlone, Renews, Spares, one_name}
use Rattle.vs_backup.proofs.Frames.{either, spares_same, spares_then, spares_created, alone_created, ok_leads}
use Rattle.vs_backup.proofs.Modes.{for_after, for_any}
use Rattle.vs_backup.proofs.Renewing.{new_created}
use Rattle.vs_backup.proofs.Going as going
use Rattle.vs_backup.proofs.files.make_anew.Goals as goal

pub returns-clause-spares : goal.returns-clause-spares
returns-clause-spares g c told =
    let on = one_name c.args.name.now in
    let s0 : Scene = g.D.World.scene c.args.desk.now in
    let s1 : Scene = g.D.World.scene c.clear_name.new.desk in
    let s2 : Scene = g.D.World.scene c.create_for.new.desk in
    let here : Spares on s1.folder s2.folder =
    either (IsTrue g.D.World.tells.folder → CreatesFile c.args.name.now s1.folder s2.folder) (s2.folder ≡ s1.folder) (Spares on s1.folder s2.folder) c.create_for.result
    c.create_for.ensures.ok c.create_for.ensures.err (λ creates. spares_created c.args.name.now s1.folder s2.folder (creates told)) (λ same. spares_same on s1.folder s2.folder same) in
    call_on (Spares on) (spares_then on) Created (c.args.name.now ∷ []) c.create_for.result s0 s1 s2 c.clear_name.ensures.kept.frame (c.clear_name.ensures.spares told) c.create_for.ensures.kept.frame here (c.create_for.ensures.told told)

pub returns-clause-alone : goal.returns-clause-alone
returns-clause-alone g c =
    let s1 : Scene = g.D.World.scene c.clear_name.new.desk in
    let s2 : Scene = g.D.World.scene c.create_for.new.desk in
    ok_leads (IsTrue g.D.World.tells.folder → CreatesFile c.args.name.now s1.folder s2.folder) (IsTrue g.D.World.tells.folder → IsAlone c.args.name.now s2.folder) c.create_for.result
    (λ creates told. alone_created c.args.name.now s1.folder s2.folder (creates told)) c.create_for.ensures.ok

pub returns-clause-kept : goal.returns-clause-kept
returns-clause-kept g c = going.GoesOn-then g.met.D.Desk.stays_on (λ is. absurd (cc)) c.in_ok-clear_name.ensures.kept c.create_for.ensures.kept

pub returns-clause-renews : goal.returns-clause-renews
returns-clause-renews g c told =
    let name = c.args.name.now in
    let s0 : Scene = g.D.World.scene c.args.desk.now in
    let s1 : Scene = g.D.World.scene c.clear_name.new.desk in
    let s2 : Scene = g.D.World.scene c.create_for.new.desk in
    let cleared = c.clear_name.ensures.renews told in
    let here : Renews name s0.folder s2.folder =
    either (IsTrue g.D.World.tells.folder → CreatesFile name s1.folder s2.folder) (s2.folder ≡ s1.folder) (Renews name s0.folder s2.folder) c.create_for.result
    c.create_for.ensures.ok c.create_for.ensures.err (λ creates number leads. inl (new_created name s0.folder s1.folder s2.folder (c.clear_name.ensures.states told) (creates told) number leads))
    (λ same. subst (λ (d : Disk). Renews name s0.folder d) (sym same) cleared.now) in
    runs_then (Renews name) (λ a b. Renews name s0.folder b) (Renews name) s0 s1 s2 (λ d is. is) (λ d is. is) c.clear_name.ensures.kept.frame cleared
    (one_call (λ a b. Renews name s0.folder b) Created (name ∷ []) c.create_for.result s1 s2 c.create_for.ensures.kept.frame (c.create_for.ensures.told told) here)

pub returns-clause-anew : goal.returns-clause-anew
returns-clause-anew g c =
    let s0 : Scene = g.D.World.scene c.args.desk.now in
    let s1 : Scene = g.D.World.scene c.clear_name.new.desk in
    let s2 : Scene = g.D.World.scene c.create_for.new.desk in
    ok_leads (IsTrue g.D.World.tells.folder → CreatesFile c.args.name.now s1.folder s2.folder) (IsTrue g.D.World.tells.folder → HasNew c.args.name.now s0.folder s2.folder) c.create_for.result
    (λ creates told. new_created c.args.name.now s0.folder s1.folder s2.folder (c.clear_name.ensures.states told) (creates told)) c.create_for.ensures.ok

pub returns-in_err-clear_name-clause-modes : goal.returns-in_err-clear_name-clause-modes
returns-in_err-clear_name-clause-modes g c = for_any c.args.readers g.D.World.tells.folder (g.D.World.scene c.args.desk.now) (g.D.World.scene c.clear_name.new.desk) c.clear_name.ensures.modes

pub returns-clause-modes : goal.returns-clause-modes
returns-clause-modes g c =
    for_after c.args.readers g.D.World.tells.folder (g.D.World.scene c.args.desk.now) (g.D.World.scene c.clear_name.new.desk) (g.D.World.scene c.create_for.new.desk)
    c.clear_name.ensures.kept.frame c.clear_name.ensures.modes c.create_for.ensures.modes
