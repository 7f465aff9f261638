use Rattle.std.proofs.Common.{refl}
use Rattle.vs_host.specs.Disk.{mode_in}
use Rattle.vs_host.specs.World.{Scene}
use Rattle.vs_backup.proofs.Modes.{copies_filled, makes_fills, makes_looks, makes_then}
use Rattle.vs_backup.proofs.Going as going
use Rattle.vs_backup.proofs.backup.start_over.Goals as goal

pub returns-in_err-empty_file-clause-kept : goal.returns-in_err-empty_file-clause-kept
returns-in_err-empty_file-clause-kept g c = going.GoesOn-any c.from_residual-in_err-empty_file.result _ c.from_residual-in_err-empty_file.ensures.1 refl (going.GoesOn-then g.met.D.Desk.stays_on (λ is. absurd (cc)) c.in_ok-copy_to_backup.ensures.kept c.in_err-empty_file.ensures.kept)

pub returns-clause-kept : goal.returns-clause-kept
returns-clause-kept g c = going.GoesOn-as (λ is. absurd (cc)) (λ _ is. absurd (cc)) (going.GoesOn-then g.met.D.Desk.stays_on (λ is. absurd (cc)) c.in_ok-copy_to_backup.ensures.kept c.in_ok-empty_file.ensures.kept)

pub returns-in_err-empty_file-clause-modes : goal.returns-in_err-empty_file-clause-modes
returns-in_err-empty_file-clause-modes g c =
    let s0 : Scene = g.D.World.scene c.args.desk.now in
    let s1 : Scene = g.D.World.scene c.copy_to_backup.new.desk in
    let s2 : Scene = g.D.World.scene c.empty_file.new.desk in
    makes_then c.copy_to_backup.ensures.kept.frame c.copy_to_backup.ensures.modes (makes_looks g.D.World.tells.folder (mode_in s0.folder c.args.name.now) s1 s2 c.in_err-empty_file.ensures.err.looks)

pub returns-clause-modes : goal.returns-clause-modes
returns-clause-modes g c =
    let s0 : Scene = g.D.World.scene c.args.desk.now in
    let s1 : Scene = g.D.World.scene c.copy_to_backup.new.desk in
    let s2 : Scene = g.D.World.scene c.empty_file.new.desk in
    makes_then c.copy_to_backup.ensures.kept.frame c.copy_to_backup.ensures.modes (makes_fills g.D.World.tells.folder c.args.name.now (mode_in s0.folder c.args.name.now) s1 s2 c.in_ok-empty_file.ensures.ok.runs)

pub returns-clause-mode : goal.returns-clause-mode
returns-clause-mode g c =
    copies_filled g.D.World.tells.folder c.args.name.now c.args.backup.now (g.D.World.scene c.args.desk.now) (g.D.World.scene c.copy_to_backup.new.desk) (g.D.World.scene c.empty_file.new.desk)
    c.in_ok-copy_to_backup.ensures.mode c.in_ok-empty_file.ensures.ok.runs
