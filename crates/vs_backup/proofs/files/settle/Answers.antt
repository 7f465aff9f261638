use Rattle.std.proofs.Common.{refl}
use Rattle.vs_host.specs.World.{Scene}
use Rattle.vs_backup.proofs.Settling.{synced_in_order}
use Rattle.vs_backup.proofs.Going as going
use Rattle.vs_backup.proofs.files.settle.Goals as goal

pub returns-in_err-sync_directory-clause-kept : goal.returns-in_err-sync_directory-clause-kept
returns-in_err-sync_directory-clause-kept g c = going.GoesOn-any c.from_residual-in_err-sync_directory.result _ c.from_residual-in_err-sync_directory.ensures.1 refl (going.GoesOn-then g.met.D.Desk.stays_on (λ is. absurd (cc)) c.in_ok-sync_file.ensures.kept c.in_err-sync_directory.ensures.kept)

pub returns-clause-kept : goal.returns-clause-kept
returns-clause-kept g c = going.GoesOn-as (λ is. absurd (cc)) (λ _ is. absurd (cc)) (going.GoesOn-then g.met.D.Desk.stays_on (λ is. absurd (cc)) c.in_ok-sync_file.ensures.kept c.in_ok-sync_directory.ensures.kept)

pub returns-clause-order : goal.returns-clause-order
returns-clause-order g c =
    let s0 : Scene = g.D.World.scene c.args.desk.now in
    let s1 : Scene = g.D.World.scene c.sync_file.new.desk in
    let s2 : Scene = g.D.World.scene c.sync_directory.new.desk in
    synced_in_order g.D.World.tells.folder c.args.name.now s0 s1 s2 c.in_ok-sync_file.ensures.told c.in_ok-sync_directory.ensures.told
