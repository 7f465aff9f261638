use Rattle.std.proofs.Common.{[], ◌∷◌, refl}
use Rattle.vs_host.specs.Trace.{Synced}
use Rattle.vs_backup.proofs.Going.{GoesOn-call}
use Rattle.vs_test_backup.proofs.desk.TextDeskDesk.sync_like.Goals as goal

pub returns-clause-kept : goal.returns-clause-kept
returns-clause-kept g c =
    let on = c.sync_like.ensures in
    GoesOn-call Synced (c.args.name.now ∷ []) c.sync_like.result c.requires.valid refl on.cause on.quiet on.told on.frame
