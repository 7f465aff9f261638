use Rattle.std.proofs.Common.{[], refl}
use Rattle.vs_host.specs.Trace.{SyncedNames}
use Rattle.vs_backup.proofs.Going.{GoesOn-call}
use Rattle.vs_test_backup.proofs.desk.TextDeskDesk.sync_names.Goals as goal

pub returns-clause-kept : goal.returns-clause-kept
returns-clause-kept g c =
    let on = c.sync_names.ensures in
    GoesOn-call SyncedNames [] c.sync_names.result c.requires.valid refl on.cause on.quiet on.told on.frame
