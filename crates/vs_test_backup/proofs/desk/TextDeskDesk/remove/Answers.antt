use Rattle.std.proofs.Common.{[], ◌∷◌, refl}
use Rattle.vs_host.specs.Trace.{Removed}
use Rattle.vs_backup.proofs.Going.{GoesOn-call}
use Rattle.vs_test_backup.proofs.desk.TextDeskDesk.remove.Goals as goal

pub returns-clause-kept : goal.returns-clause-kept
returns-clause-kept g c =
    let on = c.remove.ensures in
    GoesOn-call Removed (c.args.name.now ∷ []) c.remove.result c.requires.valid refl on.cause on.quiet on.told on.frame
