use Rattle.std.proofs.Common.{[], ◌∷◌, refl}
use Rattle.vs_host.specs.Trace.{Renamed}
use Rattle.vs_backup.proofs.Going.{GoesOn-call}
use Rattle.vs_test_backup.proofs.desk.TextDeskDesk.rename.Goals as goal

pub returns-clause-kept : goal.returns-clause-kept
returns-clause-kept g c =
    let on = c.rename.ensures in
    GoesOn-call Renamed (c.args.from.now ∷ c.args.to.now ∷ []) c.rename.result c.requires.valid refl on.cause on.quiet on.told on.frame
