use Rattle.std.proofs.Common.{[], ◌∷◌, refl}
use Rattle.vs_host.specs.Trace.{Cut}
use Rattle.vs_backup.proofs.Going.{GoesOn-call}
use Rattle.vs_test_backup.proofs.desk.TextDeskDesk.cut.Goals as goal

pub returns-clause-kept : goal.returns-clause-kept
returns-clause-kept g c =
    let on = c.cut.ensures in
    GoesOn-call Cut (c.args.name.now ∷ []) c.cut.result c.requires.valid refl on.cause on.quiet on.told on.frame
