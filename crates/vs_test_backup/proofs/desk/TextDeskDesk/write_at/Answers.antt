use Rattle.std.proofs.Common.{[], ◌∷◌, refl}
use Rattle.vs_host.specs.Trace.{Wrote}
use Rattle.vs_backup.proofs.Going.{GoesOn-call}
use Rattle.vs_test_backup.proofs.desk.TextDeskDesk.write_at.Goals as goal

pub returns-clause-kept : goal.returns-clause-kept
returns-clause-kept g c =
    let on = c.write_at.ensures in
    GoesOn-call Wrote (c.args.name.now ∷ []) c.write_at.result c.requires.valid refl on.cause on.quiet on.told on.frame
