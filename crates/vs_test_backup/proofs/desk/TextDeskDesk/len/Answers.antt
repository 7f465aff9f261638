use Rattle.std.proofs.Common.{[], ◌∷◌, refl}
use Rattle.vs_host.specs.Trace.{Measured}
use Rattle.vs_backup.proofs.Going.{OnlyReads-call}
use Rattle.vs_test_backup.proofs.desk.TextDeskDesk.len.Goals as goal

pub returns-clause-kept : goal.returns-clause-kept
returns-clause-kept g c =
    let on = c.len.ensures in
    OnlyReads-call Measured (c.args.name.now ∷ []) c.len.result c.requires.valid refl on.cause on.quiet on.told on.frame
