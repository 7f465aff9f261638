use Rattle.std.proofs.Common.{[], ◌∷◌, refl}
use Rattle.vs_host.specs.Trace.{Read}
use Rattle.vs_backup.proofs.Going.{OnlyReads-call}
use Rattle.vs_test_backup.proofs.desk.TextDeskDesk.read_at.Goals as goal

pub returns-clause-kept : goal.returns-clause-kept
returns-clause-kept g c =
    let on = c.read_at.ensures in
    OnlyReads-call Read (c.args.name.now ∷ []) c.read_at.result c.requires.valid refl on.cause on.quiet on.told on.frame
