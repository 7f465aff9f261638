use Rattle.std.proofs.Common.{[], ◌∷◌, refl}
use Rattle.vs_host.specs.Trace.{Looked}
use Rattle.vs_backup.proofs.Going.{OnlyReads-call}
use Rattle.vs_test_backup.proofs.desk.TextDeskDesk.has.Goals as goal

pub returns-clause-kept : goal.returns-clause-kept
returns-clause-kept g c =
    let on = c.has.ensures in
    OnlyReads-call Looked (c.args.name.now ∷ []) c.has.result c.requires.valid refl on.cause on.quiet on.told on.frame
