use Rattle.vs_ufile.proofs.Descents.{indexed}
use Rattle.vs_ufile.proofs.descent.index_of.Goals as goal

pub changes-preserved : goal.changes-preserved
changes-preserved c =
    indexed c.args.changes.now c.changes.i c.index-changes-i.result c.changes.index c.insert.new.self c.requires c.changes-test.true c.index-changes-i.is c.changes.invariant c.in_ok-insert.ensures.updates
