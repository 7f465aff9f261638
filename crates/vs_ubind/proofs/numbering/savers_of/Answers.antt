use Rattle.vs_ubind.proofs.Takes.{savers_more}
use Rattle.vs_ubind.proofs.numbering.savers_of.Goals as goal

pub changes-preserved : goal.changes-preserved
changes-preserved c =
    savers_more c.args.changes.now c.changes.change-index c.change-item.result c.changes.savers c.insert.new.self c.saver_with-number.result c.changes-test.true c.change-item.is c.changes.invariant c.saver_with-number.ensures c.in_ok-insert.ensures.updates
