use Rattle.vs_ubind.proofs.Takes.{at_item, last_save_more}
use Rattle.vs_ubind.proofs.numbering.last_save_of.Goals as goal

pub changes-preserved : goal.changes-preserved
changes-preserved c =
    let changes = c.args.history.now.changes.items in
    let here = at_item c.deref-change-items.result.now changes c.changes.change-index c.change-item.result c.deref-change-items.ensures.value c.changes-test.true c.change-item.is in
    rw c.max-last.ensures (last_save_more changes c.changes.change-index c.change-item.result c.args.history.now.last_save c.changes.last here.0 here.1 c.changes.invariant)
