use Rattle.vs_outward.proofs.CountLemmas.{step_noted}
use Rattle.vs_outward.proofs.way.counts_on.Goals as goal

pub loop-k-preserved : goal.loop-k-preserved
loop-k-preserved c =
    let inv = c.loop-k.invariant in
    let made = c.note.ensures in
    let step = step_noted c.args.nodes.now c.requires c.args.changes.now c.loop-k.counts.items c.loop-k.k c.loop-k-test.true inv.count c.note.new.counts.items made.none made.some inv.each inv.all in
    record { count = step.0; each = step.1.0; all = step.1.1 }
