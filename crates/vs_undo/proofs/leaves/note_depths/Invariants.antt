use Rattle.std.proofs.Common.{◌-◌}
use Rattle.vs_undo.specs.Leaves.{AreDepths, HasDepth}
use Rattle.vs_undo.proofs.leaves.note_depths.Given as goal

abbrev pub invariant-loop-passed : goal.invariant-loop-passed
invariant-loop-passed l = record {
  depths : AreDepths l.nodes l.depths;
  left : HasDepth l.nodes l.at (l.depth - l.passed);
}
