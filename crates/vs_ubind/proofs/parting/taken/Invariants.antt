use Rattle.std.proofs.Common.{map}
use Rattle.vs_ufile.specs.Values.{change_of}
use Rattle.vs_ubind.proofs.Takes.{AreFirst}
use Rattle.vs_ubind.proofs.parting.taken.Given as goal

abbrev pub invariant-changes : goal.invariant-changes
invariant-changes l = AreFirst (map change_of l.changes) l.i l.nodes.items
