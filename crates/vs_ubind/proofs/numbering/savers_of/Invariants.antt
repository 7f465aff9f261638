use Rattle.std.proofs.Common.{map, take}
use Rattle.vs_ufile.specs.Values.{change_of}
use Rattle.vs_ubind.specs.Taken.{AreSavers}
use Rattle.vs_ubind.proofs.numbering.savers_of.Given as goal

abbrev pub invariant-changes : goal.invariant-changes
invariant-changes l = AreSavers (map change_of (take l.change-index l.changes)) l.savers
