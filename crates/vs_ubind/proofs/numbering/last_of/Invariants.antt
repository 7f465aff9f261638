use Rattle.std.proofs.Common.{map, take}
use Rattle.vs_ufile.specs.Tree.{IsChange}
use Rattle.vs_ufile.specs.Values.{change_of}
use Rattle.vs_ubind.specs.Meaning.{IsGreatest}
use Rattle.vs_ubind.proofs.numbering.last_of.Given as goal

abbrev pub invariant-changes : goal.invariant-changes
invariant-changes l = IsGreatest l.history.last (IsChange (map change_of (take l.change-index l.history.changes.items))) l.last
