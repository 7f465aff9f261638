use Rattle.std.proofs.Common.{map}
use Rattle.vs_ufile.specs.Changes.{placed_of}
use Rattle.vs_ufile.specs.Failing.{IsLeastMarked}
use Rattle.vs_ufile.specs.Reading.{numbers_of}
use Rattle.vs_ufile.proofs.tree.least_marked.Given as goal

abbrev pub invariant-changes : goal.invariant-changes
invariant-changes l = IsLeastMarked l.marks (numbers_of (map placed_of l.changes.placed.items)) l.i l.least
