use Rattle.vs_ufile.specs.Walks.{AreMarks, FailsAbove}
use Rattle.vs_ufile.proofs.parents.failing_above.Given as goal

abbrev pub invariant-places : goal.invariant-places
invariant-places l = AreMarks l.place (FailsAbove l.before l.parents) l.marks.items
