use Rattle.vs_ufile.specs.Walks.{AreMarks, FailsAt}
use Rattle.vs_ufile.proofs.chains.failing_in_chains.Given as goal

abbrev pub invariant-places : goal.invariant-places
invariant-places l = AreMarks l.place (FailsAt l.after l.before) l.marks.items
