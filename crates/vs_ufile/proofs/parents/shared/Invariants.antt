use Rattle.vs_ufile.proofs.Above.{AreOthers}
use Rattle.vs_ufile.proofs.parents.shared.Given as goal

abbrev pub invariant-places : goal.invariant-places
invariant-places l = AreOthers l.before l.parents l.last.items l.place l.marks.items
