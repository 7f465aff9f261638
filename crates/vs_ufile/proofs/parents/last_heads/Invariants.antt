use Rattle.vs_ufile.specs.Walks.{AreLastHeads}
use Rattle.vs_ufile.proofs.parents.last_heads.Given as goal

abbrev pub invariant-places : goal.invariant-places
invariant-places l = AreLastHeads l.before l.parents l.place l.last.items
