use Rattle.vs_undo.proofs.ForkLemmas.{AreLastUsed}
use Rattle.vs_undo.proofs.forks.first_fork.Given as goal

abbrev pub invariant-loop-node : goal.invariant-loop-node
invariant-loop-node l = AreLastUsed l.parts l.node-index l.fork
