use Rattle.vs_test_tree.proofs.failing.play.Given as goal

abbrev pub invariant-loop : goal.invariant-loop
invariant-loop g l = g.S.LineStore.valid l.store
