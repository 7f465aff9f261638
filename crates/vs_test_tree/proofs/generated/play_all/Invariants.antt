use Rattle.vs_test_tree.proofs.generated.play_all.Given as goal

abbrev pub invariant-loop-call : goal.invariant-loop-call
invariant-loop-call g l = g.S.LineStore.valid l.tree × g.T.LineStore.valid l.plain
