use Rattle.vs_test_tree.proofs.layout.push_lines.Given as goal

abbrev pub invariant-loop : goal.invariant-loop
invariant-loop g l = g.S.LineStore.valid l.store
