-- The pages of a new store are those that a new tree asks for.
use Rattle.vs_tree_blocks.proofs.FirstLemmas.{fresh_first}
use Rattle.vs_test_global.proofs.nested.check_in_a_tree.Goals as goal

pub new-requires-2-clause-there : goal.new-requires-2-clause-there
new-requires-2-clause-there g c = λ _. fresh_first _ c.in_ok-memory.ensures.present
