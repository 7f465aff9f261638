use Rattle.vs_tree_blocks.proofs.FirstLemmas.{fresh_first}
use Rattle.vs_test_tree.proofs.layout.lines_take_the_pages_that_the_layout_says.Goals as goal

pub new-requires-in-loop-size-clause-there : goal.new-requires-in-loop-size-clause-there
new-requires-in-loop-size-clause-there g c = λ _. fresh_first _ c.in_ok-memory.ensures.present
