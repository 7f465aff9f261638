use Rattle.vs_tree_blocks.proofs.FirstLemmas.{fresh_first}
use Rattle.vs_test_tree.proofs.copies.lines_come_out_whole_and_in_parts.Goals as goal

pub new-requires-2-clause-there : goal.new-requires-2-clause-there
new-requires-2-clause-there g c = λ _. fresh_first _ c.in_ok-pages.ensures.present
