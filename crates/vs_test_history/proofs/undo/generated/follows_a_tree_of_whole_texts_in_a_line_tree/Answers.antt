-- The pages of a new store are those that a new tree asks for.
use Rattle.vs_tree_blocks.proofs.FirstLemmas.{fresh_first}
use Rattle.vs_test_history.proofs.undo.generated.follows_a_tree_of_whole_texts_in_a_line_tree.Goals as goal

pub new-requires-2-clause-there : goal.new-requires-2-clause-there
new-requires-2-clause-there g c = λ _. fresh_first _ c.in_ok-pages.ensures.present
