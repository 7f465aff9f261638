-- The pages are fresh, and the store that counts has the tree that was made in them.
use Rattle.vs_tree_blocks.proofs.FirstLemmas.{fresh_first}
use Rattle.vs_load.proofs.changes.change.Goals as goal

pub new-requires-2-clause-there : goal.new-requires-2-clause-there
new-requires-2-clause-there c = λ _. fresh_first _ c.in_ok-memory.ensures.present
