use Rattle.vs_pages.specs.Maps.{no_pages}
use Rattle.vs_tree_blocks.proofs.FirstLemmas.{fresh_first}
use Rattle.vs_test_pair.proofs.life.put_tree.Goals as goal

pub new-requires-clause-there : goal.new-requires-clause-there
new-requires-clause-there c = λ told. fresh_first _ c.requires.present

pub returns : goal.returns
returns c = record { here = λ here. c.new.ensures.stays.backed no_pages here }
