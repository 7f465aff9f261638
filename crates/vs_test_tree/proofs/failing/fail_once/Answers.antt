use Rattle.std.proofs.Common.{sym, subst}
use Rattle.vs_pages.specs.Memory.{present_of}
use Rattle.vs_pages.specs.declared.failing.FailingPages.{FailingPages}
use Rattle.vs_tree_blocks.specs.Blocks.{IsFresh}
use Rattle.vs_tree_blocks.proofs.FirstLemmas.{fresh_first}
use Rattle.vs_test_tree.proofs.failing.fail_once.Goals as goal

pub new-requires-2-clause-there : goal.new-requires-2-clause-there
new-requires-2-clause-there g c = λ _. subst (λ (f : FailingPages 1). IsFresh (present_of f.pages)) (sym c.new-pages.ensures) (fresh_first _ c.in_ok-memory.ensures.present)
