use Rattle.vs_pages.specs.Maps.{no_pages}
use Rattle.vs_pages.proofs.Pasts.{all_undone, none_worked}
use Rattle.vs_pages.proofs.memory.store.MemPagesPages.rollback.Goals as goal

pub returns-clause-present : goal.returns-clause-present
returns-clause-present c = λ told. (all_undone no_pages c.args.self.now c.undo_to.new.self (c.undo_to.ensures.back no_pages)).0

pub returns-clause-worked : goal.returns-clause-worked
returns-clause-worked c = λ told. none_worked c.undo_to.new.self c.undo_to.ensures.count

pub returns-clause-before : goal.returns-clause-before
returns-clause-before c = (all_undone no_pages c.args.self.now c.undo_to.new.self (c.undo_to.ensures.back no_pages)).1
