use Rattle.vs_pages.specs.Maps.{no_pages}
use Rattle.vs_pages.proofs.Pasts.{same_kept}
use Rattle.vs_pages.proofs.memory.store.MemPagesPages.grow.Goals as goal

pub returns-in_err-grow_places-clause-kept : goal.returns-in_err-grow_places-clause-kept
returns-in_err-grow_places-clause-kept c = same_kept no_pages c.args.self.now c.grow_places.new.self c.in_err-grow_places.ensures.err

pub returns-clause-kept : goal.returns-clause-kept
returns-clause-kept c = c.in_ok-grow_places.ensures.ok.kept no_pages
