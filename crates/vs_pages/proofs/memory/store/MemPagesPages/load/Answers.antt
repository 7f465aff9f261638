use Rattle.vs_pages.specs.Memory.{present_of}
use Rattle.vs_pages.specs.MemoryLaws.{are_present}
use Rattle.vs_pages.proofs.MapsLemmas.{pages_at-length}
use Rattle.vs_pages.proofs.memory.store.MemPagesPages.load.Goals as goal

pub returns-clause-size : goal.returns-clause-size
returns-clause-size c = pages_at-length (present_of c.args.self.now) c.args.at c.args.pages c.copy_pages.new.into.items (are_present c.args.self.now) c.in_ok-copy_pages.ensures
