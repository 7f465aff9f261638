use Rattle.vs_pages.proofs.TableLemmas.{here-counted}
use Rattle.vs_pages.proofs.memory.store.MemPagesPages.count.Goals as goal

pub returns : goal.returns
returns c = λ _. here-counted c.args.self.now.table.places.items c.args.self.now.table.here c.args.self.now.table.here_counted
