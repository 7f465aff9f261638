use Rattle.std.proofs.Common.{arith}
use Rattle.vs_pages.specs.Maps.{no_pages}
use Rattle.vs_pages.proofs.Pasts.{before_length, reversed_length}
use Rattle.vs_pages.proofs.memory.store.MemPagesPages.mark.Goals as goal

pub returns : goal.returns
returns c = omega (arith, c.len.ensures, before_length no_pages c.args.self.now, reversed_length c.args.self.now.log.items)
