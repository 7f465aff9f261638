use Rattle.std.proofs.Common.{arith}
use Rattle.vs_pages.specs.Maps.{no_pages}
use Rattle.vs_pages.proofs.Pasts.{before_length}
use Rattle.vs_pair.specs.Pair.{away_of}
use Rattle.vs_pair.proofs.lent.PairPagesPages.mark.Goals as goal

pub returns : goal.returns
returns g c = omega (arith, c.mark.ensures, before_length (away_of c.args.self.now.pair.now.files (g.F.World.scene c.args.self.now.host.now).folder) c.args.self.now.pair.now.pages, before_length no_pages c.args.self.now.pair.now.pages)
