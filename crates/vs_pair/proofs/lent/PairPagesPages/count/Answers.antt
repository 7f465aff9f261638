use Rattle.vs_pair.specs.Pair.{away_of}
use Rattle.vs_pair.proofs.lent.PairPagesPages.count.Goals as goal

pub returns : goal.returns
returns g c = λ told. c.count_places.ensures (away_of c.args.self.now.pair.now.files (g.F.World.scene c.args.self.now.host.now).folder) (c.requires.valid told).stored.backed
