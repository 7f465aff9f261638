use Rattle.vs_pair.specs.Steps as steps
use Rattle.vs_pair.specs.Pair.{known_of}
use Rattle.vs_pair.proofs.Acts.{acts_as}
use Rattle.vs_paged.specs.Fits.{Ending}
use Rattle.vs_paged.proofs.SyncLemmas.{ending_documents}
use Rattle.vs_paged.proofs.paged.PagedText.end.Goals as goal

pub end-requires-clause-fits : goal.end-requires-clause-fits
end-requires-clause-fits g c told = let fits = (c.requires.fits told).2 in (fits.newest, fits.later, fits.past, fits.fit)

pub returns-clause-acts : goal.returns-clause-acts
returns-clause-acts g c =
    acts_as _ (steps.Ending (known_of c.args.self.pair (g.F.World.scene c.args.host.now).folder)) (Ending c.args.self) (g.F.World.scene c.args.host.now) (g.F.World.scene c.end.new.host) (λ told d ending. ending_documents c.args.self _ d ending) c.end.ensures.acts
