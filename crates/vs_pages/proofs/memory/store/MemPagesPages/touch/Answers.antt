use Rattle.std.proofs.Common.{refl}
use Rattle.vs_pages.specs.Maps.{no_pages}
use Rattle.vs_pages.specs.Memory.{kept_of}
use Rattle.vs_pages.proofs.Pasts.{same_kept}
use Rattle.vs_pages.proofs.Sights.{read_there}
use Rattle.vs_pages.proofs.memory.store.MemPagesPages.touch.Goals as goal

pub touch_places-requires-clause-there : goal.touch_places-requires-clause-there
touch_places-requires-clause-there c = read_there no_pages (kept_of c.args.self.now) c.args.at c.args.pages (c.requires.there refl)

pub returns-in_err-touch_places-clause-kept : goal.returns-in_err-touch_places-clause-kept
returns-in_err-touch_places-clause-kept c = same_kept no_pages c.args.self.now c.touch_places.new.self c.in_err-touch_places.ensures.err

pub returns-clause-kept : goal.returns-clause-kept
returns-clause-kept c = c.in_ok-touch_places.ensures.ok.kept no_pages
