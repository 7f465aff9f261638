use Rattle.vs_pages.specs.Maps.{no_pages}
use Rattle.vs_pages.proofs.Pasts.{same_kept}
use Rattle.vs_pages.proofs.memory.store.MemPagesPages.patch.Goals as goal

pub returns-in_err-patch_place-clause-kept : goal.returns-in_err-patch_place-clause-kept
returns-in_err-patch_place-clause-kept c = same_kept no_pages c.args.self.now c.patch_place.new.self c.in_err-patch_place.ensures.err

pub returns-clause-ok : goal.returns-clause-ok
returns-clause-ok c = λ told. c.in_ok-patch_place.ensures.ok.present no_pages

pub returns-clause-kept : goal.returns-clause-kept
returns-clause-kept c = c.in_ok-patch_place.ensures.ok.kept no_pages
