use Rattle.std.proofs.Common.{IsSome, sym, subst}
use Rattle.vs_pages.specs.Maps.{pages_at}
use Rattle.vs_pages.specs.State.{PageState}
use Rattle.vs_test_pair.proofs.life.sync_page.Goals as goal

pub returns-in-Ok-clause-fits : goal.returns-in-Ok-clause-fits
returns-in-Ok-clause-fits g c told =
    let was = (c.in_ok-put_page.ensures.fits told).fit in
    record { fit = (_, _, _, c.in-Ok.ensures.ok told was.0 was.1 was.2 was.3); stored = c.sync.ensures.stored told }

pub returns-in-Ok-clause-there : goal.returns-in-Ok-clause-there
returns-in-Ok-clause-there g c told = subst (λ (s : PageState). IsSome (pages_at s.present 2 1)) (sym (c.sync.ensures.shown told)) (c.in_ok-put_page.ensures.there told)

pub returns-in-Err-clause-fits : goal.returns-in-Err-clause-fits
returns-in-Err-clause-fits g c told =
    let was = (c.in_ok-put_page.ensures.fits told).fit in
    record { fit = (_, _, _, c.in-Err.ensures.err told was.0 was.1 was.2 was.3); stored = c.sync.ensures.stored told }

pub returns-in-Err-clause-there : goal.returns-in-Err-clause-there
returns-in-Err-clause-there g c told = subst (λ (s : PageState). IsSome (pages_at s.present 2 1)) (sym (c.sync.ensures.shown told)) (c.in_ok-put_page.ensures.there told)
