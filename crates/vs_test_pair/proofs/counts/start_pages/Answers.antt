use Rattle.std.proofs.Common.{IsSome, sym, subst}
use Rattle.vs_pages.specs.Maps.{no_pages, pages_at}
use Rattle.vs_pages.specs.State.{PageState}
use Rattle.vs_test_pair.proofs.counts.start_pages.Goals as goal

pub start-requires-clause-here : goal.start-requires-clause-here
start-requires-clause-here g c told = c.commit.ensures.stays.backed no_pages (c.in_ok-grow.ensures.kept.stays.backed no_pages c.in_ok-pair.ensures.here)

pub returns-in-Ok-clause-fits : goal.returns-in-Ok-clause-fits
returns-in-Ok-clause-fits g c told = record { fit = (_, _, _, c.in-Ok.ensures.ok told); stored = c.in-Ok.ensures.stored told }

pub returns-in-Ok-clause-there : goal.returns-in-Ok-clause-there
returns-in-Ok-clause-there g c told = subst (λ (s : PageState). IsSome (pages_at s.present 2 1)) (sym (c.in-Ok.ensures.shown told)) (c.has.ensures.0 c.if-not-has.false)
