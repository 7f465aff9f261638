use Rattle.std.proofs.Common.{IsSome, refl, sym, subst}
use Rattle.vs_pages.specs.Maps.{Map, pages_at}
use Rattle.vs_pages.specs.State.{PageState}
use Rattle.vs_test_pair.proofs.life.start_text.Goals as goal

pub fill_first-requires : goal.fill_first-requires
fill_first-requires g c = record { there = subst (λ (m : Map). IsSome (pages_at m 2 1)) (sym c.in_ok-pair.ensures.present) refl }

pub returns-in-Ok-clause-fits : goal.returns-in-Ok-clause-fits
returns-in-Ok-clause-fits g c told = record { fit = (_, _, _, c.in-Ok.ensures.ok told); stored = c.in-Ok.ensures.stored told }

pub returns-in-Ok-clause-there : goal.returns-in-Ok-clause-there
returns-in-Ok-clause-there g c told = subst (λ (s : PageState). IsSome (pages_at s.present 2 1)) (sym (c.in-Ok.ensures.shown told)) c.in_ok-fill_first.ensures.there
