use Rattle.std.proofs.Common.{IsSome, refl, sym, subst, ◌∙◌}
use Rattle.vs_pages.specs.Maps.{Map, no_pages, pages_at}
use Rattle.vs_test_pair.proofs.life.fill_first.Goals as goal

pub returns-clause-there : goal.returns-clause-there
returns-clause-there c = subst (λ (m : Map). IsSome (pages_at m 2 1)) (sym (c.commit.ensures.present refl ∙ c.in_ok-touch.ensures.ok refl)) refl

pub returns-clause-here : goal.returns-clause-here
returns-clause-here c = λ here. c.commit.ensures.stays.backed no_pages (c.in_ok-touch.ensures.kept.stays.backed no_pages here)
