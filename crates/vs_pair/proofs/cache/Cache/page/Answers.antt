use Rattle.std.proofs.Common.{◌∙◌, List, ℕ, Some, sym, ap}
use Rattle.vs_pair.proofs.cache.Cache.page.Goals as goal

pub returns-clause-page : goal.returns-clause-page
returns-clause-page c = λ on map is has.
    is c.args.at has c.in_ok-peek.field-0.now (sym c.in_ok-peek.ensures) ∙ ap (λ (l : List ℕ). Some l) (sym c.deref.ensures.value)
