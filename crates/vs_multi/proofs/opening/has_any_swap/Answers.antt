use Rattle.std.proofs.Common.{◌≡◌, ◌⊎◌}
use Rattle.vs_session.specs.declared.open.OpenErr.{OpenErr}
use Rattle.vs_session.specs.declared.open.OpenErr.TheVariants as opening
use Rattle.vs_session.proofs.OpenLemmas.{if_err}
use Rattle.vs_session.proofs.LookLemmas.{IsReading-handed}
use Rattle.vs_multi.proofs.Opens.{looked_then}
use Rattle.vs_multi.proofs.opening.has_any_swap.Goals as goal

pub returns-in_err-has_swap-clause-errors : goal.returns-in_err-has_swap-clause-errors
returns-in_err-has_swap-clause-errors g c =
    if_err (λ (why : OpenErr). (why ≡ opening.Failed) ⊎ (why ≡ opening.NoMemory)) _ _ c.from_residual.ensures.1 c.in_err-has_swap.ensures.errors

pub returns-in_err-has_swap-clause-reading : goal.returns-in_err-has_swap-clause-reading
returns-in_err-has_swap-clause-reading g c = IsReading-handed g.F.World.tells _ c.in_err-has_swap.ensures.reading c.from_residual.ensures.1

pub returns-clause-reading : goal.returns-clause-reading
returns-clause-reading g c = looked_then g.F.World.tells c.has_swap-2.result c.in_ok-has_swap.ensures.reading c.has_swap-2.ensures.reading
