use Rattle.std.proofs.Common.{◌≡◌, ◌⊎◌, inl, inr, refl}
use Rattle.vs_session.specs.declared.open.OpenErr.{OpenErr}
use Rattle.vs_session.specs.declared.open.OpenErr.TheVariants as opening
use Rattle.vs_session.proofs.OpenLemmas.{if_err, not_failed, ok_never}
use Rattle.vs_session.proofs.LookLemmas.{IsReading-calm, IsReading-first, IsReading-none}
use Rattle.vs_session.proofs.session.Session.has_swap.Goals as goal

pub returns-in_err-names-clause-errors : goal.returns-in_err-names-clause-errors
returns-in_err-names-clause-errors g c = if_err (λ (why : OpenErr). (why ≡ opening.Failed) ⊎ (why ≡ opening.NoMemory)) _ opening.NoMemory c.from_residual.ensures.1 (inr refl)

pub returns-in_err-names-clause-reading : goal.returns-in_err-names-clause-reading
returns-in_err-names-clause-reading g c = IsReading-none g.F.World.tells _ (g.F.World.scene c.args.host.now) (not_failed _ c.from_residual.ensures.1)

pub returns-in_err-found-clause-errors : goal.returns-in_err-found-clause-errors
returns-in_err-found-clause-errors g c = if_err (λ (why : OpenErr). (why ≡ opening.Failed) ⊎ (why ≡ opening.NoMemory)) _ opening.Failed c.from_residual-in_err-found.ensures.1 (inl refl)

pub returns-in_err-found-clause-reading : goal.returns-in_err-found-clause-reading
returns-in_err-found-clause-reading g c = IsReading-first g.F.World.tells _ c.in_err-found.ensures.look refl c.from_residual-in_err-found.ensures.1

pub returns-clause-reading : goal.returns-clause-reading
returns-clause-reading g c =
    let look = c.in_ok-found.ensures.look in
    IsReading-calm g.F.World.tells _ (g.F.World.scene c.args.host.now) (g.F.World.scene c.has_swap.new.host) look.frame look.looks look.none ok_never
